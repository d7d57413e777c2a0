-- Where a condition overlooks that an attribute is absent: a server ends the whole condition at a comparison with it, and
-- by the rules of the language the comparison is false and the rest goes on. What was captured is always there, empty or
-- not, and says nothing of an attribute; neither does a text, which is empty where the attribute is absent.
use Rattle.std.specs.Prelude.{◌≡◌, Bool, true, false, not, ◌&&◌, ◌||◌, List, [], ◌∷◌}
use Rattle.std.specs.List.{list_any}
use Rattle.avp_lists.specs.States.{empty_state}
use Rattle.avp_lists.specs.declared.lists.State.{State}
use Rattle.avp_dict.specs.Dictionary.{Dictionary}
use Rattle.avp_unlang.specs.Truth.{truth, truth_by}
use Rattle.avp_unlang.specs.declared.codes.Code.{Code}
use Rattle.avp_unlang.specs.declared.tree.Comparison.{Comparison}
use Rattle.avp_unlang.specs.declared.tree.Cond.{Cond}
use Rattle.avp_unlang.specs.declared.tree.Cond.TheFolds.{fold-Cond}
use Rattle.avp_unlang.specs.declared.tree.Cond.TheOpen.{Cond-F, Any, All, Not, Last, Present, PresentSelected, Compare, CompareMeant, CompareTexts, Match, MatchText, MatchGroup, Captured}
use Rattle.avp_unlang.specs.declared.tree.Cond.TheVariants as cond
use Rattle.avp_unlang.specs.declared.tree.Matching.{Matching}
use Rattle.avp_unlang.specs.declared.tree.TextComparison.{TextComparison}
use Rattle.policy_warnings.specs.Answers.{server_truth, server_truth_by}
use Rattle.policy_warnings.specs.Mentions.{comparison_mentions, implies, is_there, matching_mentions, meant_comparison_mentions, mentions, selected, side_mentions, whole}
use Rattle.policy_warnings.specs.declared.absences.Absence.{Absence}
use Rattle.policy_warnings.specs.declared.mentions.Mention.{Mention}

-- a condition that says nothing of the attribute
abbrev pub silent : Absence
silent = record {
  present_when_true = false;
  present_when_false = false;
  overlooked_when_true = false;
  overlooked_when_false = false;
}

-- one that is always true, so whatever is said of where it is false is right
abbrev pub always : Absence
always = record silent { present_when_false = true }

-- `!`
abbrev pub negated : Absence → Absence
negated a = record {
  present_when_true = a.present_when_false;
  present_when_false = a.present_when_true;
  overlooked_when_true = a.overlooked_when_false;
  overlooked_when_false = a.overlooked_when_true;
}

-- `a && b`: b is asked where a is true, and then the attribute is there if a says so; an absence that a overlooked is
-- none any more where what b comes to shows that the attribute is there
abbrev pub both : Absence → Absence → Absence
both a b = record {
  present_when_true = a.present_when_true || b.present_when_true;
  present_when_false = a.present_when_false && b.present_when_false;
  overlooked_when_true =
      (a.overlooked_when_true && not b.present_when_true)
      || (b.overlooked_when_true && not a.present_when_true);
  overlooked_when_false =
      a.overlooked_when_false
      || (a.overlooked_when_true && not b.present_when_false)
      || (b.overlooked_when_false && not a.present_when_true);
}

-- `a || b` is `!(!a && !b)`
abbrev pub either : Absence → Absence → Absence
either a b = negated (both (negated a) (negated b))

abbrev pub all_of : Absence → List Absence → Absence
all_of before [] = before
all_of before (a ∷ others) = all_of (both before a) others

abbrev pub any_of : Absence → List Absence → Absence
any_of before [] = before
any_of before (a ∷ others) = any_of (either before a) others

-- whether there is an instance
abbrev pub asked : Bool → Absence
asked implied = record silent { present_when_true = implied }

-- a comparison; it is false where what it looks at is absent
abbrev pub compared : Bool → Absence
compared implied = record silent { present_when_true = implied; overlooked_when_false = implied }

-- what looking at these instances says of m
abbrev pub any_implies : List Mention → Mention → Bool
any_implies looked m = list_any (λ (x : Mention). implies x m) looked

abbrev pub cond_absence : Mention → Cond-F Absence → Absence
cond_absence m (Any parts) = any_of (negated always) parts
cond_absence m (All parts) = all_of always parts
cond_absence m (Not part) = negated part
cond_absence m (Last word) = silent
cond_absence m (Present list id) = asked (implies (whole list id) m)
cond_absence m (PresentSelected list id selection) = asked (implies (selected list id selection) m)
cond_absence m (Compare k) = compared (any_implies (comparison_mentions k) m)
cond_absence m (CompareMeant k) = compared (any_implies (meant_comparison_mentions k) m)
cond_absence m (Match k) = compared (any_implies (matching_mentions k) m)
cond_absence m (CompareTexts k) = compared (any_implies (side_mentions k.left) m)
cond_absence m (MatchText k) = silent
cond_absence m (MatchGroup k) = silent
cond_absence m (Captured group) = silent

-- what a condition says of m, and where it overlooks that m is absent
unfoldable pub said_of : Mention → Cond → Absence
said_of m = fold-Cond Absence (cond_absence m)

-- a condition may be true although something that it compared was absent
abbrev pub warns_of_absence : Cond → Bool
warns_of_absence whole =
    list_any (λ (m : Mention). (said_of m whole).overlooked_when_true) (mentions whole)

-- ---- a comparison under `!`

abbrev pub negated_comparison : Comparison → Cond
negated_comparison k = cond.Not (cond.Compare k)

abbrev pub negated_matching : Matching → Cond
negated_matching k = cond.Not (cond.Match k)

abbrev pub negated_texts : TextComparison → Cond
negated_texts k = cond.Not (cond.CompareTexts k)

abbrev pub WarnsOfNegations : Type 0
WarnsOfNegations = (k : Comparison) → warns_of_absence (negated_comparison k) ≡ true

abbrev pub WarnsOfNegatedMatchings : Type 0
WarnsOfNegatedMatchings = (k : Matching) → warns_of_absence (negated_matching k) ≡ true

-- of an instance with a text
abbrev pub WarnsOfNegatedTexts : Type 0
WarnsOfNegatedTexts =
    (k : TextComparison) (m : Mention) → side_mentions k.left ≡ m ∷ []
    → warns_of_absence (negated_texts k) ≡ true

-- where its attribute is absent, the condition is true, and a server takes it as false
abbrev pub NegationsDiffer : Type 0
NegationsDiffer =
    (k : Comparison) (s : State) (c : Code) → is_there s (whole k.list k.id) ≡ false
    → (truth (negated_comparison k) s c ≡ true) × (server_truth (negated_comparison k) s c ≡ false)

abbrev pub NegatedMatchingsDiffer : Type 0
NegatedMatchingsDiffer =
    (d : Dictionary) (k : Matching) (s : State) (c : Code)
    → is_there s (selected k.list k.id k.selection) ≡ false
    → (truth_by d (negated_matching k) s c ≡ true)
    × (server_truth_by d (negated_matching k) s c ≡ false)

abbrev pub NegatedTextsDiffer : Type 0
NegatedTextsDiffer =
    (d : Dictionary) (k : TextComparison) (m : Mention) (s : State) (c : Code)
    → side_mentions k.left ≡ m ∷ [] → is_there s m ≡ false
    → (truth_by d (negated_texts k) s c ≡ true)
    × (server_truth_by d (negated_texts k) s c ≡ false)

-- as it is where no list has a pair
abbrev pub EmptyLacks : Type 0
EmptyLacks = (m : Mention) → is_there empty_state m ≡ false
