-- Conditions of a chain of `if` and `elsif` that repeat an earlier one of it: where they are asked they are false. One
-- that asks for what was captured repeats none, also not one of the same form: a comparison with a pattern may have
-- captured something else since. A comparison of an attribute with a pattern is repeated by another: both look at the
-- same lists, and what was captured has no part in it. It captures all the same where it is asked. A comparison of
-- texts, or of a text with a pattern, repeats none.
use Rattle.std.specs.Prelude.{ℕ, Bool, true, false, ◌&&◌, List, [], ◌∷◌, ◌++◌, bytes_eq}
use Rattle.std.specs.List.{flat_map, list_any}
use Rattle.avp_lists.specs.Pairs.{value_eq}
use Rattle.avp_dict.specs.declared.forms.Form.{Form}
use Rattle.avp_dict.specs.declared.forms.Form.TheVariants.{AsTyped, Ipv6Address, Ipv6Prefix, Ipv4Prefix, InterfaceId, Date, TaggedInteger, TaggedString}
use Rattle.avp_unlang.specs.PatternTruth.{pattern_in}
use Rattle.avp_unlang.specs.PolicyPatterns.{same_bool, same_pattern}
use Rattle.avp_unlang.specs.Truth.{same_code}
use Rattle.avp_unlang.specs.declared.tree.Branch.{Branch}
use Rattle.avp_unlang.specs.declared.tree.Comparand.{Comparand}
use Rattle.avp_unlang.specs.declared.tree.Comparand.TheVariants as comparand
use Rattle.avp_unlang.specs.declared.tree.Comparison.{Comparison}
use Rattle.avp_unlang.specs.declared.tree.Cond.{Cond}
use Rattle.avp_unlang.specs.declared.tree.Cond.TheFolds.{fold-Cond}
use Rattle.avp_unlang.specs.declared.tree.Cond.TheOpen.{Cond-F, Any, All, Not, Last, Present, PresentSelected, Compare, CompareMeant, Match, Captured}
use Rattle.avp_unlang.specs.declared.tree.Cond.TheViews.{out-Cond}
use Rattle.avp_unlang.specs.declared.tree.Matching.{Matching}
use Rattle.avp_unlang.specs.declared.tree.MeantComparand.{MeantComparand}
use Rattle.avp_unlang.specs.declared.tree.MeantComparand.TheVariants as meant
use Rattle.avp_unlang.specs.declared.tree.MeantComparison.{MeantComparison}
use Rattle.avp_unlang.specs.declared.tree.Relation.{Relation}
use Rattle.avp_unlang.specs.declared.tree.Relation.TheVariants.{Equal, Differs, Less, AtMost, Greater, AtLeast}
use Rattle.avp_unlang.specs.declared.tree.Statement.{Statement}
use Rattle.avp_unlang.specs.declared.tree.Statement.TheFolds.{fold-Statement, fold-Branch}
use Rattle.avp_unlang.specs.declared.tree.Statement.TheOpen.{Statement-F, Branch-F, Update, If, Transaction, Word}
use Rattle.policy_warnings.specs.Mentions.{means_same, selected, whole}
use Rattle.policy_warnings.specs.Warnings.{joined, joined_if_given, warning_if}
use Rattle.policy_warnings.specs.declared.warnings.Reason.TheVariants.{RepeatedCondition}
use Rattle.policy_warnings.specs.declared.warnings.Warning.{Warning}

-- ---- comparisons

abbrev pub same_relation : Relation → Relation → Bool
same_relation Equal Equal = true
same_relation Differs Differs = true
same_relation Less Less = true
same_relation AtMost AtMost = true
same_relation Greater Greater = true
same_relation AtLeast AtLeast = true
same_relation _ _ = false

abbrev pub same_form : Form → Form → Bool
same_form AsTyped AsTyped = true
same_form Ipv6Address Ipv6Address = true
same_form Ipv6Prefix Ipv6Prefix = true
same_form Ipv4Prefix Ipv4Prefix = true
same_form InterfaceId InterfaceId = true
same_form Date Date = true
same_form TaggedInteger TaggedInteger = true
same_form TaggedString TaggedString = true
same_form _ _ = false

abbrev pub same_comparand : Comparand → Comparand → Bool
same_comparand (comparand.Literal v) (comparand.Literal w) = value_eq v w
same_comparand (comparand.Instance list id) (comparand.Instance other n) =
    means_same (whole list id) (whole other n)
same_comparand _ _ = false

-- the attribute gives the type of the values
abbrev pub same_comparison : Comparison → Comparison → Bool
same_comparison k l =
    means_same (whole k.list k.id) (whole l.list l.id)
    && same_relation k.relation l.relation && same_comparand k.comparand l.comparand

abbrev pub same_meant_comparand : MeantComparand → MeantComparand → Bool
same_meant_comparand (meant.Literal form octets) (meant.Literal other wanted) =
    same_form form other && bytes_eq octets wanted
same_meant_comparand (meant.Instance list id selection form) (meant.Instance other n tags f) =
    means_same (selected list id selection) (selected other n tags)
same_meant_comparand _ _ = false

abbrev pub same_meant_comparison : MeantComparison → MeantComparison → Bool
same_meant_comparison k l =
    means_same (selected k.list k.id k.selection) (selected l.list l.id l.selection)
    && same_relation k.relation l.relation && same_meant_comparand k.comparand l.comparand

abbrev pub same_matching : Matching → Matching → Bool
same_matching k l =
    means_same (selected k.list k.id k.selection) (selected l.list l.id l.selection)
    && same_bool k.negated l.negated && same_pattern (pattern_in k) (pattern_in l)

-- ---- conditions

-- whether each of a list is the same as the one in its place of the other
abbrev pub all_same : List (Cond → Bool) → List Cond → Bool
all_same [] [] = true
all_same (is_same ∷ others) (c ∷ cs) = is_same c && all_same others cs
all_same _ _ = false

abbrev pub same_layer : Cond-F (Cond → Bool) → Cond-F Cond → Bool
same_layer (Any parts) (Any others) = all_same parts others
same_layer (All parts) (All others) = all_same parts others
same_layer (Not is_same) (Not other) = is_same other
same_layer (Last word) (Last other) = same_code word other
same_layer (Present list id) (Present other n) = means_same (whole list id) (whole other n)
same_layer (PresentSelected list id selection) (PresentSelected other n tags) =
    means_same (selected list id selection) (selected other n tags)
same_layer (Compare k) (Compare l) = same_comparison k l
same_layer (CompareMeant k) (CompareMeant l) = same_meant_comparison k l
same_layer (Match k) (Match l) = same_matching k l
same_layer (Captured group) (Captured other) = false
same_layer _ _ = false

abbrev pub same_as : Cond-F (Cond → Bool) → Cond → Bool
same_as layer other = same_layer layer (out-Cond other)

-- both are of one form, with the same parts, and neither asks for what was captured
unfoldable pub same_cond : Cond → Cond → Bool
same_cond = fold-Cond (Cond → Bool) same_as

-- ---- chains

-- a branch, and what its block is warned of
pub record Link : Type 0 where
  pub line : ℕ
  pub cond : Cond
  pub warned : List Warning

abbrev pub cond_of : Link → Cond
cond_of b = b.cond

-- by the conditions before
abbrev pub repeats_after : List Cond → List Link → List Warning
repeats_after earlier [] = []
repeats_after earlier (b ∷ bs) =
    warning_if (list_any (same_cond b.cond) earlier) b.line RepeatedCondition
    ++ b.warned ++ repeats_after (earlier ++ b.cond ∷ []) bs

abbrev pub statement_repeats : Statement-F (List Warning) Link → List Warning
statement_repeats (Update n lines) = []
statement_repeats (If branches otherwise) = repeats_after [] branches ++ joined_if_given otherwise
statement_repeats (Transaction n block) = joined block
statement_repeats (Word n word) = []

abbrev pub branch_link : Branch-F (List Warning) Link → Link
branch_link b = record { line = b.line; cond = b.cond; warned = joined b.block }

unfoldable pub repeats_in : Statement → List Warning
repeats_in = fold-Statement (List Warning) Link statement_repeats branch_link

unfoldable pub link : Branch → Link
link = fold-Branch (List Warning) Link statement_repeats branch_link

-- of a policy, in the order of its text
abbrev pub repeated_conditions : List Statement → List Warning
repeated_conditions statements = flat_map repeats_in statements
