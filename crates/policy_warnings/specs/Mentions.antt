-- The instances that a condition's comparisons look at, and whether there are any.
use Rattle.std.specs.Prelude.{Bool, true, false, ◌&&◌, ◌==◌, List, [], ◌∷◌}
use Rattle.std.specs.List.{flat_map}
use Rattle.avp_lists.specs.Pairs.{id_eq}
use Rattle.avp_lists.specs.Selections.{has_selected}
use Rattle.avp_lists.specs.States.{list_of}
use Rattle.avp_lists.specs.declared.pairs.AttrId.{AttrId}
use Rattle.avp_lists.specs.declared.lists.List.{List as Name}
use Rattle.avp_lists.specs.declared.lists.List.TheVariants.{Request, Reply, Control}
use Rattle.avp_lists.specs.declared.lists.State.{State}
use Rattle.avp_lists.specs.declared.tags.Selection.{Selection}
use Rattle.avp_lists.specs.declared.tags.Selection.TheVariants as selections
use Rattle.avp_lists.specs.declared.tags.Tagging.{Tagging}
use Rattle.avp_lists.specs.declared.tags.Tagging.TheVariants.{Number, Text}
use Rattle.avp_unlang.specs.declared.tree.Comparand.{Comparand}
use Rattle.avp_unlang.specs.declared.tree.Comparand.TheVariants as comparand
use Rattle.avp_unlang.specs.declared.tree.Comparison.{Comparison}
use Rattle.avp_unlang.specs.declared.tree.Cond.{Cond}
use Rattle.avp_unlang.specs.declared.tree.Cond.TheFolds.{fold-Cond}
use Rattle.avp_unlang.specs.declared.tree.Cond.TheOpen.{Cond-F, Any, All, Not, Last, Present, PresentSelected, Compare, CompareMeant, CompareTexts, Match, MatchText, MatchGroup, Captured}
use Rattle.avp_unlang.specs.declared.tree.Matching.{Matching}
use Rattle.avp_unlang.specs.declared.tree.MeantComparand.{MeantComparand}
use Rattle.avp_unlang.specs.declared.tree.MeantComparand.TheVariants as meant
use Rattle.avp_unlang.specs.declared.tree.MeantComparison.{MeantComparison}
use Rattle.avp_unlang.specs.declared.tree.TextSide.{TextSide}
use Rattle.avp_unlang.specs.declared.tree.TextSide.TheVariants as side
use Rattle.policy_warnings.specs.declared.mentions.Mention.{Mention}

-- one of the instances is there
abbrev pub is_there : State → Mention → Bool
is_there s m = has_selected m.selection m.id (list_of m.list s)

-- ---- one mention and another

abbrev pub same_list : Name → Name → Bool
same_list Request Request = true
same_list Reply Reply = true
same_list Control Control = true
same_list _ _ = false

abbrev pub same_tagging : Tagging → Tagging → Bool
same_tagging Number Number = true
same_tagging Text Text = true
same_tagging _ _ = false

-- of one attribute, the instances that the first means are among those of the second
abbrev pub is_within : Selection → Selection → Bool
is_within _ selections.All = true
is_within _ (selections.EachTag tagging) = true
is_within (selections.Tag tagging tag) (selections.Tag other n) =
    same_tagging tagging other && (tag == n)
is_within _ (selections.Tag other n) = false

-- where an instance of the first is there, one of the second is
abbrev pub implies : Mention → Mention → Bool
implies m other =
    same_list m.list other.list && id_eq m.id other.id && is_within m.selection other.selection

-- both are the same instances
abbrev pub means_same : Mention → Mention → Bool
means_same m other = implies m other && implies other m

-- ---- the mentions of a condition

-- all instances of an attribute
abbrev pub whole : Name → AttrId → Mention
whole list id = record { list = list; id = id; selection = selections.All }

abbrev pub selected : Name → AttrId → Selection → Mention
selected list id selection = record { list = list; id = id; selection = selection }

abbrev pub comparand_mentions : Comparand → List Mention
comparand_mentions (comparand.Literal v) = []
comparand_mentions (comparand.Instance list id) = whole list id ∷ []

abbrev pub comparison_mentions : Comparison → List Mention
comparison_mentions k = whole k.list k.id ∷ comparand_mentions k.comparand

abbrev pub meant_comparand_mentions : MeantComparand → List Mention
meant_comparand_mentions (meant.Literal form octets) = []
meant_comparand_mentions (meant.Instance list id selection form) = selected list id selection ∷ []

abbrev pub meant_comparison_mentions : MeantComparison → List Mention
meant_comparison_mentions k =
    selected k.list k.id k.selection ∷ meant_comparand_mentions k.comparand

abbrev pub matching_mentions : Matching → List Mention
matching_mentions k = selected k.list k.id k.selection ∷ []

-- a text is one also where what it puts in is absent
abbrev pub side_mentions : TextSide → List Mention
side_mentions (side.Text parts) = []
side_mentions (side.Instance list id selection) = selected list id selection ∷ []

abbrev pub all_parts : List (List Mention) → List Mention
all_parts = flat_map (λ ms. ms)

abbrev pub cond_mentions : Cond-F (List Mention) → List Mention
cond_mentions (Any parts) = all_parts parts
cond_mentions (All parts) = all_parts parts
cond_mentions (Not part) = part
cond_mentions (Last word) = []
cond_mentions (Present list id) = []
cond_mentions (PresentSelected list id selection) = []
cond_mentions (Compare k) = comparison_mentions k
cond_mentions (CompareMeant k) = meant_comparison_mentions k
cond_mentions (Match k) = matching_mentions k
cond_mentions (CompareTexts k) = side_mentions k.left
cond_mentions (MatchText k) = []
cond_mentions (MatchGroup k) = []
cond_mentions (Captured group) = []

-- what the comparisons of a condition look at
unfoldable pub mentions : Cond → List Mention
mentions = fold-Cond (List Mention) cond_mentions
