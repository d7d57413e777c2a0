-- What conditions come to, from left to right: whether they are true, and what was captured after them.
use Rattle.std.specs.Prelude.{Bool, true, false, not, ◌||◌, nat_lt, if◌then◌else◌, List, [], ◌∷◌, is_some, length}
use Rattle.std.specs.List.{list_any}
use Rattle.avp_lists.specs.Instances.{has_instance}
use Rattle.avp_lists.specs.Selections.{first_selected_instance}
use Rattle.avp_lists.specs.States.{list_of}
use Rattle.avp_lists.specs.declared.lists.State.{State}
use Rattle.avp_dict.specs.Dictionary.{Dictionary}
use Rattle.avp_unlang.specs.Captures.{Captures, captured, captures_after}
use Rattle.avp_unlang.specs.PatternTruth.{is_matched}
use Rattle.avp_unlang.specs.Texts.{captures_after_group, captures_after_text, is_group_matched, is_met_by_texts, is_text_matched}
use Rattle.avp_unlang.specs.Truth.{is_met, is_met_by_meaning, same_code}
use Rattle.avp_unlang.specs.declared.codes.Code.{Code}
use Rattle.avp_unlang.specs.declared.tree.Cond.{Cond}
use Rattle.avp_unlang.specs.declared.tree.Part.{Part}
use Rattle.avp_unlang.specs.declared.tree.Part.TheVariants.{Capture}
use Rattle.avp_unlang.specs.declared.tree.TextSide.{TextSide}
use Rattle.avp_unlang.specs.declared.tree.TextSide.TheVariants as side
use Rattle.avp_unlang.specs.declared.tree.Cond.TheFolds.{fold-Cond}
use Rattle.avp_unlang.specs.declared.tree.Cond.TheOpen.{Cond-F, Any, All, Not, Last, Present, PresentSelected, Compare, CompareMeant, CompareTexts, Match, MatchText, MatchGroup, Captured}

-- whether a condition is true, and what was captured after it
pub record Evaluated : Type 0 where
  pub truth : Bool
  pub captures : Captures

abbrev pub Evaluation : Type 0
Evaluation = State → Code → Captures → Evaluated

-- a truth, with what was captured before it
abbrev pub decided : Bool → Captures → Evaluated
decided truth captures = record { truth = truth; captures = captures }

abbrev pub negated : Evaluated → Evaluated
negated e = record e { truth = not e.truth }

-- conditions with `||` between them, up to the first that is true
abbrev pub any_evaluated : List Evaluation → Evaluation
any_evaluated [] s c captures = decided false captures
any_evaluated (first ∷ others) s c captures =
    let e = first s c captures in
    if e.truth then e else any_evaluated others s c e.captures

-- conditions with `&&` between them, up to the first that is not true
abbrev pub all_evaluated : List Evaluation → Evaluation
all_evaluated [] s c captures = decided true captures
all_evaluated (first ∷ others) s c captures =
    let e = first s c captures in
    if e.truth then all_evaluated others s c e.captures else e

-- a condition, each part of it evaluated; a group is true where it is not empty
abbrev pub cond_evaluated : Dictionary → Cond-F Evaluation → Evaluation
cond_evaluated dictionary (Any parts) s c captures = any_evaluated parts s c captures
cond_evaluated dictionary (All parts) s c captures = all_evaluated parts s c captures
cond_evaluated dictionary (Not part) s c captures = negated (part s c captures)
cond_evaluated dictionary (Last word) s c captures = decided (same_code c word) captures
cond_evaluated dictionary (Present list id) s c captures =
    decided (has_instance id (list_of list s)) captures
cond_evaluated dictionary (PresentSelected list id selection) s c captures =
    decided (is_some (first_selected_instance selection id (list_of list s))) captures
cond_evaluated dictionary (Compare comparison) s c captures =
    decided (is_met comparison s) captures
cond_evaluated dictionary (CompareMeant comparison) s c captures =
    decided (is_met_by_meaning comparison s) captures
cond_evaluated dictionary (Match matching) s c captures =
    decided (is_matched dictionary matching s) (captures_after dictionary matching s captures)
cond_evaluated dictionary (CompareTexts comparison) s c captures =
    decided (is_met_by_texts dictionary comparison s captures) captures
cond_evaluated dictionary (MatchText matching) s c captures =
    decided (is_text_matched dictionary matching s) (captures_after_text dictionary matching s)
cond_evaluated dictionary (MatchGroup matching) s c captures =
    decided (is_group_matched matching captures) (captures_after_group matching captures)
cond_evaluated dictionary (Captured group) s c captures =
    decided (nat_lt 0 (length (captured group captures))) captures

-- what a condition comes to, by the dictionary by which values are printed
unfoldable pub evaluated : Dictionary → Cond → Evaluation
evaluated dictionary = fold-Cond Evaluation (cond_evaluated dictionary)

-- ---- conditions that look at no captures

abbrev pub itself : Bool → Bool
itself b = b

abbrev pub is_capture : Part → Bool
is_capture (Capture group) = true
is_capture _ = false

abbrev pub side_has_captures : TextSide → Bool
side_has_captures (side.Text parts) = list_any is_capture parts
side_has_captures (side.Instance list id selection) = false

abbrev pub cond_layer_captures : Cond-F Bool → Bool
cond_layer_captures (Any parts) = list_any itself parts
cond_layer_captures (All parts) = list_any itself parts
cond_layer_captures (Not part) = part
cond_layer_captures (Captured group) = true
cond_layer_captures (CompareTexts comparison) =
    side_has_captures comparison.left || list_any is_capture comparison.right
cond_layer_captures (MatchGroup matching) = true
cond_layer_captures _ = false

-- whether a condition looks at what was captured
unfoldable pub cond_uses_captures : Cond → Bool
cond_uses_captures = fold-Cond Bool cond_layer_captures
