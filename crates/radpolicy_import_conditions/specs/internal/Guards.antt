-- Conditions that may be left out, whichever comparisons with patterns are met.
use Rattle.std.specs.Prelude.{Bool, true, IsTrue, Option, Some, None}
use Rattle.avp_lists.specs.Selections.{has_selected}
use Rattle.avp_lists.specs.States.{list_of}
use Rattle.avp_lists.specs.declared.lists.State.{State}
use Rattle.avp_unlang.specs.Truth.{Printed, Test, cond_truth_with}
use Rattle.avp_unlang.specs.declared.codes.Code.{Code}
use Rattle.avp_unlang.specs.declared.tree.Cond.{Cond}
use Rattle.avp_unlang.specs.declared.tree.Cond.TheFolds.{fold-Cond}
use Rattle.avp_unlang.specs.declared.tree.Matching.{Matching}
use Rattle.avp_unlang.specs.declared.tree.TextComparison.{TextComparison}
use Rattle.radpolicy_import_conditions.specs.Conditions.{Answer, answer_with, is_side_there}
use Rattle.radpolicy_import_conditions.specs.declared.server_conditions.ServerCondition.{ServerCondition}

-- which comparisons with patterns and of texts are met; the attribute of one that is met is there
pub record Matches : Type 0 where
  pub printed : Printed
  pub is_there : (m : Matching) (s : State) → IsTrue (printed.matched m s)
      → IsTrue (has_selected m.selection m.id (list_of m.list s))
  pub is_text_there : (k : TextComparison) (s : State) → IsTrue (printed.texts k s)
      → IsTrue (is_side_there k.left s)

unfoldable pub truth_of : Matches → Cond → State → Code → Bool
truth_of matches = fold-Cond Test (cond_truth_with matches.printed)

abbrev pub answer_of : Matches → ServerCondition → State → Code → Answer
answer_of matches = answer_with matches.printed

-- none is true
abbrev pub truth_if : Matches → Option Cond → State → Code → Bool
truth_if matches None s c = true
truth_if matches (Some cond) s c = truth_of matches cond s c
