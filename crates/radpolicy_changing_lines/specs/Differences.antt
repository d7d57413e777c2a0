-- The lines of two policies that made a difference between the ends of their runs.
use Rattle.std.specs.Prelude.{ℕ, ◌==◌, Bool, false, if◌then◌else◌, List, [], ◌∷◌, ◌++◌, Option, None, Some}
use Rattle.std.specs.List.{fold, list_any}
use Rattle.std.specs.Option.{option_map, option_or}
use Rattle.avp_lists.specs.declared.lists.List.{List as Name}
use Rattle.avp_lists.specs.declared.lists.List.TheVariants.{Control, Reply}
use Rattle.avp_lists.specs.declared.pairs.AttrId.{AttrId}
use Rattle.avp_step.specs.Trace.{Entry}
use Rattle.avp_step.specs.Walk.{Walk}
use Rattle.radpolicy_changing_lines.specs.ChangingLines.{changing_line, stopping_line}
use Rattle.radpolicy_changing_lines.specs.declared.differences.PolicyLine.{PolicyLine}
use Rattle.radpolicy_changing_lines.specs.declared.differences.PolicyLine.TheVariants.{New, Old}

abbrev pub same_line : PolicyLine → PolicyLine → Bool
same_line (New a) (New b) = a == b
same_line (Old a) (Old b) = a == b
same_line _ _ = false

-- the trace of a run; nothing where there is none
abbrev pub old_trace : Option Walk → List Entry
old_trace None = []
old_trace (Some run) = run.trace

-- ---- lines, each once

abbrev pub with_line : List PolicyLine → PolicyLine → List PolicyLine
with_line lines line = if list_any (same_line line) lines then lines else lines ++ line ∷ []

abbrev pub with_any : List PolicyLine → Option PolicyLine → List PolicyLine
with_any lines None = lines
with_any lines (Some line) = with_line lines line

-- ---- the lines of a difference, by the traces of the new run and of the old one

module _ (new old : List Entry) where
  -- the line that changed an attribute of a list: the new policy's, or where no step of its run did, the old one's
  abbrev pub line_of_change : Name → AttrId → Option PolicyLine
  line_of_change list id = option_or (option_map New (changing_line list id new))
      (option_map Old (changing_line list id old))

  abbrev pub with_change : Name → List PolicyLine → AttrId → List PolicyLine
  with_change list lines id = with_any lines (line_of_change list id)

  abbrev pub with_changes : Name → List AttrId → List PolicyLine → List PolicyLine
  with_changes list ids lines = fold (with_change list) lines ids

  -- the line that stopped the new run, or where that went to its end, the one that stopped the old run
  abbrev pub line_of_result : Option PolicyLine
  line_of_result =
      option_or (option_map New (stopping_line new)) (option_map Old (stopping_line old))

  -- where the result differs, that line too
  abbrev pub with_result : Bool → List PolicyLine → List PolicyLine
  with_result differs lines = if differs then with_any lines line_of_result else lines

  -- the lines that made a difference: in the result, if it differs, and in these attributes of the reply list and of
  -- the control list
  abbrev pub lines_of : Bool → List AttrId → List AttrId → List PolicyLine
  lines_of differs reply control =
      with_result differs (with_changes Control control (with_changes Reply reply []))
