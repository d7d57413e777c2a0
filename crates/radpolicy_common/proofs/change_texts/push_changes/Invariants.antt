use Rattle.std.proofs.Common.{◌≡◌, ◌++◌, take}
use Rattle.std.specs.List.{flat_map}
use Rattle.radpolicy_common.specs.ChangeTexts.{change_line}
use Rattle.radpolicy_common.proofs.change_texts.push_changes.Given as goal

abbrev pub invariant-loop-change : goal.invariant-loop-change
invariant-loop-change l = l.text.items ≡ l.fn.text.items ++ flat_map (change_line l.redaction) (take l.change-index l.changes)
