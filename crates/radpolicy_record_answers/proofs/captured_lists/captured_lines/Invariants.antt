use Rattle.std.proofs.Common.{◌≡◌, take}
use Rattle.std.specs.List.{flat_map}
use Rattle.radpolicy_record_answers.specs.Captured.{captured_line}
use Rattle.radpolicy_record_answers.proofs.captured_lists.captured_lines.Given as goal

abbrev pub invariant-loop-pair : goal.invariant-loop-pair
invariant-loop-pair l = l.lines.items ≡ flat_map (captured_line l.dictionary l.redaction) (take l.pair-index l.captured.list)
