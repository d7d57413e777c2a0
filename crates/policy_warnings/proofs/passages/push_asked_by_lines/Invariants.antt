use Rattle.std.proofs.Common.{◌≡◌, ◌++◌, drop}
use Rattle.std.specs.List.{flat_map}
use Rattle.policy_warnings.specs.Passages.{asked_by}
use Rattle.policy_warnings.proofs.passages.push_asked_by_lines.Given as goal

abbrev pub invariant-loop-line : goal.invariant-loop-line
invariant-loop-line l = l.asked.items ++ flat_map asked_by (drop l.line-index l.lines) ≡ l.fn.asked.items ++ flat_map asked_by l.lines
