use Rattle.std.proofs.Common.{◌≡◌, ◌++◌, length}
use Rattle.policy_warnings.specs.Warnings.{lines_warnings}
use Rattle.policy_warnings.proofs.warnings.push_lines.Given as goal

abbrev pub invariant-loop-rest : goal.invariant-loop-rest
invariant-loop-rest l = l.warnings.items ++ lines_warnings l.rest ≡ l.fn.warnings.items ++ lines_warnings l.lines

abbrev pub decreases-loop-rest : goal.decreases-loop-rest
decreases-loop-rest l = length l.rest
