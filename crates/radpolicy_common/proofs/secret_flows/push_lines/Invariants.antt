use Rattle.std.proofs.Common.{◌≡◌, ◌++◌, drop}
use Rattle.radpolicy_common.specs.internal.PolicyLines.{lines_behind}
use Rattle.radpolicy_common.proofs.secret_flows.push_lines.Given as goal

abbrev pub invariant-loop-line : goal.invariant-loop-line
invariant-loop-line l = lines_behind l.lines.items ++ drop l.line-index l.own ≡ lines_behind l.fn.lines.items ++ l.own
