use Rattle.std.proofs.Common.{◌≡◌, length}
use Rattle.radpolicy_common.specs.internal.PolicyLines.{first_secret, lines_behind}
use Rattle.radpolicy_common.proofs.secret_flows.first_secret.Given as goal

abbrev pub invariant-loop-rest : goal.invariant-loop-rest
invariant-loop-rest l = first_secret l.attributes l.ids l.captured (lines_behind l.rest) ≡ first_secret l.attributes l.ids l.captured (lines_behind l.lines)

abbrev pub decreases-loop-rest : goal.decreases-loop-rest
decreases-loop-rest l = length l.rest
