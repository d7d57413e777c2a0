use Rattle.std.proofs.Common.{length}
use Rattle.radpolicy_help.proofs.allowances.allowances.Given as goal

abbrev pub decreases-loop-line : goal.decreases-loop-line
decreases-loop-line l = length l.rest
