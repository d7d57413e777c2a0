use Rattle.std.proofs.Common.{length}
use Rattle.radpolicy_clients.proofs.lines.after_blanks.Given as goal

abbrev pub decreases-loop-rest : goal.decreases-loop-rest
decreases-loop-rest l = length l.rest
