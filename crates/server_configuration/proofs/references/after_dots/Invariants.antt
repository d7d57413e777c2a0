use Rattle.std.proofs.Common.{length}
use Rattle.server_configuration.proofs.references.after_dots.Given as goal

abbrev pub decreases-loop-rest : goal.decreases-loop-rest
decreases-loop-rest l = length l.rest
