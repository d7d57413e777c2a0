use Rattle.std.proofs.Common.{length}
use Rattle.radpolicy_import.proofs.sources.path_meant.Given as goal

abbrev pub decreases-loop-rest : goal.decreases-loop-rest
decreases-loop-rest l = length l.rest
