use Rattle.std.proofs.Common.{length}
use Rattle.radpolicy_import_conditions.proofs.texts.double_octets_before.Given as goal

abbrev pub decreases-loop-octets : goal.decreases-loop-octets
decreases-loop-octets l = length l.rest
