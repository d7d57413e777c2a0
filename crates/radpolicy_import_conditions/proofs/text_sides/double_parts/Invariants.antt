use Rattle.std.proofs.Common.{length}
use Rattle.radpolicy_import_conditions.proofs.text_sides.double_parts.Given as goal

abbrev pub decreases-loop-octets : goal.decreases-loop-octets
decreases-loop-octets l = length l.rest
