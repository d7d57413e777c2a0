use Rattle.std.proofs.Common.{length}
use Rattle.radpolicy_import_conditions.proofs.texts.push_double.Given as goal

abbrev pub decreases-loop-part : goal.decreases-loop-part
decreases-loop-part l = length l.rest
