use Rattle.std.proofs.Common.{length}
use Rattle.radpolicy_import_conditions.proofs.choices.first_choice.Given as goal

abbrev pub decreases-loop-after : goal.decreases-loop-after
decreases-loop-after l = length l.rest
