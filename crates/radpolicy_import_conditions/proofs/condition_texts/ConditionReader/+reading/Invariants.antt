use Rattle.std.proofs.Common.{◌+◌, ◌*◌}
use Rattle.radpolicy_import_conditions.proofs.condition_texts.ConditionReader.+reading.Given as goal

abbrev pub decreases-term : goal.decreases-term
decreases-term l = 2 * l.room.parts

abbrev pub decreases-chain : goal.decreases-chain
decreases-chain l = 2 * l.room.parts + 1
