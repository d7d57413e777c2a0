use Rattle.std.proofs.Common.{length}
use Rattle.radpolicy_replay_records.proofs.inputs.JoinedLines.take_block.Given as goal

abbrev pub decreases-loop-end : goal.decreases-loop-end
decreases-loop-end l = length l.rest
