use Rattle.std.proofs.Common.{length}
use Rattle.radpolicy_walk_commands.proofs.sources.add_named.Given as goal

abbrev pub decreases-loop-name : goal.decreases-loop-name
decreases-loop-name l = length l.rest
