use Rattle.std.proofs.Common.{length}
use Rattle.radpolicy_walk_commands.proofs.sources.SourceLines.new.Given as goal

abbrev pub decreases-loop-line : goal.decreases-loop-line
decreases-loop-line l = length l.rest
