use Rattle.std.proofs.Common.{◌-◌, ◌<◌, ◌≤◌}
use Rattle.avp_patterns.proofs.patterns.first_size.Given as goal

abbrev pub invariant-loop-size : goal.invariant-loop-size
invariant-loop-size l = (0 < l.size) × (l.size ≤ 524288)

abbrev pub decreases-loop-size : goal.decreases-loop-size
decreases-loop-size l = 262144 - l.size
