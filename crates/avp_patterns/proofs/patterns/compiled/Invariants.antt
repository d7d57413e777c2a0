use Rattle.std.proofs.Common.{◌-◌, ◌<◌, ◌≤◌}
use Rattle.avp_patterns.proofs.patterns.compiled.Given as goal

abbrev pub invariant-loop-regex : goal.invariant-loop-regex
invariant-loop-regex l = (0 < l.size) × (l.size ≤ 524288)

abbrev pub decreases-loop-regex : goal.decreases-loop-regex
decreases-loop-regex l = 262144 - l.size
