use Rattle.std.proofs.Common.{◌≡◌, length}
use Rattle.avp_patterns.specs.Patterns.{has_flag_u}
use Rattle.avp_patterns.proofs.patterns.has_flag_u.Given as goal

abbrev pub invariant-loop-rest : goal.invariant-loop-rest
invariant-loop-rest l = has_flag_u l.flags ≡ has_flag_u l.rest

abbrev pub decreases-loop-rest : goal.decreases-loop-rest
decreases-loop-rest l = length l.rest
