use Rattle.std.proofs.Common.{map, take}
use Rattle.radpolicy.specs.Plans.{AreDistinct}
use Rattle.radpolicy.proofs.plans.are_distinct.Given as goal

abbrev pub invariant-loop-i : goal.invariant-loop-i
invariant-loop-i l = AreDistinct (map (λ name. name.now) (take l.i l.names))
