use Rattle.std.proofs.Common.{◌≢◌, map, take}
use Rattle.std.specs.Prelude.{All}
use Rattle.radpolicy.proofs.plans.has_name.Given as goal

abbrev pub invariant-loop-taken : goal.invariant-loop-taken
invariant-loop-taken l = All (λ taken. taken ≢ l.name) (map (λ taken. taken.now) (take l.taken-index l.names))
