use Rattle.std.proofs.Common.{◌≡◌, map, take}
use Rattle.radpolicy.specs.Plans.{names_of_paths}
use Rattle.radpolicy.proofs.plans.names_of_paths.Given as goal

abbrev pub invariant-loop-path : goal.invariant-loop-path
invariant-loop-path l = map (λ name. name.now) l.names.items ≡ names_of_paths (take l.path-index l.paths)
