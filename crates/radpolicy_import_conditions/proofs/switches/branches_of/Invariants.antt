use Rattle.std.proofs.Common.{◌≡◌, ◌++◌, drop}
use Rattle.radpolicy_import_conditions.specs.internal.Branches.{branches_of}
use Rattle.radpolicy_import_conditions.proofs.switches.branches_of.Given as goal

abbrev pub invariant-loop-place : goal.invariant-loop-place
invariant-loop-place l =
    l.branches.items ++ branches_of l.place (drop l.place l.cases) ≡ branches_of 0 l.cases
