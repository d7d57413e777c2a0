use Rattle.std.proofs.Common.{◌≡◌, drop}
use Rattle.radpolicy_import_conditions.specs.Switches.{first_case, is_default}
use Rattle.radpolicy_import_conditions.proofs.switches.default_place.Given as goal

abbrev pub invariant-loop-place : goal.invariant-loop-place
invariant-loop-place l =
    first_case is_default l.place (drop l.place l.cases) ≡ first_case is_default 0 l.cases
