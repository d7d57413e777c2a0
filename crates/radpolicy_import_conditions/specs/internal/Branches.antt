-- The branches that cases become.
use Rattle.std.specs.Prelude.{ℕ, ◌+◌, List, [], ◌∷◌, Option, Some, None}
use Rattle.avp_unlang.specs.declared.tree.Comparison.{Comparison}
use Rattle.avp_unlang.specs.declared.tree.Cond.TheVariants.{Compare}
use Rattle.radpolicy_import_conditions.specs.declared.switches.SwitchBranch.{SwitchBranch}

-- a branch for each case with a value, where the first case's place is this
abbrev pub branches_of : ℕ → List (Option Comparison) → List SwitchBranch
branches_of place [] = []
branches_of place (None ∷ cases) = branches_of (place + 1) cases
branches_of place (Some comparison ∷ cases) =
    record { place = place; cond = Compare comparison } ∷ branches_of (place + 1) cases
