-- Which case of a `switch` is taken.
use Rattle.std.specs.Prelude.{ℕ, ◌+◌, Bool, true, false, List, [], ◌∷◌, Option, Some, None, if◌then◌else◌}
use Rattle.avp_lists.specs.declared.lists.State.{State}
use Rattle.avp_unlang.specs.Truth.{is_met, truth}
use Rattle.avp_unlang.specs.declared.codes.Code.{Code}
use Rattle.avp_unlang.specs.declared.tree.Comparison.{Comparison}
use Rattle.radpolicy_import_conditions.specs.declared.switches.SwitchBranch.{SwitchBranch}
use Rattle.radpolicy_import_conditions.specs.declared.switches.SwitchChain.{SwitchChain}

-- ---- a server's rule. A case compares; one without a value is the default

abbrev pub is_case_met : State → Option Comparison → Bool
is_case_met s None = false
is_case_met s (Some comparison) = is_met comparison s

abbrev pub is_default : Option Comparison → Bool
is_default None = true
is_default (Some comparison) = false

-- the place of the first case that is meant, where the first case's place is this
abbrev pub first_case : (Option Comparison → Bool) → ℕ → List (Option Comparison) → Option ℕ
first_case is_meant place [] = None
first_case is_meant place (one ∷ cases) =
    (if is_meant one then Some place else first_case is_meant (place + 1) cases)

abbrev pub or_else : Option ℕ → Option ℕ → Option ℕ
or_else None other = other
or_else (Some place) other = Some place

-- the first case that is met, else the first default, wherever it stands
abbrev pub chosen_case : List (Option Comparison) → State → Option ℕ
chosen_case cases s =
    or_else (first_case (is_case_met s) 0 cases) (first_case is_default 0 cases)

-- ---- a chain of `if`, `elsif` and `else`, as ours

abbrev pub first_true : List SwitchBranch → State → Code → Option ℕ
first_true [] s c = None
first_true (branch ∷ branches) s c =
    (if truth branch.cond s c then Some branch.place else first_true branches s c)

-- the case whose block is taken
abbrev pub taken_case : SwitchChain → State → Code → Option ℕ
taken_case chain s c = or_else (first_true chain.branches.items s c) chain.otherwise
