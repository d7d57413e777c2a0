-- The branches of a chain are taken where a server takes their cases.
use Rattle.std.proofs.Common.{◌≡◌, ℕ, ◌+◌, List, [], ◌∷◌, Option, Some, None, refl, ap, ◌∙◌, cond}
use Rattle.avp_lists.specs.declared.lists.State.{State}
use Rattle.avp_unlang.specs.Truth.{is_met}
use Rattle.avp_unlang.specs.declared.codes.Code.{Code}
use Rattle.avp_unlang.specs.declared.tree.Comparison.{Comparison}
use Rattle.avp_unlang.proofs.Truths.{truth_compare}
use Rattle.radpolicy_import_conditions.specs.Switches.{chosen_case, first_case, first_true, is_case_met, is_default, or_else}
use Rattle.radpolicy_import_conditions.specs.internal.Branches.{branches_of}

pub same_first : (place : ℕ) (cases : List (Option Comparison)) (s : State) (c : Code)
    → first_true (branches_of place cases) s c ≡ first_case (is_case_met s) place cases
same_first place [] s c = refl
same_first place (None ∷ cases) s c = same_first (place + 1) cases s c
same_first place (Some k ∷ cases) s c =
    ap (λ b. cond b (Some place) (first_true (branches_of (place + 1) cases) s c)) (truth_compare k s c)
    ∙ ap (cond (is_met k s) (Some place)) (same_first (place + 1) cases s c)

pub chain_takes : (cases : List (Option Comparison)) (s : State) (c : Code)
    → or_else (first_true (branches_of 0 cases) s c) (first_case is_default 0 cases) ≡ chosen_case cases s
chain_takes cases s c = ap (λ x. or_else x (first_case is_default 0 cases)) (same_first 0 cases s c)
