-- The first `%{`, step by step.
use Rattle.std.proofs.Common.{◌≡◌, ℕ, ◌+◌, true, false, List, ◌∷◌, Option, None, Some, option_map, nat_eq, codes, refl, ap, arith}
use Rattle.std.proofs.lemmas.Bool.{cond-true, cond-false}
use Rattle.std.specs.List.{starts_with}
use Rattle.avp_patterns.specs.Patterns.{expansion_at}

pub here : (c : ℕ) (cs : List ℕ) → starts_with nat_eq (c ∷ cs) (codes "%{") ≡ true → expansion_at (c ∷ cs) ≡ Some 0
here c cs e = cond-true _ _ _ e

pub later : (c : ℕ) (cs : List ℕ) → starts_with nat_eq (c ∷ cs) (codes "%{") ≡ false →
    expansion_at (c ∷ cs) ≡ option_map (λ n. n + 1) (expansion_at cs)
later c cs e = cond-false _ _ _ e

pub further : (o : Option ℕ) (k : ℕ) → option_map (λ n. n + k) (option_map (λ n. n + 1) o) ≡ option_map (λ n. n + (k + 1)) o
further None k = refl
further (Some n) k = ap Some (omega arith)
