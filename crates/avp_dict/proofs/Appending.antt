-- Loops that append what each item of a list gives.
use Rattle.std.proofs.Common.{◌≡◌, ℕ, ◌+◌, ◌<◌, List, ◌++◌, length, get_or, drop, flat_map, sym, ap, ◌∙◌, append_assoc}
use Rattle.std.proofs.lemmas.List.{drop_more}

-- one item more
pub appended : (f : ℕ → List ℕ) (xs : List ℕ) (i d : ℕ) (text more whole : List ℕ) → i < length xs → more ≡ text ++ f (get_or xs i d) → text ++ flat_map f (drop i xs) ≡ whole → more ++ flat_map f (drop (i + 1) xs) ≡ whole
appended f xs i d text more whole within is before =
    ap (λ (ys : List ℕ). ys ++ flat_map f (drop (i + 1) xs)) is
    ∙ append_assoc text (f (get_or xs i d)) (flat_map f (drop (i + 1) xs))
    ∙ ap (λ (ys : List ℕ). text ++ flat_map f ys) (sym (drop_more xs i d within))
    ∙ before
