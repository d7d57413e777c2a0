-- Controls at the end of octets.
use Rattle.std.proofs.Common.{◌≡◌, ℕ, Bool, true, false, ◌&&◌, List, [], ◌∷◌, ◌++◌, length, refl, ap, arith}
use Rattle.std.specs.List.{list_all}
use Rattle.radpolicy.specs.Secrets.{is_control, without_last_controls}

all_with_control : (xs : List ℕ) (x : ℕ) → is_control x ≡ true → list_all is_control (xs ++ x ∷ []) ≡ list_all is_control xs
all_with_control [] x h = rw h
all_with_control (y ∷ xs) x h = ap (λ b. is_control y && b) (all_with_control xs x h)

-- one control more at the end
pub dropped_at_end : (xs : List ℕ) (x : ℕ) → is_control x ≡ true → without_last_controls (xs ++ x ∷ []) ≡ without_last_controls xs
unfolding without_last_controls
dropped_at_end [] x h = rw h
dropped_at_end (y ∷ xs) x h = rw (all_with_control xs x h, dropped_at_end xs x h)

not_all : (xs : List ℕ) (x : ℕ) → is_control x ≡ false → list_all is_control (xs ++ x ∷ []) ≡ false
not_all [] x h = rw h
not_all (y ∷ xs) x h = rw (not_all xs x h) (and_false (is_control y))
  where
    and_false : (a : Bool) → (a && false) ≡ false
    and_false true = refl
    and_false false = refl

-- octets whose last is no control
pub kept_at_end : (xs : List ℕ) (x : ℕ) → is_control x ≡ false → without_last_controls (xs ++ x ∷ []) ≡ xs ++ x ∷ []
unfolding without_last_controls
kept_at_end [] x h = rw h
kept_at_end (y ∷ xs) x h = rw (not_all (y ∷ xs) x h, kept_at_end xs x h)

pub none_at_end : (xs : List ℕ) → length xs ≡ 0 → xs ≡ without_last_controls xs
unfolding without_last_controls
none_at_end [] h = refl
none_at_end (x ∷ xs) h = absurd (omega arith)
