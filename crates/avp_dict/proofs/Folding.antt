-- Names are the same where their octets in lower case are.
use Rattle.std.proofs.Common.{◌≡◌, ◌≢◌, ◌≤◌, ◌<◌, ℕ, suc, true, false, ◌&&◌, ◌==◌, List, [], ◌∷◌, length, map, refl, sym, ap, arith, ◌∙◌, bytes_eq}
use Rattle.std.specs.Cmp.Lexicographic.{bytes_decides}
use Rattle.std.proofs.lemmas.Bool.{and_right}
use Rattle.avp_dict.specs.Letters.{max_name}
use Rattle.avp_dict.specs.Words.{lower, same_name}
use Rattle.avp_dict.proofs.Agreement.{same_name_sym}

pub same_folded : (a b : List ℕ) → same_name a b ≡ bytes_eq (map lower a) (map lower b)
same_folded [] [] = refl
same_folded [] (y ∷ ys) = refl
same_folded (x ∷ xs) [] = refl
same_folded (x ∷ xs) (y ∷ ys) = ap (λ c. (lower x == lower y) && c) (same_folded xs ys)

folds_alike : (a b : List ℕ) → same_name a b ≡ true → map lower a ≡ map lower b
folds_alike a b h = (bytes_decides (map lower a) (map lower b)).0 (sym (same_folded a b) ∙ h)

-- names that are the same are the same as others
pub same_as : (a b name : List ℕ) → same_name a b ≡ true → same_name name a ≡ same_name name b
same_as a b name h = same_folded name a ∙ (ap (bytes_eq (map lower name)) (folds_alike a b h) ∙ sym (same_folded name b))

-- in either order
pub folded_same : (a b : List ℕ) → bytes_eq (map lower a) (map lower b) ≡ same_name b a
folded_same a b = sym (same_folded a b) ∙ same_name_sym a b

pub other_length : (a b : List ℕ) → length a ≢ length b → same_name a b ≡ false
other_length [] [] h = absurd (h refl)
other_length [] (y ∷ ys) h = refl
other_length (x ∷ xs) [] h = refl
other_length (x ∷ xs) (y ∷ ys) h = and_right (lower x == lower y) (same_name xs ys) (other_length xs ys (λ e. h (ap suc e)))

-- a name that is longer than any name
pub too_long : (a b : List ℕ) → length a ≤ max_name → max_name < length b → same_name a b ≡ false
too_long a b short long = other_length a b (λ e. omega (arith, e, short, long))
