-- A list of known length is the list of its items; a number's octets.
use Rattle.std.proofs.Common.{◌≡◌, ℕ, zero, suc, List, [], ◌∷◌, length, get_or, refl, sym, ap, ◌∙◌, arith, Option, Some, ◌%◌, eqb}
use Rattle.std.specs.Int.{from_be_bytes, w64}
use Rattle.std.specs.Int.Digits.{number_from_digits}
use Rattle.avp_lists.specs.declared.pairs.Value.{Value}
use Rattle.avp_dict.specs.declared.entries.Kind.{Kind}
use Rattle.avp_dict.specs.declared.entries.Kind.TheVariants.{Byte, Short, Integer64}
use Rattle.avp_dict.specs.Octets.{ends_in_nul, number_octets, of_length}

abbrev pub items : (ℕ → ℕ) → ℕ → List ℕ
items at zero = []
items at (suc n) = at 0 ∷ items (λ i. at (suc i)) n

whole : (os : List ℕ) (n : ℕ) → length os ≡ n → os ≡ items (λ i. get_or os i 0) n
whole [] zero h = refl
whole [] (suc n) h = absurd (omega arith)
whole (o ∷ os) zero h = absurd (omega arith)
whole (o ∷ os) (suc n) h = let rest : length os ≡ n = omega arith in ap (λ xs. o ∷ xs) (whole os n rest)

pub of_length-same : (n : ℕ) (value : List ℕ → Value) (os : List ℕ) → length os ≡ n → of_length n value os ≡ Some (value os)
of_length-same n value os h = grind arith

pub of_length-items : (n : ℕ) (value : List ℕ → Value) (os : List ℕ) → length os ≡ n → Some (value (items (λ i. get_or os i 0) n)) ≡ of_length n value os
of_length-items n value os h = ap (λ (xs : List ℕ). Some (value xs)) (sym (whole os n h)) ∙ sym (of_length-same n value os h)

pub eight_octets : (a b c d e f g h : ℕ) → from_be_bytes w64 (a ∷ b ∷ c ∷ d ∷ e ∷ f ∷ g ∷ h ∷ []) ≡ number_from_digits 256 (a ∷ b ∷ c ∷ d ∷ e ∷ f ∷ g ∷ h ∷ [])
eight_octets a b c d e f g h = omega arith

pub number_ends_in_nul : (kind : Option Kind) (n : ℕ) → ends_in_nul (number_octets kind n) ≡ eqb (n % 256) 0
number_ends_in_nul (Some Byte) n = refl
number_ends_in_nul (Some Short) n = refl
number_ends_in_nul (Some Integer64) n = refl
number_ends_in_nul _ n = refl
