-- Texts compared octet by octet: what one octet more of each comes to.
use Rattle.std.proofs.Common.{◌≡◌, ◌<◌, ℕ, suc, Bool, true, false, cond, ◌&&◌, List, [], ◌∷◌, length, Option, Some, None, is_some, refl, sym, ap, ap₂, ◌∙◌, arith, inl, inr}
use Rattle.std.specs.Char.{is_ascii_digit}
use Rattle.std.specs.Cmp.Lexicographic.{slice_cmp}
use Rattle.std.specs.Option.{option_map_or, unwrap_or}
use Rattle.std.specs.Ordering.{nat_cmp, ordering_then}
use Rattle.std.specs.Prelude.{◌≢◌}
use Rattle.std.specs.declared.cmp.Ordering.{Ordering}
use Rattle.std.specs.declared.cmp.Ordering.TheVariants.{Less, Equal, Greater}
use Rattle.std.proofs.lemmas.Bool.{cases_lt}
use Rattle.std.proofs.lemmas.Bool.Decides.{nat_tests}
use Rattle.avp_dict.specs.Words.{digits}
use Rattle.avp_unlang.specs.Texts.{numbers_first}
use Rattle.avp_unlang.specs.internal.UnreadTexts.{without_zeros}
use Rattle.avp_unlang.proofs.TextOrders.{are_decimal, decimal_without, greater, is_decimal, is_number_after, less, nonzero_without, number_given, numbers_compared, same, then_assoc, then_equal, value_after, value_without}

-- ---- whether a text is a number

-- what was read and what is left are decimal digits, one or more; some were read or none
abbrev pub numeral_after : Bool → List ℕ → Bool
numeral_after some [] = some
numeral_after some (c ∷ cs) = are_decimal (c ∷ cs)

pub numeral_first : (cs : List ℕ) → numeral_after false cs ≡ is_some (digits 10 cs)
numeral_first [] = refl
numeral_first (c ∷ cs) = sym (is_number_after c cs)

ascii_decimal : (c : ℕ) → is_decimal c ≡ is_ascii_digit c
ascii_decimal c = grind (arith, nat_tests)

digits_left : (cs : List ℕ) → numeral_after true cs ≡ are_decimal cs
digits_left [] = refl
digits_left (c ∷ cs) = refl

pub numeral_more : (some : Bool) (c : ℕ) (cs : List ℕ) → is_ascii_digit c ≡ true → numeral_after some (c ∷ cs) ≡ numeral_after true cs
numeral_more some c cs e = ap (λ b. b && are_decimal cs) (ascii_decimal c ∙ e) ∙ sym (digits_left cs)

pub numeral_stops : (some : Bool) (c : ℕ) (cs : List ℕ) → is_ascii_digit c ≡ false → numeral_after some (c ∷ cs) ≡ false
numeral_stops some c cs e = ap (λ b. b && are_decimal cs) (ascii_decimal c ∙ e)

-- ---- octets

pub octets_same : (c d : ℕ) (cs ds : List ℕ) → c ≡ d → slice_cmp nat_cmp (c ∷ cs) (d ∷ ds) ≡ slice_cmp nat_cmp cs ds
octets_same c d cs ds e = ap (λ o. ordering_then o (slice_cmp nat_cmp cs ds)) (same c d e)

pub octets_differ : (c d : ℕ) (cs ds : List ℕ) → c ≢ d → slice_cmp nat_cmp (c ∷ cs) (d ∷ ds) ≡ nat_cmp c d
octets_differ c d cs ds e = elim (cases_lt c d) [
  | inl lt ↦ ap (λ o. ordering_then o (slice_cmp nat_cmp cs ds)) (less c d lt) ∙ sym (less c d lt)
  | inr ge ↦
      let gt : d < c = omega (arith, ge, e) in
      ap (λ o. ordering_then o (slice_cmp nat_cmp cs ds)) (greater c d gt) ∙ sym (greater c d gt)
]

-- ---- numbers

-- by how many digits are left, then by what was read, then by what is left
abbrev pub by_length : Ordering → List ℕ → List ℕ → Ordering
by_length order cs ds =
    ordering_then (nat_cmp (length cs) (length ds)) (ordering_then order (slice_cmp nat_cmp cs ds))

-- a digit that was read, and what is left after it
abbrev pub with_digit : Option ℕ → List ℕ → List ℕ
with_digit digit rest = option_map_or (λ d. d ∷ rest) digit []

value_of : (cs : List ℕ) → is_some (digits 10 cs) ≡ true → (unwrap_or (digits 10 cs) 0 ≡ value_after 0 cs) × (are_decimal cs ≡ true)
value_of [] e = absurd cc
value_of (c ∷ cs) e =
    let all = sym (is_number_after c cs) ∙ e in
    (ap (λ o. unwrap_or o 0) (number_given 0 (c ∷ cs) ∙ ap (λ b. cond b (Some (value_after 0 (c ∷ cs))) None) all), all)

pub numbers_start : (cs ds : List ℕ) → is_some (digits 10 cs) ≡ true → is_some (digits 10 ds) ≡ true
    → by_length Equal (without_zeros cs) (without_zeros ds) ≡ nat_cmp (unwrap_or (digits 10 cs) 0) (unwrap_or (digits 10 ds) 0)
numbers_start cs ds e f =
    let left = value_of cs e in
    let right = value_of ds f in
    sym (numbers_compared (without_zeros cs) (without_zeros ds) (decimal_without cs left.1) (decimal_without ds right.1) (nonzero_without cs) (nonzero_without ds))
    ∙ ap₂ nat_cmp (value_without cs ∙ sym left.0) (value_without ds ∙ sym right.0)

one_more : (m n : ℕ) → nat_cmp (suc m) (suc n) ≡ nat_cmp m n
one_more m n = grind (arith, nat_tests)

pub numbers_step : (order : Ordering) (c d : ℕ) (cs ds : List ℕ) → by_length order (c ∷ cs) (d ∷ ds) ≡ by_length (ordering_then order (nat_cmp c d)) cs ds
numbers_step order c d cs ds =
    ap₂ ordering_then (one_more (length cs) (length ds)) (sym (then_assoc order (nat_cmp c d) (slice_cmp nat_cmp cs ds)))

pub numbers_end : (order : Ordering) → by_length order [] [] ≡ order
numbers_end order = then_equal order

pub left_shorter : (order : Ordering) (d : ℕ) (ds : List ℕ) → by_length order [] (d ∷ ds) ≡ Less
left_shorter order d ds = ap (λ o. ordering_then o (ordering_then order (slice_cmp nat_cmp [] (d ∷ ds)))) (less 0 (suc (length ds)) (omega arith))

pub right_shorter : (order : Ordering) (c : ℕ) (cs : List ℕ) → by_length order (c ∷ cs) [] ≡ Greater
right_shorter order c cs = ap (λ o. ordering_then o (ordering_then order (slice_cmp nat_cmp (c ∷ cs) []))) (greater (suc (length cs)) 0 (omega arith))

-- ---- the one or the other

pub both_numbers : (x y : Option ℕ) (order : Ordering) → is_some x ≡ true → is_some y ≡ true → numbers_first x y order ≡ nat_cmp (unwrap_or x 0) (unwrap_or y 0)
both_numbers None y order e f = absurd cc
both_numbers (Some x) None order e f = absurd cc
both_numbers (Some x) (Some y) order e f = refl

pub no_numbers : (x y : Option ℕ) (order : Ordering) → (is_some x && is_some y) ≡ false → numbers_first x y order ≡ order
no_numbers None y order e = refl
no_numbers (Some x) None order e = refl
no_numbers (Some x) (Some y) order e = absurd cc
