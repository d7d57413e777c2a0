-- Decimal numbers are ordered by how many digits they have without zeros before them, and then by these.
use Rattle.std.proofs.Common.{◌≡◌, ◌≤◌, ◌<◌, ◌+◌, ◌*◌, ℕ, Bool, true, false, cond, not, ◌&&◌, ◌==◌, nat_lt, List, [], ◌∷◌, length, Some, None, is_some, inl, inr, refl, sym, ap, ap₂, ◌∙◌, arith}
use Rattle.std.specs.Char.{digit_value}
use Rattle.std.specs.Cmp.Lexicographic.{slice_cmp}
use Rattle.std.specs.List.{list_all}
use Rattle.std.specs.Ordering.{nat_cmp, ordering_then}
use Rattle.std.specs.declared.cmp.Ordering.{Ordering}
use Rattle.std.specs.declared.cmp.Ordering.TheVariants.{Less, Equal, Greater}
use Rattle.std.proofs.lemmas.Bool.{and_parts, cases_lt}
use Rattle.std.proofs.lemmas.Bool.Decides.{nat_tests}
use Rattle.avp_dict.specs.Words.{digits, number_after}
use Rattle.avp_unlang.specs.internal.UnreadTexts.{without_zeros, zero_digit}

abbrev pub is_decimal : ℕ → Bool
is_decimal c = nat_lt (digit_value c) 10

abbrev pub are_decimal : List ℕ → Bool
are_decimal cs = list_all is_decimal cs

-- the number that digits make after another
abbrev pub value_after : ℕ → List ℕ → ℕ
value_after n [] = n
value_after n (c ∷ cs) = value_after (n * 10 + digit_value c) cs

-- ---- which texts are numbers

pub number_given : (n : ℕ) (cs : List ℕ) → number_after 10 n cs ≡ cond (are_decimal cs) (Some (value_after n cs)) None
number_given n [] = refl
number_given n (c ∷ cs) = by (is_decimal c) (number_given (n * 10 + digit_value c) cs) where
  by : (b : Bool) → number_after 10 (n * 10 + digit_value c) cs ≡ cond (are_decimal cs) (Some (value_after (n * 10 + digit_value c) cs)) None
      → cond b (number_after 10 (n * 10 + digit_value c) cs) None ≡ cond (b && are_decimal cs) (Some (value_after (n * 10 + digit_value c) cs)) None
  by true rest = rest
  by false rest = refl

some_if : (b : Bool) (n : ℕ) → is_some (cond b (Some n) None) ≡ b
some_if true n = refl
some_if false n = refl

-- a text that begins with an octet is a number where each octet is a decimal digit
pub is_number_after : (c : ℕ) (cs : List ℕ) → is_some (digits 10 (c ∷ cs)) ≡ are_decimal (c ∷ cs)
is_number_after c cs = ap is_some (number_given 0 (c ∷ cs)) ∙ some_if (are_decimal (c ∷ cs)) (value_after 0 (c ∷ cs))

-- ---- of as many digits

pub then_assoc : (x y z : Ordering) → ordering_then (ordering_then x y) z ≡ ordering_then x (ordering_then y z)
then_assoc Less y z = refl
then_assoc Equal y z = refl
then_assoc Greater y z = refl

pub then_equal : (x : Ordering) → ordering_then x Equal ≡ x
then_equal Less = refl
then_equal Equal = refl
then_equal Greater = refl

pub less : (m n : ℕ) → m < n → nat_cmp m n ≡ Less
less m n h = grind (arith, nat_tests)

pub same : (m n : ℕ) → m ≡ n → nat_cmp m n ≡ Equal
same m n h = grind (arith, nat_tests)

pub greater : (m n : ℕ) → n < m → nat_cmp m n ≡ Greater
greater m n h = grind (arith, nat_tests)

-- one digit more on both sides
digits_compared : (m n a b : ℕ) → a < 10 → b < 10 → nat_cmp (m * 10 + a) (n * 10 + b) ≡ ordering_then (nat_cmp m n) (nat_cmp a b)
digits_compared m n a b h g = elim (cases_lt m n) [
  | inl lt ↦ less (m * 10 + a) (n * 10 + b) (omega arith) ∙ ap (λ o. ordering_then o (nat_cmp a b)) (sym (less m n lt))
  | inr ge ↦ elim (cases_lt n m) [
    | inl gt ↦ greater (m * 10 + a) (n * 10 + b) (omega arith) ∙ ap (λ o. ordering_then o (nat_cmp a b)) (sym (greater m n gt))
    | inr le ↦ of_same (omega arith)
  ]
] where
  of_same : m ≡ n → nat_cmp (m * 10 + a) (n * 10 + b) ≡ ordering_then (nat_cmp m n) (nat_cmp a b)
  of_same e = elim (cases_lt a b) [
    | inl lt ↦ less (m * 10 + a) (n * 10 + b) (omega arith) ∙ sym (less a b lt) ∙ ap (λ o. ordering_then o (nat_cmp a b)) (sym (same m n e))
    | inr ge ↦ elim (cases_lt b a) [
      | inl gt ↦ greater (m * 10 + a) (n * 10 + b) (omega arith) ∙ sym (greater a b gt) ∙ ap (λ o. ordering_then o (nat_cmp a b)) (sym (same m n e))
      | inr le ↦ same (m * 10 + a) (n * 10 + b) (omega arith) ∙ sym (same a b (omega arith)) ∙ ap (λ o. ordering_then o (nat_cmp a b)) (sym (same m n e))
    ]
  ]

decimal_value : (c : ℕ) → is_decimal c ≡ true → c ≡ 48 + digit_value c
decimal_value c h = grind (arith, nat_tests)

decimal_small : (c : ℕ) → is_decimal c ≡ true → digit_value c < 10
decimal_small c h = grind (arith, nat_tests)

added_compared : (m n : ℕ) → nat_cmp (48 + m) (48 + n) ≡ nat_cmp m n
added_compared m n = grind (arith, nat_tests)

octets_compared : (c d : ℕ) → is_decimal c ≡ true → is_decimal d ≡ true → nat_cmp (digit_value c) (digit_value d) ≡ nat_cmp c d
octets_compared c d h g =
    sym (added_compared (digit_value c) (digit_value d)) ∙ ap₂ nat_cmp (sym (decimal_value c h)) (sym (decimal_value d g))

-- numbers of as many digits, after others
as_long : (m n : ℕ) (cs ds : List ℕ) → length cs ≡ length ds → are_decimal cs ≡ true → are_decimal ds ≡ true
    → nat_cmp (value_after m cs) (value_after n ds) ≡ ordering_then (nat_cmp m n) (slice_cmp nat_cmp cs ds)
as_long m n [] [] e h g = sym (then_equal (nat_cmp m n))
as_long m n [] (d ∷ ds) e h g = absurd cc
as_long m n (c ∷ cs) [] e h g = absurd cc
as_long m n (c ∷ cs) (d ∷ ds) e h g =
    let here = and_parts (is_decimal c) (are_decimal cs) h in
    let there = and_parts (is_decimal d) (are_decimal ds) g in
    as_long (m * 10 + digit_value c) (n * 10 + digit_value d) cs ds (omega (arith, e)) here.1 there.1
    ∙ ap (λ o. ordering_then o (slice_cmp nat_cmp cs ds))
    (digits_compared m n (digit_value c) (digit_value d) (decimal_small c here.0) (decimal_small d there.0) ∙ ap (ordering_then (nat_cmp m n)) (octets_compared c d here.0 there.0))
    ∙ then_assoc (nat_cmp m n) (nat_cmp c d) (slice_cmp nat_cmp cs ds)

-- ---- of more digits

-- a number before as many digits or more
longer_after : (n : ℕ) (cs ds : List ℕ) → 0 < n → length cs ≤ length ds → are_decimal cs ≡ true → are_decimal ds ≡ true → nat_cmp (value_after 0 cs) (value_after n ds) ≡ Less
longer_after n cs [] some within h g =
    as_long 0 n cs [] (omega (arith, within)) h g ∙ ap (λ o. ordering_then o (slice_cmp nat_cmp cs [])) (less 0 n some)
longer_after n cs (d ∷ ds) some within h g = elim (cases_lt (length ds) (length cs)) [
  | inl lt ↦ as_long 0 n cs (d ∷ ds) (omega (arith, within)) h g ∙ ap (λ o. ordering_then o (slice_cmp nat_cmp cs (d ∷ ds))) (less 0 n some)
  | inr ge ↦ longer_after (n * 10 + digit_value d) cs ds (omega (arith, some)) ge h (and_parts (is_decimal d) (are_decimal ds) g).1
]

abbrev pub begins_nonzero : List ℕ → Bool
begins_nonzero [] = true
begins_nonzero (c ∷ cs) = not (c == zero_digit)

some_digit : (d : ℕ) → is_decimal d ≡ true → not (d == zero_digit) ≡ true → 0 < digit_value d
some_digit d h e = grind (arith, nat_tests)

longer : (cs ds : List ℕ) → length cs < length ds → are_decimal cs ≡ true → are_decimal ds ≡ true → begins_nonzero ds ≡ true → nat_cmp (value_after 0 cs) (value_after 0 ds) ≡ Less
longer cs [] within h g e = absurd (omega (arith, within))
longer cs (d ∷ ds) within h g e =
    let parts = and_parts (is_decimal d) (are_decimal ds) g in
    let some = some_digit d parts.0 e in
    longer_after (0 * 10 + digit_value d) cs ds (omega (arith, some)) (omega (arith, within)) h parts.1

turned : (m n : ℕ) → nat_cmp m n ≡ Less → nat_cmp n m ≡ Greater
turned m n h = grind (arith, nat_tests)

-- numbers without zeros before them
pub numbers_compared : (cs ds : List ℕ) → are_decimal cs ≡ true → are_decimal ds ≡ true → begins_nonzero cs ≡ true → begins_nonzero ds ≡ true
    → nat_cmp (value_after 0 cs) (value_after 0 ds) ≡ ordering_then (nat_cmp (length cs) (length ds)) (slice_cmp nat_cmp cs ds)
numbers_compared cs ds h g e f = elim (cases_lt (length cs) (length ds)) [
  | inl lt ↦ longer cs ds lt h g f ∙ ap (λ o. ordering_then o (slice_cmp nat_cmp cs ds)) (sym (less (length cs) (length ds) lt))
  | inr ge ↦ elim (cases_lt (length ds) (length cs)) [
    | inl gt ↦ turned (value_after 0 ds) (value_after 0 cs) (longer ds cs gt g h e) ∙ ap (λ o. ordering_then o (slice_cmp nat_cmp cs ds)) (sym (greater (length cs) (length ds) gt))
    | inr le ↦
        let alike : length cs ≡ length ds = omega (arith, ge, le) in
        as_long 0 0 cs ds alike h g ∙ ap (λ o. ordering_then o (slice_cmp nat_cmp cs ds)) (sym (same (length cs) (length ds) alike))
  ]
]

-- ---- zeros before a number

zero_is : (c : ℕ) → (c == zero_digit) ≡ true → c ≡ zero_digit
zero_is c e = grind (arith, nat_tests)

pub value_without : (cs : List ℕ) → value_after 0 (without_zeros cs) ≡ value_after 0 cs
unfolding without_zeros
value_without [] = refl
value_without (c ∷ cs) = by (c == zero_digit) refl (value_without cs) where
  by : (b : Bool) → (c == zero_digit) ≡ b → value_after 0 (without_zeros cs) ≡ value_after 0 cs → value_after 0 (cond b (without_zeros cs) (c ∷ cs)) ≡ value_after 0 (c ∷ cs)
  by true e rest = rest ∙ ap (λ x. value_after (0 * 10 + digit_value x) cs) (sym (zero_is c e))
  by false e rest = refl

pub decimal_without : (cs : List ℕ) → are_decimal cs ≡ true → are_decimal (without_zeros cs) ≡ true
unfolding without_zeros
decimal_without [] h = refl
decimal_without (c ∷ cs) h = by (c == zero_digit) (decimal_without cs (and_parts (is_decimal c) (are_decimal cs) h).1) where
  by : (b : Bool) → are_decimal (without_zeros cs) ≡ true → are_decimal (cond b (without_zeros cs) (c ∷ cs)) ≡ true
  by true rest = rest
  by false rest = h

pub nonzero_without : (cs : List ℕ) → begins_nonzero (without_zeros cs) ≡ true
unfolding without_zeros
nonzero_without [] = refl
nonzero_without (c ∷ cs) = by (c == zero_digit) refl (nonzero_without cs) where
  by : (b : Bool) → (c == zero_digit) ≡ b → begins_nonzero (without_zeros cs) ≡ true → begins_nonzero (cond b (without_zeros cs) (c ∷ cs)) ≡ true
  by true e rest = rest
  by false e rest = ap not e
