-- Printed numbers are read back.
use Rattle.std.proofs.Common.{◌≡◌, ◌∙◌, ℕ, ◌+◌, ◌*◌, ◌/◌, ◌%◌, ◌^◌, ◌<◌, ◌≤◌, Bool, true, false, cond, ◌==◌, ltb, List, [], ◌∷◌, ◌++◌, length, slice_index, Some, None, refl, ap, arith, decimal, option_and_then, length-append, All}
use Rattle.std.specs.Char.{digit_value}
use Rattle.std.proofs.Math.Bool.{and-false}
use Rattle.std.proofs.lemmas.Fmt.{decimal_by_steps}
use Rattle.std.proofs.lemmas.List.Elements.{All-nil, All-cons, All-push, All-weaker}
use Rattle.avp_dict.specs.Words.{digits, is_hexadecimal, number_after, number_of}

abbrev pub IsDigit : ℕ → Type 0
IsDigit o = (48 ≤ o) × (o ≤ 57)

-- the decimal digits of a number
pub record IsNumeral (n : ℕ) (text : List ℕ) : Type 0 where
  pub value : number_after 10 0 text ≡ Some n
  pub some : 0 < length text
  pub each : All IsDigit text

after_by : (b : Bool) (base n : ℕ) (xs ys : List ℕ) → number_after base n (xs ++ ys) ≡ option_and_then (λ m. number_after base m ys) (number_after base n xs) → cond b (number_after base n (xs ++ ys)) None ≡ option_and_then (λ m. number_after base m ys) (cond b (number_after base n xs) None)
after_by true base n xs ys h = h
after_by false base n xs ys h = refl

pub number_after-append : (base n : ℕ) (xs ys : List ℕ) → number_after base n (xs ++ ys) ≡ option_and_then (λ m. number_after base m ys) (number_after base n xs)
number_after-append base n [] ys = refl
number_after-append base n (x ∷ xs) ys = after_by (ltb (digit_value x) base) base (n * base + digit_value x) xs ys (number_after-append base (n * base + digit_value x) xs ys)

digit_of : (n : ℕ) → n < 10 → digit_value (48 + n) ≡ n
digit_of n h = grind arith

next_digit : (m n : ℕ) → n < 10 → number_after 10 m ((48 + n) ∷ []) ≡ Some (m * 10 + n)
next_digit m n h =
    let below : ltb n 10 ≡ true = grind arith in
    rw (digit_of n h, below)

one_digit : (n : ℕ) → n < 10 → IsNumeral n ((48 + n) ∷ [])
one_digit n h = record {
  value = next_digit 0 n h ∙ ap (λ (m : ℕ). Some m) (omega arith);
  some = omega arith;
  each = All-cons IsDigit (48 + n) [] (omega arith, omega arith) (All-nil IsDigit);
}

more_digits : (n : ℕ) (text : List ℕ) → 10 ≤ n → IsNumeral (n / 10) text → IsNumeral n (text ++ (48 + n % 10) ∷ [])
more_digits n text h so_far =
    let low : n % 10 < 10 = omega arith in record {
      value = number_after-append 10 0 text ((48 + n % 10) ∷ []) ∙ (ap (option_and_then (λ m. number_after 10 m ((48 + n % 10) ∷ []))) so_far.value ∙ (next_digit (n / 10) (n % 10) low ∙ ap (λ (m : ℕ). Some m) (omega arith)));
      some = simp length-append (omega arith);
      each = All-push IsDigit text (48 + n % 10) so_far.each (omega arith, omega arith);
    }

pub decimal_numeral : (n : ℕ) → n < 2 ^ 64 → IsNumeral n (decimal n)
decimal_numeral n h = decimal_by_steps (λ m text. IsNumeral m text) one_digit more_digits n h

-- ---- what a numeral is, and is not

digits_some : (base : ℕ) (text : List ℕ) → 0 < length text → digits base text ≡ number_after base 0 text
digits_some base [] h = absurd (omega arith)
digits_some base (o ∷ os) h = refl

pub digits_numeral : (n : ℕ) (text : List ℕ) → IsNumeral n text → digits 10 text ≡ Some n
digits_numeral n text h = digits_some 10 text h.some ∙ h.value

not_hexadecimal : (text : List ℕ) → All IsDigit text → is_hexadecimal text ≡ false
not_hexadecimal [] h = refl
not_hexadecimal (o ∷ []) h = and-false (o == 48)
not_hexadecimal (o ∷ p ∷ os) h =
    let low = (h 1 0 (omega arith)).1 in
    let e : (p == 120) ≡ false = grind arith in
    rw e (and-false (o == 48))

pub number_of_numeral : (n : ℕ) (text : List ℕ) → IsNumeral n text → number_of text ≡ Some n
number_of_numeral n text h = rw (not_hexadecimal text h.each) (digits_numeral n text h)

-- no octet of it is one of the others
pub numeral_without : (o : ℕ) (n : ℕ) (text : List ℕ) → o < 48 → IsNumeral n text → All (λ x. (x == o) ≡ false) text
numeral_without o n text h is = All-weaker IsDigit (λ x. (x == o) ≡ false) (λ x low. grind arith) text is.each

pub first_of_numeral : (n : ℕ) (text : List ℕ) → IsNumeral n text → IsDigit (slice_index text 0)
first_of_numeral n text h = h.each 0 0 h.some
