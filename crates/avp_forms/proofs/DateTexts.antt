-- Printed dates are read back.
use Rattle.std.proofs.Common.{◌≡◌, ◌∙◌, ℕ, ◌+◌, ◌*◌, ◌/◌, ◌%◌, ◌^◌, ◌<◌, ◌≤◌, ℤ, pos, true, false, ltb, ◌==◌, List, [], ◌∷◌, ◌++◌, codes, Option, Some, None, refl, sym, ap, subst, arith, inl, inr, le-leb, lt-ltb, le-ltb, ne_eqb}
use Rattle.std.specs.Char.{digit_value}
use Rattle.std.proofs.lemmas.Bool.{cases_eq, cases_lt}
use Rattle.jiff_core.proofs.CalendarLemmas.{days_in_month_bounds}
use Rattle.avp_dict.specs.Words.{digits}
use Rattle.avp_forms.specs.Dates.{Day, after_month, clock_spelled, clock_text, date_of_moment, date_spelled, date_text, day_numbered, day_spelled, day_text, four_digits, internet_date_spelled, moment_text, month_name, month_spelled, numeral, server_date_spelled, server_moment, two_digits, zone_spelled}
use Rattle.avp_forms.specs.Numerals.{number_up_to, number_within}
use Rattle.avp_forms.proofs.Calendar.{IsDay, four_digit_year, moment_of_day, numbered}

-- ---- digits

digit_of : (n : ℕ) → n < 10 → digit_value (48 + n) ≡ n
digit_of n h = grind arith

digits_1 : (a : ℕ) → a < 10 → digits 10 ((48 + a) ∷ []) ≡ Some a
digits_1 a ha =
    let la : ltb a 10 ≡ true = lt-ltb a 10 ha in
    rw (digit_of a ha, la) (ap (λ (n : ℕ). Some n) (omega arith))

digits_2 : (a b : ℕ) → a < 10 → b < 10 → digits 10 ((48 + a) ∷ (48 + b) ∷ []) ≡ Some (a * 10 + b)
digits_2 a b ha hb =
    let la : ltb a 10 ≡ true = lt-ltb a 10 ha in
    let lb : ltb b 10 ≡ true = lt-ltb b 10 hb in
    rw (digit_of a ha, digit_of b hb, la, lb) (ap (λ (n : ℕ). Some n) (omega arith))

digits_4 : (a b c d : ℕ) → a < 10 → b < 10 → c < 10 → d < 10 → digits 10 ((48 + a) ∷ (48 + b) ∷ (48 + c) ∷ (48 + d) ∷ []) ≡ Some (((a * 10 + b) * 10 + c) * 10 + d)
digits_4 a b c d ha hb hc hd =
    let la : ltb a 10 ≡ true = lt-ltb a 10 ha in
    let lb : ltb b 10 ≡ true = lt-ltb b 10 hb in
    let lc : ltb c 10 ≡ true = lt-ltb c 10 hc in
    let ld : ltb d 10 ≡ true = lt-ltb d 10 hd in
    rw (digit_of a ha, digit_of b hb, digit_of c hc, digit_of d hd, la, lb, lc, ld) (ap (λ (n : ℕ). Some n) (omega arith))

one_back : (n : ℕ) → n ≤ 9 → numeral 1 9 ((48 + n) ∷ []) ≡ Some n
unfolding numeral number_within
one_back n h = rw (digits_1 n (omega arith), le-leb n 9 h)

two_back : (most n : ℕ) → n ≤ most → n < 100 → numeral 2 most (two_digits n) ≡ Some n
unfolding numeral number_within
two_back most n h low =
    let whole : n / 10 * 10 + n % 10 ≡ n = omega arith in
    rw (digits_2 (n / 10) (n % 10) (omega arith) (omega arith), whole, le-leb n most h)

four_back : (n : ℕ) → n ≤ 9999 → numeral 4 9999 (four_digits n) ≡ Some n
unfolding numeral number_within
four_back n h =
    let whole : ((n / 100 / 10 * 10 + n / 100 % 10) * 10 + n % 100 / 10) * 10 + n % 100 % 10 ≡ n = omega arith in
    rw (digits_4 (n / 100 / 10) (n / 100 % 10) (n % 100 / 10) (n % 100 % 10) (omega arith) (omega arith) (omega arith) (omega arith), whole, le-leb n 9999 h)

clock_back : (s : ℕ) → s < 86400 → clock_spelled (clock_text s) ≡ Some s
unfolding clock_spelled
clock_back s h =
    let whole : s / 3600 * 3600 + s / 60 % 60 * 60 + s % 60 ≡ s = omega arith in
    rw (two_back 23 (s / 3600) (omega arith) (omega arith), two_back 59 (s / 60 % 60) (omega arith) (omega arith), two_back 59 (s % 60) (omega arith) (omega arith), whole)

-- ---- months

record IsMonth (m a b c : ℕ) : Type 0 where
  name : month_name m ≡ a ∷ b ∷ c ∷ []
  spelled : month_spelled (a ∷ b ∷ c ∷ []) ≡ Some m
  letter : (a == 48) ≡ false
  high : ltb (digit_value a) 10 ≡ false

abbrev Known : ℕ → Type 0
Known m = (a : ℕ) × (b : ℕ) × (c : ℕ) × IsMonth m a b c

month_1 : Known 1
unfolding month_spelled
month_1 = (74, 97, 110, record { name = refl; spelled = refl; letter = refl; high = refl })

month_2 : Known 2
unfolding month_spelled
month_2 = (70, 101, 98, record { name = refl; spelled = refl; letter = refl; high = refl })

month_3 : Known 3
unfolding month_spelled
month_3 = (77, 97, 114, record { name = refl; spelled = refl; letter = refl; high = refl })

month_4 : Known 4
unfolding month_spelled
month_4 = (65, 112, 114, record { name = refl; spelled = refl; letter = refl; high = refl })

month_5 : Known 5
unfolding month_spelled
month_5 = (77, 97, 121, record { name = refl; spelled = refl; letter = refl; high = refl })

month_6 : Known 6
unfolding month_spelled
month_6 = (74, 117, 110, record { name = refl; spelled = refl; letter = refl; high = refl })

month_7 : Known 7
unfolding month_spelled
month_7 = (74, 117, 108, record { name = refl; spelled = refl; letter = refl; high = refl })

month_8 : Known 8
unfolding month_spelled
month_8 = (65, 117, 103, record { name = refl; spelled = refl; letter = refl; high = refl })

month_9 : Known 9
unfolding month_spelled
month_9 = (83, 101, 112, record { name = refl; spelled = refl; letter = refl; high = refl })

month_10 : Known 10
unfolding month_spelled
month_10 = (79, 99, 116, record { name = refl; spelled = refl; letter = refl; high = refl })

month_11 : Known 11
unfolding month_spelled
month_11 = (78, 111, 118, record { name = refl; spelled = refl; letter = refl; high = refl })

month_12 : Known 12
unfolding month_spelled
month_12 = (68, 101, 99, record { name = refl; spelled = refl; letter = refl; high = refl })

known : (m : ℕ) → 1 ≤ m → m ≤ 12 → Known m
known m low high = elim (cases_eq m 1) [ inl e ↦ subst Known (sym e) month_1 | inr n1 ↦ elim (cases_eq m 2) [ inl e ↦ subst Known (sym e) month_2 | inr n2 ↦ elim (cases_eq m 3) [ inl e ↦ subst Known (sym e) month_3 | inr n3 ↦ elim (cases_eq m 4) [ inl e ↦ subst Known (sym e) month_4 | inr n4 ↦ elim (cases_eq m 5) [ inl e ↦ subst Known (sym e) month_5 | inr n5 ↦ elim (cases_eq m 6) [ inl e ↦ subst Known (sym e) month_6 | inr n6 ↦ elim (cases_eq m 7) [ inl e ↦ subst Known (sym e) month_7 | inr n7 ↦ elim (cases_eq m 8) [ inl e ↦ subst Known (sym e) month_8 | inr n8 ↦ elim (cases_eq m 9) [ inl e ↦ subst Known (sym e) month_9 | inr n9 ↦ elim (cases_eq m 10) [ inl e ↦ subst Known (sym e) month_10 | inr n10 ↦ elim (cases_eq m 11) [ inl e ↦ subst Known (sym e) month_11 | inr n11 ↦ elim (cases_eq m 12) [ inl e ↦ subst Known (sym e) month_12 | inr n12 ↦ absurd (omega arith) ] ] ] ] ] ] ] ] ] ] ] ]

-- ---- days

record IsDayText (k x y : ℕ) : Type 0 where
  text : day_text k ≡ x ∷ y ∷ []
  apart : (x == 45) ≡ false
  second : (y == 32) ≡ false
  spelled : day_spelled (x ∷ y ∷ []) ≡ Some k

abbrev Shown : ℕ → Type 0
Shown k = (x : ℕ) × (y : ℕ) × IsDayText k x y

day_shown : (k : ℕ) → 1 ≤ k → k ≤ 31 → Shown k
day_shown k low high = elim (cases_lt k 10) [
  | inl one ↦ (
    32,
    48 + k,
    record {
      text = rw (lt-ltb k 10 one);
      apart = refl;
      second = ne_eqb (48 + k) 32 (omega arith);
      spelled = one_back k (omega arith);
    },
  )
  | inr two ↦ (
    48 + k / 10,
    48 + k % 10,
    record {
      text = rw (le-ltb k 10 two);
      apart = ne_eqb (48 + k / 10) 45 (omega arith);
      second = ne_eqb (48 + k % 10) 32 (omega arith);
      spelled = rw (ne_eqb (48 + k / 10) 32 (omega arith)) (two_back 31 k high (omega arith));
    },
  )
]

-- ---- a moment

abbrev rest_of : ℕ → ℕ → List ℕ
rest_of y s = four_digits y ++ codes " " ++ clock_text s ++ codes " UTC"

zone_back : (offset : Option ℤ) → zone_spelled offset (85 ∷ 84 ∷ 67 ∷ []) ≡ Some (pos 0)
unfolding zone_spelled
zone_back offset = refl

moment_back : (offset : Option ℤ) (m k y s : ℕ) → y ≤ 9999 → s < 86400 → server_moment offset m k (rest_of y s) ≡ date_of_moment y m k s (pos 0)
unfolding server_moment
moment_back offset m k y s hy hs = rw (four_back y hy, clock_back s hs, zone_back offset)

day_back : (offset : Option ℤ) (m k x y year s : ℕ) → IsDayText k x y → after_month offset m (x ∷ y ∷ 32 ∷ rest_of year s) ≡ server_moment offset m k (rest_of year s)
unfolding after_month
day_back offset m k x y year s is = rw (is.second, is.spelled)

abbrev whole : (a b c x y year s : ℕ) → List ℕ
whole a b c x y year s = a ∷ b ∷ c ∷ 32 ∷ x ∷ y ∷ 32 ∷ rest_of year s

shown : (d : Day) (s a b c x y : ℕ) → IsMonth d.month a b c → IsDayText d.day x y → moment_text d s ≡ whole a b c x y d.year s
shown d s a b c x y month day = rw (month.name, day.text)

no_number : (m a b c x y year s : ℕ) → IsMonth m a b c → number_up_to 4294967295 (whole a b c x y year s) ≡ None
unfolding number_up_to
no_number m a b c x y year s month = rw (month.letter, month.high)

no_internet_date : (a b c k x y year s : ℕ) → IsDayText k x y → internet_date_spelled (whole a b c x y year s) ≡ None
unfolding internet_date_spelled
no_internet_date a b c k x y year s day = rw day.apart

server_back : (offset : Option ℤ) (m a b c x y year s : ℕ) → IsMonth m a b c → server_date_spelled offset (whole a b c x y year s) ≡ after_month offset m (x ∷ y ∷ 32 ∷ rest_of year s)
unfolding server_date_spelled
server_back offset m a b c x y year s month = rw month.spelled

spelled_back : (offset : Option ℤ) (d : Day) (s a b c x y : ℕ) → IsMonth d.month a b c → IsDayText d.day x y → d.year ≤ 9999 → s < 86400 → date_spelled offset (moment_text d s) ≡ date_of_moment d.year d.month d.day s (pos 0)
unfolding date_spelled
spelled_back offset d s a b c x y month day hy hs =
    rw (shown d s a b c x y month day, no_number d.month a b c x y d.year s month, no_internet_date a b c d.day x y d.year s day)
    (server_back offset d.month a b c x y d.year s month
    ∙ day_back offset d.month d.day x y d.year s day
    ∙ moment_back offset d.month d.day d.year s hy hs)

pub date_back : (offset : Option ℤ) (n : ℕ) → n < 2 ^ 32 → date_spelled offset (date_text n) ≡ Some n
unfolding date_text
date_back offset n h =
    let q = n / 86400 in
    let s = n % 86400 in
    let d = day_numbered q in
    let is : IsDay q d = numbered q in
    let long = days_in_month_bounds (pos d.year) d.month in
    let month = known d.month is.month.0 is.month.1 in
    let day = day_shown d.day is.day.0 (omega (arith, is.day, long)) in
    let n_is : q * 86400 + s ≡ n = omega arith in
    spelled_back offset d s month.0 month.1 month.2 day.0 day.1 month.3 day.2 (four_digit_year q d is (omega arith)) (omega arith)
    ∙ moment_of_day q d s is (omega arith)
    ∙ ap (λ (k : ℕ). Some k) n_is
