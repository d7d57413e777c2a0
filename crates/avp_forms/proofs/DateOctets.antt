-- The octets of a printed date.
use Rattle.std.proofs.Common.{ℕ, zero, suc, ◌+◌, ◌/◌, ◌%◌, ◌^◌, ◌<◌, ◌≤◌, pos, nat_lt, List, [], ◌∷◌, ◌++◌, codes, arith}
use Rattle.std.proofs.lemmas.Bool.{cond_both}
use Rattle.jiff_core.proofs.CalendarLemmas.{days_in_month_bounds}
use Rattle.avp_forms.specs.Dates.{clock_text, date_text, day_numbered, day_text, four_digits, month_name, two_digits}
use Rattle.avp_forms.proofs.Calendar.{IsDay, four_digit_year, numbered}
use Rattle.avp_forms.proofs.Segments.{AreOctets}

none_fit : AreOctets []
none_fit i = omega arith

more_fit : (o : ℕ) (os : List ℕ) → o < 256 → AreOctets os → AreOctets (o ∷ os)
more_fit o os h rest zero = h
more_fit o os h rest (suc i) = rest i

both_fit : (xs ys : List ℕ) → AreOctets xs → AreOctets ys → AreOctets (xs ++ ys)
both_fit [] ys h rest = rest
both_fit (x ∷ xs) ys h rest = more_fit x (xs ++ ys) (h 0) (both_fit xs ys (λ i. h (suc i)) rest)

three_fit : (a b c : ℕ) → a < 256 → b < 256 → c < 256 → AreOctets (a ∷ b ∷ c ∷ [])
three_fit a b c ha hb hc = more_fit a (b ∷ c ∷ []) ha (more_fit b (c ∷ []) hb (more_fit c [] hc none_fit))

two_fit : (n : ℕ) → n < 2000 → AreOctets (two_digits n)
two_fit n h = more_fit (48 + n / 10) ((48 + n % 10) ∷ []) (omega arith) (more_fit (48 + n % 10) [] (omega arith) none_fit)

month_fit : (m : ℕ) → m ≤ 12 → AreOctets (month_name m)
month_fit zero h = three_fit 74 97 110 (omega arith) (omega arith) (omega arith)
month_fit (suc zero) h = three_fit 74 97 110 (omega arith) (omega arith) (omega arith)
month_fit (suc (suc zero)) h = three_fit 70 101 98 (omega arith) (omega arith) (omega arith)
month_fit (suc (suc (suc zero))) h = three_fit 77 97 114 (omega arith) (omega arith) (omega arith)
month_fit (suc (suc (suc (suc zero)))) h = three_fit 65 112 114 (omega arith) (omega arith) (omega arith)
month_fit (suc (suc (suc (suc (suc zero))))) h = three_fit 77 97 121 (omega arith) (omega arith) (omega arith)
month_fit (suc (suc (suc (suc (suc (suc zero)))))) h = three_fit 74 117 110 (omega arith) (omega arith) (omega arith)
month_fit (suc (suc (suc (suc (suc (suc (suc zero))))))) h = three_fit 74 117 108 (omega arith) (omega arith) (omega arith)
month_fit (suc (suc (suc (suc (suc (suc (suc (suc zero)))))))) h = three_fit 65 117 103 (omega arith) (omega arith) (omega arith)
month_fit (suc (suc (suc (suc (suc (suc (suc (suc (suc zero))))))))) h = three_fit 83 101 112 (omega arith) (omega arith) (omega arith)
month_fit (suc (suc (suc (suc (suc (suc (suc (suc (suc (suc zero)))))))))) h = three_fit 79 99 116 (omega arith) (omega arith) (omega arith)
month_fit (suc (suc (suc (suc (suc (suc (suc (suc (suc (suc (suc zero))))))))))) h = three_fit 78 111 118 (omega arith) (omega arith) (omega arith)
month_fit (suc (suc (suc (suc (suc (suc (suc (suc (suc (suc (suc (suc zero)))))))))))) h = three_fit 68 101 99 (omega arith) (omega arith) (omega arith)
month_fit (suc (suc (suc (suc (suc (suc (suc (suc (suc (suc (suc (suc (suc m))))))))))))) h = absurd (omega arith)

day_fit : (n : ℕ) → n ≤ 31 → AreOctets (day_text n)
day_fit n h =
    cond_both (nat_lt n 10) (32 ∷ (48 + n) ∷ []) (two_digits n) AreOctets
    (λ one. more_fit 32 ((48 + n) ∷ []) (omega arith) (more_fit (48 + n) [] (omega arith) none_fit)) (λ two. two_fit n (omega arith))

blank_fit : AreOctets (codes " ")
blank_fit = more_fit 32 [] (omega arith) none_fit

colon_fit : AreOctets (codes ":")
colon_fit = more_fit 58 [] (omega arith) none_fit

zone_fit : AreOctets (codes " UTC")
zone_fit = more_fit 32 (85 ∷ 84 ∷ 67 ∷ []) (omega arith) (three_fit 85 84 67 (omega arith) (omega arith) (omega arith))

clock_fit : (s : ℕ) → s < 86400 → AreOctets (clock_text s)
clock_fit s h =
    let hours = two_digits (s / 3600) in
    let minutes = two_digits (s / 60 % 60) in
    let seconds = two_digits (s % 60) in
    let one = both_fit hours (codes ":") (two_fit (s / 3600) (omega arith)) colon_fit in
    let two = both_fit (hours ++ codes ":") minutes one (two_fit (s / 60 % 60) (omega arith)) in
    let three = both_fit (hours ++ codes ":" ++ minutes) (codes ":") two colon_fit in
    both_fit (hours ++ codes ":" ++ minutes ++ codes ":") seconds three (two_fit (s % 60) (omega arith))

year_fit : (y : ℕ) → y ≤ 9999 → AreOctets (four_digits y)
year_fit y h = both_fit (two_digits (y / 100)) (two_digits (y % 100)) (two_fit (y / 100) (omega arith)) (two_fit (y % 100) (omega arith))

pub date_fit : (n : ℕ) → n < 2 ^ 32 → AreOctets (date_text n)
unfolding date_text
date_fit n h =
    let q = n / 86400 in
    let d = day_numbered q in
    let is : IsDay q d = numbered q in
    let long = days_in_month_bounds (pos d.year) d.month in
    let month = month_name d.month in
    let day = day_text d.day in
    let year = four_digits d.year in
    let clock = clock_text (n % 86400) in
    let one = both_fit month (codes " ") (month_fit d.month is.month.1) blank_fit in
    let two = both_fit (month ++ codes " ") day one (day_fit d.day (omega (arith, is.day, long))) in
    let three = both_fit (month ++ codes " " ++ day) (codes " ") two blank_fit in
    let four = both_fit (month ++ codes " " ++ day ++ codes " ") year three (year_fit d.year (four_digit_year q d is (omega arith))) in
    let five = both_fit (month ++ codes " " ++ day ++ codes " " ++ year) (codes " ") four blank_fit in
    let six = both_fit (month ++ codes " " ++ day ++ codes " " ++ year ++ codes " ") clock five (clock_fit (n % 86400) (omega arith)) in
    both_fit (month ++ codes " " ++ day ++ codes " " ++ year ++ codes " " ++ clock) (codes " UTC") six zone_fit
