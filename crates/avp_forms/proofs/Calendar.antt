-- The days of the calendar by their numbers, and jiff's dates.
use Rattle.std.proofs.Common.{◌≡◌, ℕ, zero, suc, ◌+◌, ◌*◌, ◌^◌, ◌<◌, ◌≤◌, true, ℤ, pos, neg_ℤ, ◌+ℤ◌, ◌-ℤ◌, ◌*ℤ◌, ◌≤ℤ◌, ◌<ℤ◌, refl, subst, arith, inl, inr, lt-ltb, le-ltb, le-leb, Some}
use Rattle.std.specs.Int.{IsInRange}
use Rattle.std.proofs.lemmas.Bool.{cases_lt}
use Rattle.jiff_core.specs.declared.civil.date.Date.{Date}
use Rattle.jiff_core.specs.Calendar.{day_count, days_from_civil, days_in_month}
use Rattle.jiff_core.specs.Date.{epoch_day}
use Rattle.jiff_core.proofs.CalendarLemmas.{day_count-day, day_count-day_of_year, day_count-end, day_count-epoch, day_count-last_of_year, day_count-later_year, day_count-next_month, day_count-next_year, days_from_civil-day_count, days_in_month_bounds}
use Rattle.jiff_core.proofs.DateLemmas.{epoch_day_injective}
use Rattle.jiff_core.proofs.SignedLemmas.{signed_arith}
use Rattle.avp_forms.specs.Dates.{Day, date_of_moment, day_after, day_numbered, has_day, in_32_bits}

-- a day of the calendar, so many days after the first of January 1970
pub record IsDay (n : ℕ) (d : Day) : Type 0 where
  pub year : 1970 ≤ d.year
  pub month : IsInRange 1 12 d.month
  pub day : IsInRange 1 (days_in_month (pos d.year) d.month) d.day
  pub count : day_count (pos d.year) d.month d.day ≡ n + 4371953

next_year : (n : ℕ) (d : Day) → IsDay n d → 12 ≤ d.month → days_in_month (pos d.year) d.month ≤ d.day → day_count (pos (d.year + 1)) 1 1 ≡ suc n + 4371953
next_year n d is late last =
    let em : d.month ≡ 12 = omega (arith, is.month) in
    let long : days_in_month (pos d.year) d.month ≡ 31 = rw em refl in
    let ed : d.day ≡ 31 = omega (arith, is.day) in
    let counted : day_count (pos d.year) 12 31 ≡ n + 4371953 = rw (em, ed) at is.count in
    let low : neg_ℤ (pos 10000) ≤ℤ pos d.year = omega (arith, signed_arith) in
    let next : pos (d.year + 1) ≡ pos d.year +ℤ pos 1 = omega (arith, signed_arith) in
    omega (arith, day_count-last_of_year (pos d.year), day_count-next_year (pos d.year) (pos (d.year + 1)) low next)

day_later : (n : ℕ) (d : Day) → IsDay n d → IsDay (suc n) (day_after d)
day_later n d is = elim (cases_lt d.day (days_in_month (pos d.year) d.month)) [
  | inl less ↦ rw (lt-ltb _ _ less) (record {
    year = is.year;
    month = is.month;
    day = (omega arith, omega arith);
    count = omega (arith, is.count, day_count-day (pos d.year) d.month d.day (d.day + 1) is.day.0 (omega arith));
  })
  | inr last ↦ elim (cases_lt d.month 12) [
    | inl early ↦ rw (le-ltb _ _ last, lt-ltb _ _ early) (record {
      year = is.year;
      month = (omega arith, omega arith);
      day = (omega arith, omega (arith, days_in_month_bounds (pos d.year) (d.month + 1)));
      count = omega (arith, is.count, is.day, day_count-next_month (pos d.year) d.month is.month.0, day_count-day (pos d.year) d.month d.day 1 is.day.0 (omega arith));
    })
    | inr late ↦ rw (le-ltb _ _ last, le-ltb _ _ late) (record {
      year = omega (arith, is.year);
      month = (omega arith, omega arith);
      day = (omega arith, omega (arith, days_in_month_bounds (pos (d.year + 1)) 1));
      count = next_year n d is late last;
    })
  ]
]

pub numbered : (n : ℕ) → IsDay n (day_numbered n)
unfolding day_numbered
numbered zero = record {
  year = omega arith;
  month = (omega arith, omega arith);
  day = (omega arith, omega arith);
  count = day_count-epoch;
}
numbered (suc n) = day_later n (day_numbered n) (numbered n)

-- the year has four digits
too_late : (n y : ℕ) → 10000 ≤ y → day_count (pos y) 1 1 ≤ n + 4371953 → n ≤ 50000 → ⊥
too_late n y late count h = elim (cases_lt 10000 y) [
  | inl later ↦
      let low : neg_ℤ (pos 10000) ≤ℤ pos 10000 = omega (arith, signed_arith) in
      let after : pos 10000 <ℤ pos y = omega (arith, signed_arith) in
      omega (arith, day_count-end, day_count-later_year (pos 10000) (pos y) low after)
  | inr first ↦
      let same : y ≡ 10000 = omega arith in
      let start : day_count (pos y) 1 1 ≡ 7304850 = rw same day_count-end in
      omega arith
]

pub four_digit_year : (n : ℕ) (d : Day) → IsDay n d → n ≤ 50000 → d.year ≤ 9999
four_digit_year n d is h = elim (cases_lt d.year 10000) [
  | inl early ↦ omega arith
  | inr late ↦
      let first = day_count-day_of_year (pos d.year) d.month d.day is.day.0 in
      absurd (too_late n d.year late (omega (arith, first, is.count, is.day)) h)
]

-- jiff's date of a day number is the day of the number
pub same_date : (n : ℕ) (date : Date) → n ≤ 50000 → epoch_day date +ℤ pos 4371587 ≡ pos (n + 4371587) → (date.year ≡ pos (day_numbered n).year) × (date.month ≡ (day_numbered n).month) × (date.day ≡ (day_numbered n).day)
same_date n date h e =
    let d = day_numbered n in
    let is = numbered n in
    let short = four_digit_year n d is h in
    let made : Date = record {
      year = pos d.year;
      month = d.month;
      day = d.day;
      year_in = (omega (arith, signed_arith), omega (arith, signed_arith));
      month_in = is.month;
      day_in = is.day;
    } in
    let same : epoch_day date ≡ epoch_day made = omega (arith, signed_arith, days_from_civil-day_count (pos d.year) d.month d.day, is.count) in
    epoch_day_injective date made same

-- ---- a date that was read

is_day : (date : Date) (y m d : ℕ) → date.year ≡ pos y → date.month ≡ m → date.day ≡ d → has_day y m d ≡ true
is_day date y m d ey em ed =
    let day : IsInRange 1 (days_in_month (pos y) m) d = subst (λ k. IsInRange 1 (days_in_month (pos y) m) k) ed
    (subst (λ k. IsInRange 1 (days_in_month (pos y) k) date.day) em
    (subst (λ z. IsInRange 1 (days_in_month z date.month) date.day) ey date.day_in)) in
    let month : IsInRange 1 12 m = subst (λ k. IsInRange 1 12 k) em date.month_in in
    rw (le-leb 1 m month.0, le-leb m 12 month.1, le-leb 1 d day.0, le-leb d (days_in_month (pos y) m) day.1)

pub moment_of_date : (date : Date) (y m d seconds : ℕ) (offset : ℤ) → date.year ≡ pos y → date.month ≡ m → date.day ≡ d → date_of_moment y m d seconds offset ≡ in_32_bits (epoch_day date *ℤ pos 86400 +ℤ pos seconds -ℤ offset *ℤ pos 60)
unfolding date_of_moment
moment_of_date date y m d seconds offset ey em ed =
    let there = is_day date y m d ey em ed in
    let same : epoch_day date ≡ days_from_civil (pos y) m d = rw (ey, em, ed) refl in
    rw (there, same) refl

-- ---- a moment of a day

pub moment_of_day : (n : ℕ) (d : Day) (s : ℕ) → IsDay n d → n * 86400 + s < 2 ^ 32 → date_of_moment d.year d.month d.day s (pos 0) ≡ Some (n * 86400 + s)
unfolding date_of_moment
moment_of_day n d s is low =
    let there : has_day d.year d.month d.day ≡ true = rw (le-leb 1 d.month is.month.0, le-leb d.month 12 is.month.1, le-leb 1 d.day is.day.0, le-leb d.day (days_in_month (pos d.year) d.month) is.day.1) in
    let day : days_from_civil (pos d.year) d.month d.day ≡ pos n = omega (arith, signed_arith, days_from_civil-day_count (pos d.year) d.month d.day, is.count) in
    let moment : n * 86400 + s + 0 ≡ n * 86400 + s = omega arith in
    rw (there, day, moment, le-leb 0 (n * 86400 + s) (omega arith), le-leb (n * 86400 + s) 4294967295 (omega arith))
