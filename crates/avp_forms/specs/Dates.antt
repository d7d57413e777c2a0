-- Dates: seconds since the first of January 1970, 00:00 UTC (RFC 8044, section 3.3), and the texts that stand for them.
use Rattle.std.specs.Prelude.{codes, ℕ, zero, suc, ◌+◌, ◌-◌, ◌*◌, ◌/◌, ◌%◌, ℤ, pos, neg_ℤ, ◌+ℤ◌, ◌-ℤ◌, ◌*ℤ◌, int_le, unsigned_abs, Bool, ◌&&◌, ◌||◌, ◌==◌, nat_le, nat_lt, if◌then◌else◌, List, [], ◌∷◌, ◌++◌, bytes_eq, drop, length, slice_index, slice_index_or, slice_range, Option, Some, None}
use Rattle.std.specs.List.{list_all}
use Rattle.std.specs.Map.{lookup}
use Rattle.std.specs.Option.{option_and_then, option_or}
use Rattle.jiff_core.specs.Calendar.{days_from_civil, days_in_month}
use Rattle.avp_dict.specs.Ascii.{colon, hyphen, space}
use Rattle.avp_dict.specs.AttributeNumbers.{greatest_number}
use Rattle.avp_dict.specs.Letters.{is_decimal, is_letter}
use Rattle.avp_forms.specs.Numerals.{number_up_to, number_within}

infixl 10 ◌>>=◌
abbrev pub ◌>>=◌ : {A B : Type 0} → Option A → (A → Option B) → Option B
o >>= f = option_and_then f o

-- ---- the calendar

pub record Day : Type 0 where
  pub year : ℕ
  pub month : ℕ
  pub day : ℕ

-- the first of January 1970
abbrev pub first_day : Day
first_day = record { year = 1970; month = 1; day = 1 }

-- the day after a day
abbrev pub day_after : Day → Day
day_after d =
    if nat_lt d.day (days_in_month (pos d.year) d.month) then record d { day = d.day + 1 }
    else if nat_lt d.month 12 then record { year = d.year; month = d.month + 1; day = 1 }
    else record { year = d.year + 1; month = 1; day = 1 }

-- the day so many days after the first of January 1970
unfoldable pub day_numbered : ℕ → Day
day_numbered zero = first_day
day_numbered (suc n) = day_after (day_numbered n)

-- ---- printed

abbrev pub two_digits : ℕ → List ℕ
two_digits n = (48 + n / 10) ∷ (48 + n % 10) ∷ []

abbrev pub four_digits : ℕ → List ℕ
four_digits n = two_digits (n / 100) ++ two_digits (n % 100)

-- the three letters of a month, from 1 on
abbrev pub month_name : ℕ → List ℕ
month_name month =
    slice_index_or
    (codes "Jan" ∷ codes "Feb" ∷ codes "Mar" ∷ codes "Apr" ∷ codes "May" ∷ codes "Jun"
    ∷ codes "Jul" ∷ codes "Aug" ∷ codes "Sep" ∷ codes "Oct" ∷ codes "Nov" ∷ codes "Dec" ∷ [])
    (month - 1) []

-- a day of the month, with a blank before one digit
abbrev pub day_text : ℕ → List ℕ
day_text n = if nat_lt n 10 then space ∷ (48 + n) ∷ [] else two_digits n

-- HH:MM:SS of so many seconds
abbrev pub clock_text : ℕ → List ℕ
clock_text n =
    two_digits (n / 3600) ++ codes ":" ++ two_digits (n / 60 % 60) ++ codes ":"
    ++ two_digits (n % 60)

-- a day, and the seconds of it in UTC
abbrev pub moment_text : Day → ℕ → List ℕ
moment_text d seconds =
    month_name d.month ++ codes " " ++ day_text d.day ++ codes " " ++ four_digits d.year
    ++ codes " " ++ clock_text seconds ++ codes " UTC"

-- as a server prints it in UTC: `Nov 24 2026 10:00:00 UTC`, with two blanks before a day of one digit
unfoldable pub date_text : ℕ → List ℕ
date_text n = moment_text (day_numbered (n / 86400)) (n % 86400)

-- ---- read: what both texts have

-- so many digits, of a number that is not above the greatest one
unfoldable pub numeral : ℕ → ℕ → List ℕ → Option ℕ
numeral count most text = if length text == count then number_within 10 most text else None

-- the seconds of HH:MM:SS
unfoldable pub clock_spelled : List ℕ → Option ℕ
clock_spelled text =
    if length text == 8 && slice_index text 2 == colon && slice_index text 5 == colon
    then (do
      hour ← numeral 2 23 (slice_range text 0 2)
      minute ← numeral 2 59 (slice_range text 3 5)
      second ← numeral 2 59 (slice_range text 6 8)
      Some (hour * 3600 + minute * 60 + second))
    else None

-- whether the calendar has a day
abbrev pub has_day : ℕ → ℕ → ℕ → Bool
has_day year month day = nat_le 1 month && nat_le month 12 && nat_le 1 day
    && nat_le day (days_in_month (pos year) month)

abbrev pub in_32_bits : ℤ → Option ℕ
in_32_bits z =
    if int_le (pos 0) z && int_le z (pos greatest_number) then Some (unsigned_abs z) else None

-- the date of a day and of seconds of it, where clocks are so many minutes before UTC's
unfoldable pub date_of_moment : ℕ → ℕ → ℕ → ℕ → ℤ → Option ℕ
date_of_moment year month day seconds offset =
    if has_day year month day
    then in_32_bits (days_from_civil (pos year) month day *ℤ pos 86400 +ℤ pos seconds
    -ℤ offset *ℤ pos 60)
    else None

-- ---- read: what RFC 3339 writes

-- minutes before UTC's clocks: more for '+', fewer for '-'
abbrev pub signed_offset : ℕ → ℕ → Option ℤ
signed_offset sign n =
    if sign == 43 then Some (pos n) else if sign == hyphen then Some (neg_ℤ (pos n)) else None

-- `Z`, or a sign and HH:MM
unfoldable pub offset_spelled : List ℕ → Option ℤ
offset_spelled text =
    if bytes_eq text (codes "Z") then Some (pos 0)
    else if length text == 6 && slice_index text 3 == colon
    then (do
      hour ← numeral 2 23 (slice_range text 1 3)
      minute ← numeral 2 59 (slice_range text 4 6)
      signed_offset (slice_index text 0) (hour * 60 + minute))
    else None

-- `2026-11-24T10:00:00Z`, or with an offset (RFC 3339, section 5.6), without fractions of a second
unfoldable pub internet_date_spelled : List ℕ → Option ℕ
internet_date_spelled text =
    if nat_le 20 (length text) && slice_index text 4 == hyphen && slice_index text 7 == hyphen
    && slice_index text 10 == 84
    then (do
      year ← numeral 4 9999 (slice_range text 0 4)
      month ← numeral 2 12 (slice_range text 5 7)
      day ← numeral 2 31 (slice_range text 8 10)
      seconds ← clock_spelled (slice_range text 11 19)
      offset ← offset_spelled (drop 19 text)
      date_of_moment year month day seconds offset)
    else None

-- ---- read: what a server prints

abbrev pub months : List (List ℕ × ℕ)
months =
    (codes "Jan", 1) ∷ (codes "Feb", 2) ∷ (codes "Mar", 3) ∷ (codes "Apr", 4) ∷ (codes "May", 5)
    ∷ (codes "Jun", 6) ∷ (codes "Jul", 7) ∷ (codes "Aug", 8) ∷ (codes "Sep", 9)
    ∷ (codes "Oct", 10) ∷ (codes "Nov", 11) ∷ (codes "Dec", 12) ∷ []

unfoldable pub month_spelled : List ℕ → Option ℕ
month_spelled text = lookup (bytes_eq text) months

-- an octet of a zone's name
abbrev pub is_zone_octet : ℕ → Bool
is_zone_octet o = is_letter o || is_decimal o || (o == 43 || o == hyphen)

abbrev pub is_zone_name : List ℕ → Bool
is_zone_name name = nat_le 1 (length name) && list_all is_zone_octet name

-- `UTC`, or the name of another zone, where it is told what it stands for
unfoldable pub zone_spelled : Option ℤ → List ℕ → Option ℤ
zone_spelled zone name =
    if bytes_eq name (codes "UTC") then Some (pos 0)
    else if is_zone_name name then zone else None

-- a year, a time and a zone, after a month and a day
unfoldable pub server_moment : Option ℤ → ℕ → ℕ → List ℕ → Option ℕ
server_moment zone month day text =
    if nat_le 15 (length text) && slice_index text 4 == space && slice_index text 13 == space
    then (do
      year ← numeral 4 9999 (slice_range text 0 4)
      seconds ← clock_spelled (slice_range text 5 13)
      offset ← zone_spelled zone (drop 14 text)
      date_of_moment year month day seconds offset)
    else None

-- a day of two digits, or a blank and a day of one
abbrev pub day_spelled : List ℕ → Option ℕ
day_spelled text =
    if slice_index text 0 == space then numeral 1 9 (slice_range text 1 2) else numeral 2 31 text

-- a day and what follows it: one digit, or two octets
unfoldable pub after_month : Option ℤ → ℕ → List ℕ → Option ℕ
after_month zone month text =
    if nat_le 3 (length text) && slice_index text 1 == space
    then (numeral 1 9 (slice_range text 0 1)
    >>= λ day. server_moment zone month day (drop 2 text))
    else if nat_le 3 (length text) && slice_index text 2 == space
    then (day_spelled (slice_range text 0 2)
    >>= λ day. server_moment zone month day (drop 3 text))
    else None

-- `Nov 24 2026 10:00:00 UTC`, with one blank or two before a day of one digit
unfoldable pub server_date_spelled : Option ℤ → List ℕ → Option ℕ
server_date_spelled zone text =
    if nat_le 4 (length text) && slice_index text 3 == space
    then (month_spelled (slice_range text 0 3) >>= λ month. after_month zone month (drop 4 text))
    else None

-- ---- together

-- the date that a text stands for; zone: how many minutes the clocks of a zone that is named, and is not UTC, are before
-- UTC's
unfoldable pub date_spelled : Option ℤ → List ℕ → Option ℕ
date_spelled zone text =
    option_or (number_up_to greatest_number text)
    (option_or (internet_date_spelled text) (server_date_spelled zone text))
