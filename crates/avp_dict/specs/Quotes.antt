-- Quoted texts: how octets are printed between double quotes, and which octets a text between quotes stands for.
use Rattle.std.specs.Prelude.{codes, ℕ, zero, suc, ◌+◌, ◌*◌, ◌-◌, ◌/◌, ◌%◌, Bool, ◌&&◌, ◌||◌, ◌==◌, nat_le, if◌then◌else◌, List, [], ◌∷◌, ◌++◌, length, take, drop, slice_index, Some, None}
use Rattle.std.specs.List.{find, flat_map, zip}
use Rattle.avp_dict.specs.declared.value.quotes.Escape.{Escape}
use Rattle.avp_dict.specs.declared.value.quotes.QuoteMark.{QuoteMark}
use Rattle.avp_dict.specs.declared.value.quotes.QuoteMark.TheVariants.{Double, Single}
use Rattle.avp_dict.specs.Ascii.{backslash, digit_zero, double_quote, single_quote}

-- the letters after a `\` and the octets that they stand for, for writing and for reading
abbrev pub escapes : List (ℕ × ℕ)
escapes = zip (codes "\"\\nrt") (codes "\"\\\n\r\t")

-- ---- printing

-- `\` and three octal digits
abbrev pub octal_escape : ℕ → List ℕ
octal_escape o =
    backslash ∷ (digit_zero + o / 64) ∷ (digit_zero + o / 8 % 8) ∷ (digit_zero + o % 8) ∷ []

-- an octet between double quotes: `\` and its letter, itself from 0x20 to 0x7e, else in octal digits
abbrev pub quoted_octet : ℕ → List ℕ
quoted_octet o = elim (find (λ e. e.1 == o) escapes) [
  | Some e ↦ backslash ∷ e.0 ∷ []
  | None ↦ (if nat_le 32 o && nat_le o 126 then o ∷ [] else octal_escape o)
]

-- octets between double quotes, with these
unfoldable pub quoted : List ℕ → List ℕ
quoted octets = double_quote ∷ flat_map quoted_octet octets ++ double_quote ∷ []

-- what is between the quotes of a quoted text
abbrev pub between_quotes : List ℕ → List ℕ
between_quotes text = take (length text - 2) (drop 1 text)

-- ---- reading

-- from `0` to `7`
abbrev pub is_octal : ℕ → Bool
is_octal o = nat_le 48 o && nat_le o 55

-- three octal digits of at most 377
abbrev pub begins_octal : List ℕ → Bool
begins_octal text =
    is_octal (slice_index text 0) && nat_le (slice_index text 0) 51 && is_octal (slice_index text 1)
    && is_octal (slice_index text 2)

abbrev pub octal_value : ℕ → ℕ → ℕ → ℕ
octal_value a b c = (a - digit_zero) * 64 + (b - digit_zero) * 8 + (c - digit_zero)

-- the octet of `\` and a letter: itself where no octet has it
abbrev pub escaped_letter : ℕ → ℕ
escaped_letter c = elim (find (λ e. e.0 == c) escapes) [ Some e ↦ e.1 | None ↦ c ]

-- an octet, and how many octets after a `\` stand for it
abbrev pub escape_by : ℕ → ℕ → Escape
escape_by octet taken = record { octet = octet; taken = taken }

-- what follows a `\` between double quotes
abbrev pub double_escape : List ℕ → Escape
double_escape [] = escape_by backslash 0
double_escape (c ∷ cs) =
    if begins_octal (c ∷ cs) then escape_by (octal_value c (slice_index cs 0) (slice_index cs 1)) 3
    else escape_by (escaped_letter c) 1

-- what follows a `\` between single quotes: `\\` and `\'` alone are escapes
abbrev pub single_escape : List ℕ → Escape
single_escape [] = escape_by backslash 0
single_escape (c ∷ cs) =
    if c == backslash || c == single_quote then escape_by c 1 else escape_by backslash 0

abbrev pub escape_in : QuoteMark → List ℕ → Escape
escape_in Double text = double_escape text
escape_in Single text = single_escape text

-- the octets that a text stands for, but for so many at its front that an escape has taken
abbrev pub unescaped : QuoteMark → ℕ → List ℕ → List ℕ
unescaped quote taken [] = []
unescaped quote (suc taken) (o ∷ os) = unescaped quote taken os
unescaped quote zero (o ∷ os) =
    if o == backslash
    then (escape_in quote os).octet ∷ unescaped quote (escape_in quote os).taken os
    else o ∷ unescaped quote 0 os

-- the octets that a text between quotes stands for
unfoldable pub octets_between : QuoteMark → List ℕ → List ℕ
octets_between quote text = unescaped quote 0 text

abbrev pub double_quoted_octets : List ℕ → List ℕ
double_quoted_octets text = octets_between Double text

abbrev pub single_quoted_octets : List ℕ → List ℕ
single_quoted_octets text = octets_between Single text
