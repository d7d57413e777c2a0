-- JSON (RFC 8259) that may be part of HTML: a string has an octet in each character.
use Rattle.std.specs.Prelude.{ℕ, ◌+◌, ◌/◌, ◌%◌, Bool, not, ◌&&◌, ◌||◌, ◌==◌, nat_le, nat_lt, if◌then◌else◌, List, [], ◌∷◌, ◌++◌, codes}
use Rattle.std.specs.List.{flat_map, list_all}

-- ---- strings (section 7)

-- a quote or \, which a string has only after a \
abbrev pub is_quoting : ℕ → Bool
is_quoting o = o == 34 || o == 92

abbrev pub string_octet : ℕ → List ℕ
string_octet o = if is_quoting o then 92 ∷ o ∷ [] else o ∷ []

-- the string of octets
unfoldable pub string_text : List ℕ → List ℕ
string_text octets = codes "\"" ++ flat_map string_octet octets ++ codes "\""

-- ---- hexadecimal digits

abbrev pub digit : ℕ → ℕ
digit n = if nat_lt n 10 then n + 48 else n + 87

-- an octet as two of them
abbrev pub two_digits : ℕ → List ℕ
two_digits o = digit (o / 16) ∷ digit (o % 16) ∷ []

-- ---- as part of HTML

-- one of < > &
abbrev pub is_markup : ℕ → Bool
is_markup o = o == 60 || o == 62 || o == 38

-- printed ASCII that is no markup: no control character, and no part of U+2028 or U+2029
abbrev pub is_embeddable : ℕ → Bool
is_embeddable o = nat_le 32 o && nat_lt o 127 && not (is_markup o)

abbrev pub are_embeddable : List ℕ → Bool
are_embeddable octets = list_all is_embeddable octets

-- an octet of a text: as it is, or \u00 and two digits, which in a string are the character with its number
abbrev pub embedded_octet : ℕ → List ℕ
embedded_octet o = if is_embeddable o then o ∷ [] else codes "\\u00" ++ two_digits o

unfoldable pub embedded : List ℕ → List ℕ
embedded octets = flat_map embedded_octet octets

-- ---- texts in HTML

-- an octet as a text in HTML: markup as a reference, line feeds and printed ASCII as they are, and others as `?`
abbrev pub markup_octet : ℕ → List ℕ
markup_octet o =
    if o == 60 then codes "&lt;" else if o == 62 then codes "&gt;" else if o == 38 then codes "&amp;"
    else if o == 10 || is_embeddable o then o ∷ [] else codes "?"

unfoldable pub markup_text : List ℕ → List ℕ
markup_text octets = flat_map markup_octet octets

-- an octet that begins or ends no tag
abbrev pub is_no_tag : ℕ → Bool
is_no_tag o = not (o == 60 || o == 62)
