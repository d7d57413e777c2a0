-- JSON strings (RFC 8259, section 7).
use Rattle.std.specs.Prelude.{ℕ, Bool, not, ◌||◌, ◌==◌, if◌then◌else◌, List, [], ◌∷◌, ◌++◌, codes}
use Rattle.std.specs.Char.{encode_utf8}
use Rattle.std.specs.Int.{is_in_range}
use Rattle.std.specs.List.{flat_map}
use Rattle.std.specs.Str.{chars}
use Rattle.json.specs.Print.{quoted}
use Rattle.hex.specs.Hex.{encode_lower}
use Rattle.radpolicy_common.specs.declared.json_strings.Escaping.{Escaping}
use Rattle.radpolicy_common.specs.declared.json_strings.Escaping.TheVariants.{ForMarkup, Plain}

-- ---- what is escaped besides what JSON asks for

-- an octet is none of < > &
abbrev pub is_no_markup : ℕ → Bool
is_no_markup o = not (o == 60 || o == 62 || o == 38)

-- a character is none of U+2028 and U+2029, which end a line in a script
abbrev pub is_no_separator : ℕ → Bool
is_no_separator c = not (c == 0x2028 || c == 0x2029)

-- a character for markup: < > & and the two separators as escapes
abbrev pub markup_text : ℕ → List ℕ
markup_text c = if c == 60 then codes "\\u003c" else if c == 62 then codes "\\u003e"
    else if c == 38 then codes "\\u0026" else if c == 0x2028 then codes "\\u2028"
    else if c == 0x2029 then codes "\\u2029" else encode_utf8 c

-- a control character that JSON takes as it is: DEL, and from U+0080 to U+009F
abbrev pub is_late_control : ℕ → Bool
is_late_control c = is_in_range 0x7F 0x9F c

-- \u00 and two hexadecimal digits
abbrev pub short_escape : ℕ → List ℕ
short_escape c = codes "\\u00" ++ encode_lower (c ∷ [])

-- a character: such a control character as an escape, and for markup those
abbrev pub char_text : Escaping → ℕ → List ℕ
char_text Plain c = if is_late_control c then short_escape c else encode_utf8 c
char_text ForMarkup c = if is_late_control c then short_escape c else markup_text c

-- each character of a text with these escapes
abbrev pub with_escapes : Escaping → List ℕ → List ℕ
with_escapes escaping text = flat_map (char_text escaping) (chars text)

-- ---- strings

-- the string of a text in UTF-8: between quotes, with the shortest escapes of quotes, \ and what is below 0x20; and of
-- that, each character with these
unfoldable pub json_string : Escaping → List ℕ → List ℕ
json_string escaping text = with_escapes escaping (quoted text)

-- octets that are no UTF-8
unfoldable pub json_octets : List ℕ → List ℕ
json_octets octets = codes "{\"octets\":\"" ++ encode_lower octets ++ codes "\"}"
