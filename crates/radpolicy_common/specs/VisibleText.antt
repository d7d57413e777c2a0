-- What is shown of octets on a terminal.
use Rattle.std.specs.Prelude.{ℕ, zero, suc, Bool, false, not, ◌||◌, ◌==◌, if◌then◌else◌, List, [], ◌∷◌, ◌++◌, drop, length, take}
use Rattle.std.specs.List.{flat_map, list_all}
use Rattle.std.specs.Char.{IsScalar, encode_utf8, is_control}
use Rattle.std.specs.Str.{StartsWithNoChar, chars}
use Rattle.std.specs.Str.Lossy.{after_first_chunk, utf8_invalid_len, utf8_valid_len}
use Rattle.avp_dict.specs.Quotes.{octal_escape}
use Rattle.radpolicy_common.specs.declared.terminals.LineBreaks.{LineBreaks}
use Rattle.radpolicy_common.specs.declared.terminals.LineBreaks.TheVariants.{Escaped, Kept}

-- ---- characters

-- LF and TAB, where they are kept
abbrev pub is_kept_control : LineBreaks → ℕ → Bool
is_kept_control Escaped c = false
is_kept_control Kept c = (c == 10) || (c == 9)

-- no control character (up to U+001F, and from U+007F to U+009F) but those kept
abbrev pub is_visible : LineBreaks → ℕ → Bool
is_visible breaks c = is_kept_control breaks c || not (is_control c)

-- each character of a text is visible
abbrev pub all_visible : LineBreaks → List ℕ → Bool
all_visible breaks text = list_all (is_visible breaks) (chars text)

-- ---- what is shown

-- each octet in octal digits
abbrev pub octal_text : List ℕ → List ℕ
octal_text octets = flat_map octal_escape octets

-- a character as it is in UTF-8, or the octets of it in octal digits
abbrev pub char_shown : LineBreaks → ℕ → List ℕ
char_shown breaks c =
    if is_visible breaks c then encode_utf8 c else octal_text (encode_utf8 c)

-- a text in UTF-8, character by character
abbrev pub text_shown : LineBreaks → List ℕ → List ℕ
text_shown breaks text = flat_map (char_shown breaks) (chars text)

-- what is shown of any octets: where a character comes first, that character, and then the rest; where none does, the
-- first octet in octal digits, and then the rest
pub data IsVisibleText (breaks : LineBreaks) : List ℕ → List ℕ → Type 0 where
  nothing : IsVisibleText breaks [] []
  character : (c : ℕ) (octets text : List ℕ) → IsScalar c
      → IsVisibleText breaks octets text
      → IsVisibleText breaks (encode_utf8 c ++ octets) (char_shown breaks c ++ text)
  octet : (o : ℕ) (octets text : List ℕ) → StartsWithNoChar (o ∷ octets)
      → IsVisibleText breaks octets text
      → IsVisibleText breaks (o ∷ octets) (octal_escape o ++ text)

-- the longest text at the front, and the octets after it with which no character begins
abbrev pub text_at_front : List ℕ → List ℕ
text_at_front octets = take (utf8_valid_len octets) octets

abbrev pub octets_after_text : List ℕ → List ℕ
octets_after_text octets = take (utf8_invalid_len (drop (utf8_valid_len octets) octets)) (drop (utf8_valid_len octets) octets)

-- of at most so many such parts
abbrev pub visible_within : LineBreaks → ℕ → List ℕ → List ℕ
visible_within breaks zero octets = []
visible_within breaks (suc parts) [] = []
visible_within breaks (suc parts) (o ∷ os) = text_shown breaks (text_at_front (o ∷ os))
    ++ (octal_text (octets_after_text (o ∷ os)) ++ visible_within breaks parts (after_first_chunk (o ∷ os)))

-- the same, which there is one of
unfoldable pub visible_text : LineBreaks → List ℕ → List ℕ
visible_text breaks octets = visible_within breaks (length octets) octets
