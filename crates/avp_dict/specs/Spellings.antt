-- Which value a text stands for under a name.
use Rattle.std.specs.Prelude.{ℕ, ◌+◌, pos, neg_ℤ, ℤ, Bool, false, not, ◌&&◌, ◌||◌, ◌==◌, nat_le, if◌then◌else◌, List, [], ◌∷◌, drop, length, slice_index, Option, Some, None, is_some, Result, Ok, Err}
use Rattle.std.specs.Option.{option_and_then, option_map, option_map_or, option_or}
use Rattle.std.specs.Result.{result_ok}
use Rattle.std.specs.List.{slice_split}
use Rattle.hex.specs.Hex.{decode_of}
use Rattle.avp_lists.specs.declared.pairs.AttrId.{AttrId}
use Rattle.avp_lists.specs.declared.pairs.Value.{Value}
use Rattle.avp_lists.specs.declared.pairs.Value.TheVariants.{Int, Signed, Addr, Ether}
use Rattle.avp_lists.specs.declared.pairs.Value.TheVariants as values
use Rattle.avp_dict.specs.declared.entries.Named.{Named}
use Rattle.avp_dict.specs.declared.entries.Kind.{Kind}
use Rattle.avp_dict.specs.declared.entries.Kind.TheVariants as kinds
use Rattle.avp_dict.specs.Ascii.{colon, hyphen}
use Rattle.avp_dict.specs.AttributeNumbers.{greatest_number, greatest_signed}
use Rattle.avp_dict.specs.Dictionary.{Dictionary, number_named, typing_of_id}
use Rattle.avp_dict.specs.declared.entries.Typing.{Typing}
use Rattle.avp_dict.specs.declared.value.faults.ValueFault.{ValueFault}
use Rattle.avp_dict.specs.declared.value.faults.ValueFault.TheVariants.{NotWritable, NotValue, TooLong}
use Rattle.avp_dict.specs.Letters.{is_dot}
use Rattle.avp_dict.specs.Limits.{is_within}
use Rattle.avp_dict.specs.Octets.{is_hidden, keeps_octets, value_of_octets}
use Rattle.avp_dict.specs.Sent.{is_container}
use Rattle.avp_dict.specs.Values.{max_of}
use Rattle.avp_dict.specs.Words.{digits, is_hexadecimal, number_of}

-- ---- octets

-- 0x and pairs of hexadecimal digits
unfoldable pub octets_spelled : List ℕ → Option (List ℕ)
octets_spelled text = if is_hexadecimal text then result_ok (decode_of (drop 2 text)) else None

-- a text that does not begin with 0x stands for its own octets, where the type word allows it
unfoldable pub bytes_spelled : Bool → List ℕ → Option (List ℕ)
bytes_spelled takes_text text =
    if takes_text && not (is_hexadecimal text) then Some text else octets_spelled text

-- ---- numbers

-- a number that is not above the greatest one
abbrev pub up_to : ℕ → Option ℕ → Option ℕ
up_to most None = None
up_to most (Some n) = if nat_le n most then Some n else None

-- a number, or a name that VALUE lines give to one
unfoldable pub number_spelled : ℕ → AttrId → List ℕ → Dictionary → Option ℕ
number_spelled most id text dictionary =
    up_to most (option_or (number_of text) (number_named id text dictionary.values))

abbrev pub negated : ℕ → ℤ
negated n = neg_ℤ (pos n)

-- '-'
abbrev pub is_negative : List ℕ → Bool
is_negative text = slice_index text 0 == hyphen

-- decimal digits, or '-' and decimal digits, of a number of 32 bits
unfoldable pub signed_spelled : List ℕ → Option ℤ
signed_spelled text =
    if is_negative text
    then option_map negated (up_to (greatest_signed + 1) (digits 10 (drop 1 text)))
    else option_map pos (up_to greatest_signed (digits 10 text))

-- ---- addresses

-- the numbers of the parts, where each has one
unfoldable pub each_number : (List ℕ → Option ℕ) → List (List ℕ) → Option (List ℕ)
each_number number [] = Some []
each_number number (part ∷ parts) =
    option_and_then (λ n. option_map (λ ns. n ∷ ns) (each_number number parts)) (number part)

-- so many parts
abbrev pub in_parts : ℕ → (List ℕ → Option ℕ) → List (List ℕ) → Option (List ℕ)
in_parts n number parts = if length parts == n then each_number number parts else None

-- one to three decimal digits of a number up to 255
unfoldable pub decimal_octet : List ℕ → Option ℕ
decimal_octet part = if nat_le (length part) 3 then up_to 255 (digits 10 part) else None

-- two hexadecimal digits
unfoldable pub digit_pair : List ℕ → Option ℕ
digit_pair part = if length part == 2 then digits 16 part else None

abbrev pub is_colon : ℕ → Bool
is_colon o = o == colon

-- four decimal octets, with dots between
abbrev pub address_spelled : List ℕ → Option (List ℕ)
address_spelled text = in_parts 4 decimal_octet (slice_split is_dot text)

-- six pairs of hexadecimal digits, with colons between
abbrev pub ether_spelled : List ℕ → Option (List ℕ)
ether_spelled text = in_parts 6 digit_pair (slice_split is_colon text)

-- ---- values

-- the value of a number that is not above the greatest one, or of a VALUE name
abbrev pub number_up_to : AttrId → List ℕ → Dictionary → ℕ → Option Value
number_up_to id text dictionary most = option_map Int (number_spelled most id text dictionary)

-- a text under a name of an ATTRIBUTE line, by the type; takes_text says whether a text without `0x` is taken as its
-- own octets, where the type is octets
abbrev pub spelled_as : Kind → Bool → AttrId → List ℕ → Dictionary → Option Value
spelled_as kinds.Text takes_text id text dictionary = Some (values.Text text)
spelled_as kinds.Bytes takes_text id text dictionary =
    option_map values.Bytes (bytes_spelled takes_text text)
spelled_as kinds.Addr takes_text id text dictionary = option_map Addr (address_spelled text)
spelled_as kinds.Ether takes_text id text dictionary = option_map Ether (ether_spelled text)
spelled_as kinds.Date takes_text id text dictionary =
    option_map Int (up_to greatest_number (number_of text))
spelled_as kinds.Signed takes_text id text dictionary = option_map Signed (signed_spelled text)
spelled_as kind takes_text id text dictionary =
    option_and_then (number_up_to id text dictionary) (max_of kind)

abbrev pub spelled_by : AttrId → List ℕ → Dictionary → Typing → Option Value
spelled_by id text dictionary typing = spelled_as typing.kind typing.takes_text id text dictionary

-- under a name by number the octets alone are written, and read by the type of the id
abbrev pub octets_value : AttrId → Dictionary → List ℕ → Value
octets_value id dictionary os = value_of_octets id os dictionary

-- the value that a text stands for, its length aside
unfoldable pub spelled : Named → List ℕ → Dictionary → Option Value
spelled name text dictionary =
    if name.raw then option_map (octets_value name.id dictionary) (octets_spelled text)
    else option_and_then (spelled_by name.id text dictionary)
    (typing_of_id name.id dictionary.attributes)

-- ---- refusals

-- no value is written under this name: the attribute only holds others, or it is hidden and named by number
abbrev pub is_barred : Named → Dictionary → Bool
is_barred name dictionary = is_container name.id || (name.raw && is_hidden name.id dictionary)

abbrev pub unless_long : AttrId → Dictionary → Option Value → Result Value ValueFault
unless_long id dictionary None = Err NotValue
unless_long id dictionary (Some value) =
    if is_within id value dictionary then Ok value else Err TooLong

-- the value of a text under a name, or the first reason that there is none
unfoldable pub value_spelled : Named → List ℕ → Dictionary → Result Value ValueFault
value_spelled name text dictionary =
    if is_barred name dictionary then Err NotWritable
    else unless_long name.id dictionary (spelled name text dictionary)

-- ---- memory

-- Whether memory is taken for a text under a name: only if the name is writable, and then for octets that are spelled
-- under a name by number, and else for a value that keeps octets, its length aside.
unfoldable pub takes_memory : Named → List ℕ → Dictionary → Bool
takes_memory name text dictionary =
    not (is_barred name dictionary)
    && (if name.raw then is_some (octets_spelled text)
    else option_map_or keeps_octets (spelled name text dictionary) false)
