-- VALUE lines and notes, after the last line: each VALUE line by the attributes of all lines and by the VALUE lines
-- before it.
use Rattle.std.specs.Prelude.{ℕ, Bool, true, false, not, ◌&&◌, ◌||◌, ◌==◌, nat_le, if◌then◌else◌, List, [], ◌∷◌, ◌++◌, length, drop, slice_index, Option, Some, None, is_none, is_some, Result, Ok, Err}
use Rattle.std.specs.Option.{option_and_then}
use Rattle.std.specs.List.{list_any, list_all}
use Rattle.avp_lists.specs.declared.pairs.AttrId.{AttrId}
use Rattle.avp_dict.specs.declared.entries.Kind.{Kind}
use Rattle.avp_dict.specs.declared.entries.Kind.TheVariants.{Byte, Short, Integer, Integer64}
use Rattle.avp_dict.specs.declared.entries.Note.{Note}
use Rattle.avp_dict.specs.declared.entries.Typing.{Typing}
use Rattle.avp_dict.specs.declared.entries.ValueLine.{ValueLine}
use Rattle.avp_dict.specs.declared.entries.VendorLine.{VendorLine}
use Rattle.avp_dict.specs.declared.forms.Form.{Form}
use Rattle.avp_dict.specs.declared.forms.Form.TheVariants.{TaggedInteger}
use Rattle.avp_dict.specs.declared.faults.RefusedWord.{RefusedWord}
use Rattle.avp_dict.specs.declared.faults.DictKind.TheVariants.{OutOfRange, NoAttribute, OtherValue}
use Rattle.avp_dict.specs.declared.faults.RefusedLine.{RefusedLine}
use Rattle.avp_dict.specs.AttributeNumbers.{greatest_number, greatest_value}
use Rattle.avp_dict.specs.Dictionary.{Dictionary, id_named, names_other_value, typing_of_id}
use Rattle.avp_dict.specs.Letters.{is_value_name_octet, max_name}
use Rattle.avp_dict.specs.Meanings.{Meaning, Skipped, SkippedAttribute, Attribute, Value, BeginVendor, BeginTlv, End, Reading}
use Rattle.avp_dict.specs.Settled.{is_kept}
use Rattle.avp_dict.specs.Refusals.{◌>>=◌, at_word, refused_at}
use Rattle.avp_dict.specs.Words.{digits, is_hexadecimal, same_name}

-- ---- the name of a value

-- 0x, or 0X
abbrev pub begins_hexadecimal : List ℕ → Bool
begins_hexadecimal word =
    is_hexadecimal word || ((slice_index word 0 == 48) && (slice_index word 1 == 88))

abbrev pub reads_as_number : List ℕ → Bool
reads_as_number word =
    is_some (if begins_hexadecimal word then digits 16 (drop 2 word) else digits 10 word)

unfoldable pub is_value_name : List ℕ → Bool
is_value_name name =
    list_all is_value_name_octet name && nat_le (length name) max_name && not (reads_as_number name)

-- ---- a VALUE line

-- the greatest number of a type whose values have names
abbrev pub max_of : Kind → Option ℕ
max_of Byte = Some 255
max_of Short = Some 65535
max_of Integer = Some greatest_number
max_of Integer64 = Some greatest_value
max_of _ = None

abbrev pub max_of_typing : Typing → Option ℕ
max_of_typing typing = max_of typing.kind

-- the name of a number of an attribute with this greatest number, after these lines: none of them may give the name
-- another number; none where the line only gives a note
unfoldable pub value_up_to : List ValueLine → AttrId → List ℕ → ℕ → Option ℕ
    → Result (Option ValueLine) RefusedWord
value_up_to values id name number None = Ok None
value_up_to values id name number (Some most) =
    if not (is_value_name name) then Ok None
    else if not (nat_le number most) then Err (at_word 3 OutOfRange)
    else if list_any (names_other_value id name number) values then Err (at_word 2 OtherValue)
    else Ok (Some (record { id = id; name = name; number = number }))

abbrev pub is_same_name : List ℕ → List ℕ → Bool
is_same_name name other = same_name other name

-- a VALUE line of this attribute's name; without such an attribute a note if the name is that of a skipped ATTRIBUTE
-- line
unfoldable pub value_of : List (List ℕ) → Dictionary → List ℕ → List ℕ → ℕ → Option AttrId
    → Result (Option ValueLine) RefusedWord
value_of skipped dictionary attribute name number (Some id) =
    value_up_to dictionary.values id name number
    (option_and_then max_of_typing (typing_of_id id dictionary.attributes))
value_of skipped dictionary attribute name number None =
    if list_any (is_same_name attribute) skipped then Ok None else Err (at_word 1 NoAttribute)

-- ---- the names of numbers beside tags

-- the greatest number beside a tag, of three octets (RFC 2868, section 3.1)
abbrev pub max_tagged_number : ℕ
max_tagged_number = 16777215

abbrev pub is_tagged_integer : Form → Bool
is_tagged_integer TaggedInteger = true
is_tagged_integer _ = false

abbrev pub tagged_line : AttrId → List ℕ → ℕ → Option Typing → Option ValueLine
tagged_line id name number None = None
tagged_line id name number (Some typing) =
    if is_tagged_integer typing.form && is_value_name name && nat_le number max_tagged_number
    then Some (record { id = id; name = name; number = number }) else None

-- the name that a VALUE line gives to a number beside a tag: the line itself only gives a note
unfoldable pub tagged_value : Dictionary → List ℕ → ℕ → Option AttrId → Option ValueLine
tagged_value dictionary name number None = None
tagged_value dictionary name number (Some id) =
    tagged_line id name number (typing_of_id id dictionary.attributes)

-- ---- notes

-- a line other than a VALUE line that is skipped, or that begins or ends a skipped block
abbrev pub is_noted : List VendorLine → Meaning → Bool
is_noted vendors Skipped = true
is_noted vendors (SkippedAttribute name) = true
is_noted vendors (Attribute a) = not (is_kept vendors a.id)
is_noted vendors (BeginVendor name vendor) = is_none vendor
is_noted vendors (BeginTlv name) = true
is_noted vendors (End noted) = noted
is_noted vendors _ = false

abbrev pub note_of : Reading → Note
note_of r = record { file = r.file; line = r.line }

-- ---- the lines, one after the other

abbrev pub with_note : Dictionary → Reading → Dictionary
with_note dictionary r = record dictionary { notes = dictionary.notes ++ note_of r ∷ [] }

-- the name of a number that a line gives, or a note
abbrev pub with_value : Dictionary → Reading → Option ValueLine → Dictionary
with_value dictionary r None = with_note dictionary r
with_value dictionary r (Some v) = record dictionary { values = dictionary.values ++ v ∷ [] }

abbrev pub with_tagged : Dictionary → Option ValueLine → Dictionary
with_tagged dictionary None = dictionary
with_tagged dictionary (Some v) =
    record dictionary { tagged_values = dictionary.tagged_values ++ v ∷ [] }

-- the dictionary with what a line adds; skipped are the names on skipped ATTRIBUTE lines
unfoldable pub with_line : List (List ℕ) → Dictionary → Reading → Result Dictionary RefusedLine
with_line skipped dictionary r = elim r.meaning [
  | Value attribute name number ↦
      refused_at r.file r.line
      (value_of skipped dictionary attribute name number
      (id_named attribute dictionary.attributes))
      >>= λ value. Ok (with_tagged (with_value dictionary r value)
      (tagged_value dictionary name number (id_named attribute dictionary.attributes)))
  | m ↦ Ok (if is_noted dictionary.vendors m then with_note dictionary r else dictionary)
]

-- the dictionary with what the lines add, or the first refusal
unfoldable pub resolve : List (List ℕ) → Dictionary → List Reading → Result Dictionary RefusedLine
resolve skipped dictionary [] = Ok dictionary
resolve skipped dictionary (r ∷ rs) =
    with_line skipped dictionary r >>= λ more. resolve skipped more rs
