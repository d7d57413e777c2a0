-- The printed name and the printed text of a value.
use Rattle.std.specs.Prelude.{codes, decimal, ℕ, Bool, ◌||◌, if◌then◌else◌, List, [], ◌∷◌, ◌++◌, Option, Some, None}
use Rattle.std.specs.Option.{unwrap_or}
use Rattle.std.specs.Fmt.{signed_decimal}
use Rattle.std.specs.List.{join_by}
use Rattle.hex.specs.Hex.{encode_lower}
use Rattle.avp_lists.specs.declared.pairs.AttrId.{AttrId}
use Rattle.avp_lists.specs.declared.pairs.AttrId.TheVariants as ids
use Rattle.avp_lists.specs.declared.pairs.Value.{Value}
use Rattle.avp_lists.specs.declared.pairs.Value.TheVariants.{Int, Signed, Addr, Ether, Raw}
use Rattle.avp_lists.specs.declared.pairs.Value.TheVariants as values
use Rattle.avp_dict.specs.declared.entries.Kind.{Kind}
use Rattle.avp_dict.specs.declared.entries.Kind.TheVariants.{Date}
use Rattle.avp_dict.specs.Dictionary.{Dictionary, name_numbered}
use Rattle.avp_dict.specs.Names.{Described, described}
use Rattle.avp_dict.specs.Octets.{octets}
use Rattle.avp_dict.specs.Quotes.{quoted}
use Rattle.avp_dict.specs.Sent.{is_container, is_raw}

-- ---- texts

-- 0x and the octets in lower case
abbrev pub hexadecimal : List ℕ → List ℕ
hexadecimal os = codes "0x" ++ encode_lower os

-- decimal numbers, with dots between
abbrev pub address_text : List ℕ → List ℕ
address_text os = join_by decimal (codes ".") os

abbrev pub digit_pair_text : ℕ → List ℕ
digit_pair_text o = encode_lower (o ∷ [])

-- pairs of hexadecimal digits in lower case, with colons between
abbrev pub ether_text : List ℕ → List ℕ
ether_text os = join_by digit_pair_text (codes ":") os

-- the last name that a VALUE line gives to the number, else its decimal digits; a date has no names
abbrev pub number_text : Kind → AttrId → ℕ → Dictionary → List ℕ
number_text Date id n dictionary = decimal n
number_text kind id n dictionary = unwrap_or (name_numbered id n dictionary.values) (decimal n)

-- a value of a type
abbrev pub typed_text : Kind → AttrId → Value → Dictionary → List ℕ
typed_text kind id (values.Text os) dictionary = quoted os
typed_text kind id (values.Bytes os) dictionary = hexadecimal os
typed_text kind id (Int n) dictionary = number_text kind id n dictionary
typed_text kind id (Signed z) dictionary = signed_decimal z
typed_text kind id (Addr os) dictionary = address_text os
typed_text kind id (Ether os) dictionary = ether_text os
typed_text kind id (Raw os) dictionary = hexadecimal os

-- ---- by number

-- the name by number of an id
unfoldable pub attr_name : AttrId → List ℕ
attr_name (ids.Plain n) = codes "Attr-" ++ decimal n
attr_name (ids.Vendor vendor n) = codes "Attr-26." ++ decimal vendor ++ codes "." ++ decimal n
attr_name (ids.Extended t n) = codes "Attr-" ++ decimal t ++ codes "." ++ decimal n

-- whether a pair is printed by number: raw octets, and an attribute that only holds others
abbrev pub is_by_number : AttrId → Value → Bool
is_by_number id value = is_container id || is_raw value

abbrev pub text_by : AttrId → Value → Dictionary → Option Described → List ℕ
text_by id value dictionary None = hexadecimal (octets id value dictionary)
text_by id value dictionary (Some d) = typed_text d.kind id value dictionary

abbrev pub name_by : AttrId → Option Described → List ℕ
name_by id None = attr_name id
name_by id (Some d) = d.name

-- the text that is printed for a value of an id
unfoldable pub printed_text : AttrId → Value → Dictionary → List ℕ
printed_text id value dictionary =
    if is_by_number id value then hexadecimal (octets id value dictionary)
    else text_by id value dictionary (described id dictionary)

-- the name that is printed before it: that of the id's last ATTRIBUTE line, or one by number
unfoldable pub printed_name : AttrId → Value → Dictionary → List ℕ
printed_name id value dictionary =
    if is_by_number id value then attr_name id else name_by id (described id dictionary)
