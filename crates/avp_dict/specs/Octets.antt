-- Which octets a value has, and which value octets stand for.
use Rattle.std.specs.Prelude.{ℕ, ◌-◌, Bool, false, true, not, ◌&&◌, ◌==◌, nat_le, if◌then◌else◌, List, length, slice_get, Option, Some, None}
use Rattle.std.specs.Option.{option_and_then, option_map, option_map_or, unwrap_or}
use Rattle.std.specs.Int.{to_be_bytes, cast_signed, cast_unsigned, w8, w16, w32, w64}
use Rattle.std.specs.Int.Digits.{number_from_digits}
use Rattle.avp_lists.specs.declared.pairs.AttrId.{AttrId}
use Rattle.avp_lists.specs.declared.pairs.Value.{Value}
use Rattle.avp_lists.specs.declared.pairs.Value.TheVariants.{Int, Signed, Addr, Ether, Raw}
use Rattle.avp_lists.specs.declared.pairs.Value.TheVariants as values
use Rattle.avp_dict.specs.declared.entries.Kind.{Kind}
use Rattle.avp_dict.specs.declared.entries.Kind.TheVariants as kinds
use Rattle.avp_dict.specs.Dictionary.{Dictionary}
use Rattle.avp_dict.specs.Names.{Described, described}

abbrev pub kind_described : Described → Kind
kind_described d = d.kind

abbrev pub hidden_described : Described → Bool
hidden_described d = d.hidden

-- the type of an id's values, if a line gives one
abbrev pub kind_of : AttrId → Dictionary → Option Kind
kind_of id dictionary = option_map kind_described (described id dictionary)

-- whether an id's values are hidden (RFC 2865, section 5.2)
abbrev pub is_hidden : AttrId → Dictionary → Bool
is_hidden id dictionary = option_map_or hidden_described (described id dictionary) false

-- ---- the octets of a value

-- a number's octets, in network order
abbrev pub number_octets : Option Kind → ℕ → List ℕ
number_octets (Some kinds.Byte) n = to_be_bytes w8 n
number_octets (Some kinds.Short) n = to_be_bytes w16 n
number_octets (Some kinds.Integer64) n = to_be_bytes w64 n
number_octets _ n = to_be_bytes w32 n

-- a value's octets, by the type of its id: a signed number's are those of its two's complement
abbrev pub octets_of : Option Kind → Value → List ℕ
octets_of kind (values.Text os) = os
octets_of kind (values.Bytes os) = os
octets_of kind (Int n) = number_octets kind n
octets_of kind (Signed z) = to_be_bytes w32 (cast_unsigned w32 z)
octets_of kind (Addr os) = os
octets_of kind (Ether os) = os
octets_of kind (Raw os) = os

unfoldable pub octets : AttrId → Value → Dictionary → List ℕ
octets id value dictionary = octets_of (kind_of id dictionary) value

-- a value whose octets are kept in memory of their own: those of strings, of octets, and raw ones
abbrev pub keeps_octets : Value → Bool
keeps_octets (values.Text os) = true
keeps_octets (values.Bytes os) = true
keeps_octets (Raw os) = true
keeps_octets value = false

-- ---- the value of octets

-- the number whose digits in base 256 are the octets
abbrev pub number_value : List ℕ → Value
number_value os = Int (number_from_digits 256 os)

abbrev pub signed_value : List ℕ → Value
signed_value os = Signed (cast_signed w32 (number_from_digits 256 os))

-- so many octets, and no other number of them
abbrev pub of_length : ℕ → (List ℕ → Value) → List ℕ → Option Value
of_length n value os = if length os == n then Some (value os) else None

-- the value of a type with these octets
abbrev pub value_read : Kind → List ℕ → Option Value
value_read kinds.Text os = Some (values.Text os)
value_read kinds.Bytes os = Some (values.Bytes os)
value_read kinds.Addr os = of_length 4 Addr os
value_read kinds.Ether os = of_length 6 Ether os
value_read kinds.Byte os = of_length 1 number_value os
value_read kinds.Short os = of_length 2 number_value os
value_read kinds.Integer os = of_length 4 number_value os
value_read kinds.Date os = of_length 4 number_value os
value_read kinds.Integer64 os = of_length 8 number_value os
value_read kinds.Signed os = of_length 4 signed_value os

abbrev pub is_nul : ℕ → Bool
is_nul o = o == 0

abbrev pub ends_in_nul : List ℕ → Bool
ends_in_nul os = option_map_or is_nul (slice_get os (length os - 1)) false

-- the most octets of a hidden value (RFC 2865, section 5.2)
abbrev pub max_hidden_octets : ℕ
max_hidden_octets = 128

-- octets that can be hidden and shown again (RFC 2865, section 5.2)
abbrev pub is_hideable : List ℕ → Bool
is_hideable os = nat_le (length os) max_hidden_octets && not (ends_in_nul os)

abbrev pub read_by : List ℕ → Described → Option Value
read_by os d = if d.hidden && not (is_hideable os) then None else value_read d.kind os

-- the value of an id's type with these octets
unfoldable pub read_value : AttrId → List ℕ → Dictionary → Option Value
read_value id os dictionary = option_and_then (read_by os) (described id dictionary)

-- the value of an id's type, and the octets as they are where the type does not read them
unfoldable pub value_of_octets : AttrId → List ℕ → Dictionary → Value
value_of_octets id os dictionary = unwrap_or (read_value id os dictionary) (Raw os)
