-- How many octets a value may have, and which pairs fit a dictionary.
use Rattle.std.specs.Prelude.{ℕ, ◌-◌, min, Bool, true, false, not, ◌&&◌, nat_le, if◌then◌else◌, length, Option, Some}
use Rattle.std.specs.Option.{option_map_or}
use Rattle.avp_lists.specs.declared.pairs.AttrId.{AttrId}
use Rattle.avp_lists.specs.declared.pairs.AttrId.TheVariants as ids
use Rattle.avp_lists.specs.declared.pairs.Value.{Value}
use Rattle.avp_lists.specs.declared.pairs.Value.TheVariants.{Int, Signed, Addr, Ether, Raw}
use Rattle.avp_lists.specs.declared.pairs.Value.TheVariants as values
use Rattle.avp_lists.specs.declared.pairs.Pair.{Pair}
use Rattle.avp_dict.specs.declared.entries.Format.{Format}
use Rattle.avp_dict.specs.declared.entries.Kind.{Kind}
use Rattle.avp_dict.specs.declared.entries.Kind.TheVariants as kinds
use Rattle.avp_dict.specs.AttributeNumbers.{greatest_number, is_extended_type, max_plain}
use Rattle.avp_dict.specs.Dictionary.{Dictionary}
use Rattle.avp_dict.specs.Names.{vendor_format}
use Rattle.avp_dict.specs.Octets.{kind_of, is_hidden, max_hidden_octets, octets, ends_in_nul}
use Rattle.avp_dict.specs.Settled.{is_in_format}
use Rattle.avp_dict.specs.Values.{max_of}

-- ---- lengths

-- the most octets of one value: in 16 fragments they fill a packet (RFC 6929, section 2.2)
abbrev pub max_long_octets : ℕ
max_long_octets = 4012

-- what one attribute of 255 octets holds: less a Vendor-Id and the vendor's own type and length (RFC 2865, section
-- 5.26)
abbrev pub vendor_room : Format → ℕ
vendor_room f = 249 - f.t - f.l

-- types 241 to 244 hold one attribute, and 245 and 246 what a packet holds in fragments (RFC 6929, sections 2.1 and
-- 2.2)
abbrev pub extended_room : ℕ → ℕ
extended_room t =
    if nat_le 241 t && nat_le t 244 then 252
    else if nat_le 245 t && nat_le t 246 then max_long_octets else 0

-- the most octets of an id's attribute; 0 where the vendor has no format of two parts
unfoldable pub max_octets : AttrId → Dictionary → ℕ
max_octets (ids.Plain n) dictionary = if nat_le n max_plain then 253 else max_long_octets
max_octets (ids.Vendor vendor n) dictionary =
    option_map_or vendor_room (vendor_format vendor dictionary) 0
max_octets (ids.Extended t n) dictionary = extended_room t

-- the most octets of a value of the id's type
unfoldable pub greatest_length : AttrId → Dictionary → ℕ
greatest_length id dictionary =
    if is_hidden id dictionary then min max_hidden_octets (max_octets id dictionary)
    else max_octets id dictionary

-- ---- fitting pairs

-- an id of a plain attribute, of an extended type, or of a vendor whose format has two parts and holds the number
unfoldable pub is_known : AttrId → Dictionary → Bool
is_known (ids.Plain n) dictionary = true
is_known (ids.Vendor vendor n) dictionary = is_in_format vendor n dictionary.vendors
is_known (ids.Extended t n) dictionary = is_extended_type t

-- the greatest number of a type
abbrev pub max_number : Kind → Option ℕ
max_number kinds.Date = Some greatest_number
max_number kind = max_of kind

-- a value of the type
abbrev pub is_of_kind : Value → Kind → Bool
is_of_kind (values.Text os) kinds.Text = true
is_of_kind (values.Bytes os) kinds.Bytes = true
is_of_kind (Addr os) kinds.Addr = true
is_of_kind (Ether os) kinds.Ether = true
is_of_kind (Signed z) kinds.Signed = true
is_of_kind (Int n) kind = option_map_or (nat_le n) (max_number kind) false
is_of_kind _ _ = false

-- a value of the id's type, or raw octets
abbrev pub is_typed : AttrId → Value → Dictionary → Bool
is_typed id (Raw os) dictionary = true
is_typed id value dictionary = option_map_or (is_of_kind value) (kind_of id dictionary) false

-- a length that the id's type allows; hidden octets do not end in NUL
abbrev pub is_value_within : AttrId → Value → Dictionary → Bool
is_value_within id value dictionary =
    nat_le (length (octets id value dictionary)) (greatest_length id dictionary)
    && not (is_hidden id dictionary && ends_in_nul (octets id value dictionary))

-- raw octets have the length that the id's attribute holds
abbrev pub is_within : AttrId → Value → Dictionary → Bool
is_within id (Raw os) dictionary = nat_le (length os) (max_octets id dictionary)
is_within id value dictionary = is_value_within id value dictionary

unfoldable pub fits : Pair → Dictionary → Bool
fits pair dictionary =
    is_known pair.id dictionary && is_typed pair.id pair.value dictionary
    && is_within pair.id pair.value dictionary
