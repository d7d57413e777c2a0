-- What names and ids mean in a dictionary.
use Rattle.std.specs.Prelude.{ℕ, Bool, true, false, ◌&&◌, ◌==◌, nat_le, if◌then◌else◌, List, [], ◌∷◌, drop, Option, Some, None}
use Rattle.std.specs.Option.{option_and_then, option_map}
use Rattle.std.specs.List.{list_any, slice_split}
use Rattle.avp_lists.specs.declared.pairs.AttrId.{AttrId}
use Rattle.avp_lists.specs.declared.pairs.AttrId.TheVariants as ids
use Rattle.avp_dict.specs.declared.entries.AttributeLine.{AttributeLine}
use Rattle.avp_dict.specs.declared.entries.Kind.{Kind}
use Rattle.avp_dict.specs.declared.forms.Form.{Form}
use Rattle.avp_dict.specs.declared.entries.Format.{Format}
use Rattle.avp_dict.specs.declared.entries.VendorFormat.{VendorFormat}
use Rattle.avp_dict.specs.declared.entries.VendorLine.{VendorLine}
use Rattle.avp_dict.specs.declared.entries.Named.{Named}
use Rattle.avp_dict.specs.Words.{digits}
use Rattle.avp_dict.specs.Letters.{is_dot, begins_as_attr}
use Rattle.avp_dict.specs.Dictionary.{Dictionary, last_where, is_attribute_of, is_secret_line_of, id_named, format_of}
use Rattle.avp_dict.specs.AttributeNumbers.{greatest_number, max_plain, vendor_specific}
use Rattle.avp_dict.specs.Attributes.{is_extended_id}
use Rattle.avp_dict.specs.Settled.{is_in_format}

-- ---- by name

-- Attr-N
abbrev pub plain_numbered : Option ℕ → Option AttrId
plain_numbered (Some n) = if nat_le n max_plain then Some (ids.Plain n) else None
plain_numbered None = None

-- Attr-T.N
abbrev pub extended_numbered : Option ℕ → Option ℕ → Option AttrId
extended_numbered (Some t) (Some n) = if is_extended_id 0 t n then Some (ids.Extended t n) else None
extended_numbered _ _ = None

-- Attr-26.V.N, where the vendor's format has two parts and holds N
abbrev pub vendor_id_numbered : List VendorLine → Option ℕ → Option ℕ → Option AttrId
vendor_id_numbered vendors (Some v) (Some n) =
    if nat_le v greatest_number && is_in_format v n vendors then Some (ids.Vendor v n) else None
vendor_id_numbered vendors _ _ = None

abbrev pub is_vendor_specific : Option ℕ → Bool
is_vendor_specific (Some t) = t == vendor_specific
is_vendor_specific None = false

-- the id of the parts between the dots, in decimal digits
abbrev pub id_numbered : List VendorLine → List (List ℕ) → Option AttrId
id_numbered vendors (n ∷ []) = plain_numbered (digits 10 n)
id_numbered vendors (t ∷ n ∷ []) = extended_numbered (digits 10 t) (digits 10 n)
id_numbered vendors (t ∷ v ∷ n ∷ []) =
    if is_vendor_specific (digits 10 t) then vendor_id_numbered vendors (digits 10 v) (digits 10 n)
    else None
id_numbered vendors _ = None

abbrev pub named_by : Bool → AttrId → Named
named_by raw id = record { id = id; raw = raw }

-- the id of a name: by the numbers after Attr-, or by the ATTRIBUTE lines with it
unfoldable pub named : List ℕ → Dictionary → Option Named
named name dictionary = if begins_as_attr name
    then option_map (named_by true)
    (id_numbered dictionary.vendors (slice_split is_dot (drop 5 name)))
    else option_map (named_by false) (id_named name dictionary.attributes)

-- ---- by id

-- the printed name, the type and the flag of an id
pub record Described : Type 0 where
  pub name : List ℕ
  pub kind : Kind
  pub hidden : Bool

abbrev pub described_by : AttributeLine → Described
described_by a = record { name = a.name; kind = a.typing.kind; hidden = a.typing.hidden }

-- by the last used ATTRIBUTE line with the id
unfoldable pub described : AttrId → Dictionary → Option Described
described id dictionary =
    option_map described_by (last_where (is_attribute_of id) dictionary.attributes)

abbrev pub form_of_line : AttributeLine → Form
form_of_line a = a.typing.form

-- what the values of an id stand for: as its last used ATTRIBUTE line says
unfoldable pub form_of : AttrId → Dictionary → Option Form
form_of id dictionary =
    option_map form_of_line (last_where (is_attribute_of id) dictionary.attributes)

-- some used ATTRIBUTE line with the id marks the values as secret
unfoldable pub is_marked_secret : AttrId → Dictionary → Bool
is_marked_secret id dictionary = list_any (is_secret_line_of id) dictionary.attributes

-- ---- vendors

abbrev pub unless_three : VendorFormat → Option Format
unless_three f = if f.third then None else Some (record { t = f.t; l = f.l })

-- the format of a vendor, where it has two parts
unfoldable pub vendor_format : ℕ → Dictionary → Option Format
vendor_format number dictionary = option_and_then unless_three (format_of number dictionary.vendors)
