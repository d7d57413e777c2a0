-- ATTRIBUTE lines: a name, a number, a type and flags.
use Rattle.std.specs.Prelude.{ℕ, Bool, not, ◌&&◌, ◌==◌, nat_le, if◌then◌else◌, List, [], ◌∷◌, length, Option, Some, None, is_none, Result, Ok, Err}
use Rattle.std.specs.List.{list_all, list_any, slice_split}
use Rattle.avp_lists.specs.declared.pairs.AttrId.{AttrId}
use Rattle.avp_lists.specs.declared.pairs.AttrId.TheVariants as ids
use Rattle.avp_dict.specs.declared.faults.DictKind.{DictKind}
use Rattle.avp_dict.specs.declared.faults.RefusedWord.{RefusedWord}
use Rattle.avp_dict.specs.declared.faults.DictKind.TheVariants.{Unreadable, OutOfRange, OtherNumber}
use Rattle.avp_dict.specs.declared.entries.AttributeLine.{AttributeLine}
use Rattle.avp_dict.specs.declared.entries.VendorFormat.{VendorFormat}
use Rattle.avp_dict.specs.declared.entries.VendorLine.{VendorLine}
use Rattle.avp_dict.specs.Meanings.{Meaning, Attribute, SkippedAttribute, Context}
use Rattle.avp_dict.specs.Words.{is_number, number_of}
use Rattle.avp_dict.specs.AttributeNumbers.{greatest_number, is_extended_type}
use Rattle.avp_dict.specs.Letters.{is_dot, is_comma, is_name_octet, begins_as_attr, max_name}
use Rattle.avp_dict.specs.Refusals.{◌>>=◌, at_word, miscounted, word_read}
use Rattle.avp_dict.specs.Dictionary.{format_of, names_other_id}
use Rattle.avp_dict.specs.Types.{are_flags, typing_of}

-- ---- the id of a number

-- an extended attribute: its type, and a number of its own, from 1 on an ATTRIBUTE line and from 0 in a name by number
abbrev pub is_extended_id : ℕ → ℕ → ℕ → Bool
is_extended_id least t x = is_extended_type t && nat_le least x && nat_le x 255

-- the greatest number that 1, 2 or 4 octets hold
abbrev pub max_in : ℕ → ℕ
max_in t = if t == 1 then 255 else if t == 2 then 65535 else greatest_number

abbrev pub is_held : ℕ → VendorFormat → Bool
is_held n f = nat_le n (max_in f.t)

-- the id of a number in a block of this vendor, where the vendor's octets hold it
abbrev pub vendor_id : ℕ → ℕ → Option VendorFormat → Option AttrId
vendor_id vendor n None = None
vendor_id vendor n (Some f) = if is_held n f then Some (ids.Vendor vendor n) else None

unfoldable pub number_id : List VendorLine → Option ℕ → ℕ → Option AttrId
number_id vendors None n = Some (ids.Plain n)
number_id vendors (Some vendor) n = vendor_id vendor n (format_of vendor vendors)

-- the id of a number; none where the line is skipped
unfoldable pub id_of_number : List VendorLine → Option ℕ → Option ℕ
    → Result (Option AttrId) DictKind
id_of_number vendors block None = Err Unreadable
id_of_number vendors block (Some n) =
    if nat_le n greatest_number then Ok (number_id vendors block n) else Err OutOfRange

-- the id of two numbers with a dot between, outside a vendor block
abbrev pub id_of_dotted : Option ℕ → Option ℕ → Option ℕ → Result (Option AttrId) DictKind
id_of_dotted block (Some t) (Some x) =
    Ok (if is_none block && is_extended_id 1 t x then Some (ids.Extended t x) else None)
id_of_dotted block _ _ = Err Unreadable

-- other dotted numbers skip the line
abbrev pub id_of_more : List (List ℕ) → Result (Option AttrId) DictKind
id_of_more parts = if list_all is_number parts then Ok None else Err Unreadable

-- the id of the parts between the dots
unfoldable pub id_of_parts : List VendorLine → Option ℕ → List (List ℕ)
    → Result (Option AttrId) DictKind
id_of_parts vendors block (n ∷ []) = id_of_number vendors block (number_of n)
id_of_parts vendors block (t ∷ x ∷ []) = id_of_dotted block (number_of t) (number_of x)
id_of_parts vendors block parts = id_of_more parts

-- ---- the line

unfoldable pub is_attribute_name : List ℕ → Bool
is_attribute_name name =
    list_all is_name_octet name && nat_le (length name) max_name && not (begins_as_attr name)

-- a line whose number is read, after these lines: none of them may give its name another id
unfoldable pub attribute_of : List AttributeLine → List ℕ → List ℕ → List (List ℕ) → Option AttrId
    → Result Meaning RefusedWord
attribute_of attributes name kind flags None = Ok (SkippedAttribute name)
attribute_of attributes name kind flags (Some id) = if is_attribute_name name && are_flags flags
    then (if list_any (names_other_id name id) attributes then Err (at_word 1 OtherNumber)
    else Ok (Attribute (record { name = name; id = id; typing = typing_of id kind flags })))
    else Ok (SkippedAttribute name)

unfoldable pub attribute_line : Context → Option ℕ → List ℕ → List ℕ → List ℕ → List (List ℕ)
    → Result Meaning RefusedWord
attribute_line before block name number kind flags =
    word_read 2 (id_of_parts before.vendors block (slice_split is_dot number))
    >>= attribute_of before.attributes name kind flags

unfoldable pub attribute : Context → Option ℕ → List (List ℕ) → Result Meaning RefusedWord
attribute before block (name ∷ number ∷ kind ∷ []) = attribute_line before block name number kind []
attribute before block (name ∷ number ∷ kind ∷ flags ∷ []) =
    attribute_line before block name number kind (slice_split is_comma flags)
attribute before block words = Err (miscounted 4 words)
