-- Which ATTRIBUTE lines are used, by the vendors' last formats, known after the last line.
use Rattle.std.specs.Prelude.{ℕ, Bool, true, false, not, ◌&&◌, if◌then◌else◌, List, [], ◌∷◌, filter, Option, Some, None}
use Rattle.std.specs.List.{flat_map}
use Rattle.avp_lists.specs.declared.pairs.AttrId.{AttrId}
use Rattle.avp_lists.specs.declared.pairs.AttrId.TheVariants as ids
use Rattle.avp_dict.specs.declared.entries.AttributeLine.{AttributeLine}
use Rattle.avp_dict.specs.declared.entries.VendorFormat.{VendorFormat}
use Rattle.avp_dict.specs.declared.entries.VendorLine.{VendorLine}
use Rattle.avp_dict.specs.Dictionary.{format_of}
use Rattle.avp_dict.specs.Attributes.{is_held}
use Rattle.avp_dict.specs.Meanings.{SkippedAttribute, Attribute, Reading}

-- a format of two parts, whose octets hold the number
abbrev pub holds : ℕ → Option VendorFormat → Bool
holds n None = false
holds n (Some f) = not f.third && is_held n f

-- the last format of the vendor has two parts and holds the number
unfoldable pub is_in_format : ℕ → ℕ → List VendorLine → Bool
is_in_format vendor n vendors = holds n (format_of vendor vendors)

abbrev pub is_kept : List VendorLine → AttrId → Bool
is_kept vendors (ids.Vendor vendor n) = is_in_format vendor n vendors
is_kept vendors _ = true

abbrev pub is_kept_line : List VendorLine → AttributeLine → Bool
is_kept_line vendors a = is_kept vendors a.id

-- an ATTRIBUTE line that its vendor's last format does not hold is skipped too
unfoldable pub used : List VendorLine → List AttributeLine → List AttributeLine
used vendors attributes = filter (is_kept_line vendors) attributes

abbrev pub skipped_name : List VendorLine → Reading → List (List ℕ)
skipped_name vendors r = elim r.meaning [
  | SkippedAttribute name ↦ name ∷ []
  | Attribute a ↦ (if is_kept vendors a.id then [] else a.name ∷ [])
  | _ ↦ []
]

-- the names on the skipped ATTRIBUTE lines
unfoldable pub skipped_names : List VendorLine → List Reading → List (List ℕ)
skipped_names vendors lines = flat_map (skipped_name vendors) lines
