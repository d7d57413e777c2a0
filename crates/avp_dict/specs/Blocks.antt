-- The blocks that are open, and the lines that begin and end blocks.
use Rattle.std.specs.Prelude.{ℕ, ◌-◌, Bool, true, false, if◌then◌else◌, List, [], ◌∷◌, length, slice_get, Option, Some, None, is_none, Result, Ok, Err}
use Rattle.std.specs.Option.{option_and_then, option_map_or}
use Rattle.std.specs.List.{list_any}
use Rattle.avp_dict.specs.declared.entries.VendorFormat.{VendorFormat}
use Rattle.avp_dict.specs.declared.entries.VendorLine.{VendorLine}
use Rattle.avp_dict.specs.declared.faults.RefusedWord.{RefusedWord}
use Rattle.avp_dict.specs.declared.faults.DictKind.TheVariants.{UnknownVendor, Unmatched}
use Rattle.avp_dict.specs.Dictionary.{vendor_named, format_of}
use Rattle.avp_dict.specs.Meanings.{Meaning, BeginVendor, BeginTlv, End, Reading}
use Rattle.avp_dict.specs.Refusals.{at_word, miscounted}
use Rattle.avp_dict.specs.Words.{same_name}

abbrev pub innermost : List Reading → Option Reading
innermost opened = slice_get opened (length opened - 1)

-- the line opens a skipped block: of a vendor whose attributes are not read, or of TLVs
abbrev pub opens_skipped : Reading → Bool
opens_skipped r = elim r.meaning [ BeginVendor n v ↦ is_none v | BeginTlv n ↦ true | _ ↦ false ]

unfoldable pub is_skipping : List Reading → Bool
is_skipping opened = list_any opens_skipped opened

abbrev pub opened_vendor : Reading → Option ℕ
opened_vendor r = elim r.meaning [ BeginVendor n v ↦ v | _ ↦ None ]

-- the vendor of the innermost open block
unfoldable pub block_vendor : List Reading → Option ℕ
block_vendor opened = option_and_then opened_vendor (innermost opened)

-- ---- END lines

abbrev pub opens_vendor_named : List ℕ → Reading → Bool
opens_vendor_named name r = elim r.meaning [ BeginVendor n v ↦ same_name n name | _ ↦ false ]

abbrev pub opens_tlv_named : List ℕ → Reading → Bool
opens_tlv_named name r = elim r.meaning [ BeginTlv n ↦ same_name n name | _ ↦ false ]

-- the end of the last open block, where the test says that it is the right one; in a skipped block it gives a note
abbrev pub ended : Bool → List Reading → Result Meaning RefusedWord
ended fits opened = if fits then Ok (End (is_skipping opened)) else Err (at_word 1 Unmatched)

unfoldable pub end_vendor : List Reading → List (List ℕ) → Result Meaning RefusedWord
end_vendor opened (name ∷ []) =
    ended (option_map_or (opens_vendor_named name) (innermost opened) false) opened
end_vendor opened words = Err (miscounted 1 words)

unfoldable pub end_tlv : List Reading → List (List ℕ) → Result Meaning RefusedWord
end_tlv opened (name ∷ []) =
    ended (option_map_or (opens_tlv_named name) (innermost opened) false) opened
end_tlv opened words = Err (miscounted 1 words)

-- ---- BEGIN lines

unfoldable pub begin_tlv : List (List ℕ) → Result Meaning RefusedWord
begin_tlv (name ∷ []) = Ok (BeginTlv name)
begin_tlv words = Err (miscounted 1 words)

-- the vendor where its format has two parts, and none where the block is skipped
abbrev pub unless_third : ℕ → Option VendorFormat → Option ℕ
unless_third vendor None = Some vendor
unless_third vendor (Some f) = if f.third then None else Some vendor

-- a block with a name alone, outside skipped blocks
unfoldable pub begin_known : List VendorLine → List ℕ → Result Meaning RefusedWord
begin_known vendors name = elim (vendor_named name vendors) [
  | None ↦ Err (at_word 1 UnknownVendor)
  | Some vendor ↦ Ok (BeginVendor name (unless_third vendor (format_of vendor vendors)))
]

unfoldable pub begin_vendor : List VendorLine → List Reading → List (List ℕ)
    → Result Meaning RefusedWord
begin_vendor vendors opened (name ∷ []) =
    if is_skipping opened then Ok (BeginVendor name None) else begin_known vendors name
begin_vendor vendors opened (name ∷ word ∷ []) = Ok (BeginVendor name None)
begin_vendor vendors opened words = Err (miscounted 2 words)
