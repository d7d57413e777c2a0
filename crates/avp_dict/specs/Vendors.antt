-- VENDOR lines: a name, a number, and how many octets the vendor's attributes have for type and length.
use Rattle.std.specs.Prelude.{codes, ℕ, Bool, true, false, not, ◌&&◌, ◌||◌, ◌==◌, nat_lt, nat_le, if◌then◌else◌, List, [], ◌∷◌, length, take, drop, Option, Some, None, Result, Ok, Err}
use Rattle.std.specs.List.{list_all, list_any, slice_split}
use Rattle.avp_dict.specs.declared.faults.DictKind.{DictKind}
use Rattle.avp_dict.specs.declared.faults.DictKind.TheVariants.{Unreadable, OutOfRange, OtherNumber}
use Rattle.avp_dict.specs.declared.faults.RefusedWord.{RefusedWord}
use Rattle.avp_dict.specs.declared.entries.VendorFormat.{VendorFormat}
use Rattle.avp_dict.specs.declared.entries.VendorLine.{VendorLine}
use Rattle.avp_dict.specs.AttributeNumbers.{greatest_number}
use Rattle.avp_dict.specs.Meanings.{Meaning, Vendor}
use Rattle.avp_dict.specs.Words.{is_number, same_name, number_of}
use Rattle.avp_dict.specs.Letters.{is_comma, is_visible, max_name}
use Rattle.avp_dict.specs.Refusals.{◌>>=◌, at_word, miscounted, word_read}
use Rattle.avp_dict.specs.Dictionary.{names_other_vendor}

abbrev pub at_most : ℕ → ℕ → Result ℕ DictKind
at_most most n = if nat_le n most then Ok n else Err OutOfRange

-- a number of a line, within its bound
abbrev pub bounded : ℕ → List ℕ → Result ℕ DictKind
bounded most word = elim (number_of word) [ None ↦ Err Unreadable | Some n ↦ at_most most n ]

unfoldable pub is_vendor_name : List ℕ → Bool
is_vendor_name name = list_all is_visible name && nat_le (length name) max_name

-- 1, 2 or 4 octets of type, and at most 2 of length
abbrev pub is_format : ℕ → ℕ → Bool
is_format t l = ((t == 1) || (t == 2) || (t == 4)) && nat_le l 2

abbrev pub two_parts : Bool → Option ℕ → Option ℕ → Option VendorFormat
two_parts third (Some t) (Some l) =
    if is_format t l then Some (record { t = t; l = l; third = third }) else None
two_parts third _ _ = None

abbrev pub format_parts : List (List ℕ) → Option VendorFormat
format_parts (t ∷ l ∷ []) = two_parts false (number_of t) (number_of l)
format_parts (t ∷ l ∷ c ∷ []) = two_parts true (number_of t) (number_of l)
format_parts _ = None

-- format=t,l or format=t,l,c
unfoldable pub format_word : List ℕ → Option VendorFormat
format_word word =
    if nat_lt (length word) 7 then None
    else if same_name (take 7 word) (codes "format=")
    then format_parts (slice_split is_comma (drop 7 word))
    else None

abbrev pub standard_format : VendorFormat
standard_format = record { t = 1; l = 1; third = false }

-- a name and a number that are good, and the format, after these lines: none of them may give the name another number
unfoldable pub vendor_numbered : List VendorLine → List ℕ → VendorFormat → ℕ
    → Result Meaning RefusedWord
vendor_numbered vendors name f n =
    if list_any (names_other_vendor name n) vendors then Err (at_word 1 OtherNumber)
    else Ok (Vendor (record { name = name; number = n; format = f }))

-- a name that is good, and a number
unfoldable pub vendor_formatted : List VendorLine → List ℕ → List ℕ → Option VendorFormat
    → Result Meaning RefusedWord
vendor_formatted vendors name number None = Err (at_word 3 Unreadable)
vendor_formatted vendors name number (Some f) =
    word_read 2 (bounded greatest_number number) >>= vendor_numbered vendors name f

unfoldable pub vendor_line : List VendorLine → List ℕ → List ℕ → Option VendorFormat
    → Result Meaning RefusedWord
vendor_line vendors name number format =
    if not (is_vendor_name name) then Err (at_word 1 Unreadable)
    else if not (is_number number) then Err (at_word 2 Unreadable)
    else vendor_formatted vendors name number format

unfoldable pub vendor : List VendorLine → List (List ℕ) → Result Meaning RefusedWord
vendor vendors (name ∷ number ∷ []) = vendor_line vendors name number (Some standard_format)
vendor vendors (name ∷ number ∷ format ∷ []) = vendor_line vendors name number (format_word format)
vendor vendors words = Err (miscounted 3 words)
