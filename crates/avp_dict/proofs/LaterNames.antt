-- A line is read without the names of the attributes before it, and then refused if it gives one of them another id.
use Rattle.std.proofs.Common.{◌≡◌, ◌∙◌, ℕ, Bool, true, false, cond, codes, nat_lt, not, ◌&&◌, List, [], ◌∷◌, length, Option, Some, None, Result, Ok, Err, refl, sym, ap}
use Rattle.std.specs.List.{list_any, slice_split}
use Rattle.avp_lists.specs.Meets.{Unless}
use Rattle.avp_lists.specs.declared.pairs.AttrId.{AttrId}
use Rattle.avp_dict.specs.declared.entries.VendorFormat.{VendorFormat}
use Rattle.avp_dict.specs.declared.faults.RefusedWord.{RefusedWord}
use Rattle.avp_dict.specs.declared.faults.DictKind.TheVariants.{UnknownVendor}
use Rattle.avp_dict.specs.declared.file.files.NamedFile.{NamedFile}
use Rattle.avp_dict.specs.AttributeNumbers.{greatest_number, greatest_value}
use Rattle.avp_dict.specs.Attributes.{attribute, attribute_line, attribute_of, id_of_parts, is_attribute_name}
use Rattle.avp_dict.specs.Blocks.{begin_known, begin_tlv, begin_vendor, block_vendor, end_tlv, end_vendor, ended, is_skipping, unless_third}
use Rattle.avp_dict.specs.Dictionary.{format_of, names_other_vendor, vendor_named}
use Rattle.avp_dict.specs.Letters.{is_comma, is_dot}
use Rattle.avp_dict.specs.Lines.{Line, file_included, is_include}
use Rattle.avp_dict.specs.Meanings.{BeginVendor, Context, Meaning, Reading, Skipped, SkippedAttribute}
use Rattle.avp_dict.specs.Readings.{include, plain_line, read_head, read_line, read_words, skipped_line, value, within}
use Rattle.avp_dict.specs.Refusals.{at_word, word_read, ◌>>=◌}
use Rattle.avp_dict.specs.Types.{are_flags}
use Rattle.avp_dict.specs.Vendors.{bounded, format_word, is_vendor_name, standard_format, vendor, vendor_formatted, vendor_line, vendor_numbered}
use Rattle.avp_dict.specs.Words.{is_number, same_name, words_of}
use Rattle.avp_dict.specs.internal.Agreeing.{agreeing_meaning, without_names}

module _ (before : Context) where
  abbrev bare : Context
  bare = without_names before

  abbrev then_agreeing : Result Meaning RefusedWord → Result Meaning RefusedWord
  then_agreeing read = read >>= agreeing_meaning before.attributes

  -- what is no attribute is not refused for its name
  abbrev IsKept : Result Meaning RefusedWord → Type 0
  IsKept read = then_agreeing read ≡ read

  either : (b : Bool) (x y x' y' : Result Meaning RefusedWord) → then_agreeing x ≡ x' → then_agreeing y ≡ y' → then_agreeing (cond b x y) ≡ cond b x' y'
  either true x y x' y' h h' = h
  either false x y x' y' h h' = h'

  through : {A : Type 0} (r : Result A RefusedWord) (f g : A → Result Meaning RefusedWord) → ((x : A) → then_agreeing (f x) ≡ g x) → then_agreeing (r >>= f) ≡ r >>= g
  through (Ok x) f g h = h x
  through (Err e) f g h = refl

  -- ---- lines that are no ATTRIBUTE lines

  include_kept : (found : Option ℕ) (depth : ℕ) (head : List ℕ) (rest : List (List ℕ)) → IsKept (include found depth head rest)
  unfolding include
  include_kept None depth head (path ∷ []) = either (same_name head (codes "$include")) _ _ _ _ refl refl
  include_kept (Some place) depth head (path ∷ []) = either (nat_lt depth 8) _ _ _ _ refl refl
  include_kept found depth head _ = refl

  ended_kept : (fits : Bool) (opened : List Reading) → IsKept (ended fits opened)
  ended_kept true opened = refl
  ended_kept false opened = refl

  end_vendor_kept : (opened : List Reading) (rest : List (List ℕ)) → IsKept (end_vendor opened rest)
  unfolding end_vendor
  end_vendor_kept opened (name ∷ []) = ended_kept _ opened
  end_vendor_kept opened _ = refl

  end_tlv_kept : (opened : List Reading) (rest : List (List ℕ)) → IsKept (end_tlv opened rest)
  unfolding end_tlv
  end_tlv_kept opened (name ∷ []) = ended_kept _ opened
  end_tlv_kept opened _ = refl

  begin_tlv_kept : (rest : List (List ℕ)) → IsKept (begin_tlv rest)
  unfolding begin_tlv
  begin_tlv_kept (name ∷ []) = refl
  begin_tlv_kept _ = refl

  begin_known_by : (name : List ℕ) (found : Option ℕ) → IsKept (elim found [ None ↦ Err (at_word 1 UnknownVendor) | Some vendor ↦ Ok (BeginVendor name (unless_third vendor (format_of vendor before.vendors))) ])
  begin_known_by name None = refl
  begin_known_by name (Some vendor) = refl

  begin_known_kept : (name : List ℕ) → IsKept (begin_known before.vendors name)
  unfolding begin_known
  begin_known_kept name = begin_known_by name (vendor_named name before.vendors)

  begin_vendor_kept : (opened : List Reading) (rest : List (List ℕ)) → IsKept (begin_vendor before.vendors opened rest)
  unfolding begin_vendor
  begin_vendor_kept opened (name ∷ []) = either (is_skipping opened) _ _ _ _ refl (begin_known_kept name)
  begin_vendor_kept opened (name ∷ word ∷ []) = refl
  begin_vendor_kept opened _ = refl

  value_kept : (rest : List (List ℕ)) → IsKept (value rest)
  unfolding value
  value_kept (attribute ∷ name ∷ number ∷ []) = through (word_read 3 (bounded greatest_value number)) _ _ (λ n. refl)
  value_kept _ = refl

  vendor_numbered_kept : (name : List ℕ) (f : VendorFormat) (n : ℕ) → IsKept (vendor_numbered before.vendors name f n)
  unfolding vendor_numbered
  vendor_numbered_kept name f n = either (list_any (names_other_vendor name n) before.vendors) _ _ _ _ refl refl

  vendor_formatted_kept : (name number : List ℕ) (f : Option VendorFormat) → IsKept (vendor_formatted before.vendors name number f)
  unfolding vendor_formatted
  vendor_formatted_kept name number None = refl
  vendor_formatted_kept name number (Some f) = through (word_read 2 (bounded greatest_number number)) _ _ (vendor_numbered_kept name f)

  vendor_line_kept : (name number : List ℕ) (f : Option VendorFormat) → IsKept (vendor_line before.vendors name number f)
  unfolding vendor_line
  vendor_line_kept name number f =
      either (not (is_vendor_name name)) _ _ _ _ refl (either (not (is_number number)) _ _ _ _ refl (vendor_formatted_kept name number f))

  vendor_kept : (rest : List (List ℕ)) → IsKept (vendor before.vendors rest)
  unfolding vendor
  vendor_kept (name ∷ number ∷ []) = vendor_line_kept name number (Some standard_format)
  vendor_kept (name ∷ number ∷ format ∷ []) = vendor_line_kept name number (format_word format)
  vendor_kept _ = refl

  skipped_by : (b : Bool) (name : List ℕ) → agreeing_meaning before.attributes (cond b (SkippedAttribute name) Skipped) ≡ Ok (cond b (SkippedAttribute name) Skipped)
  skipped_by true name = refl
  skipped_by false name = refl

  skipped_kept : (head : List ℕ) (rest : List (List ℕ)) → IsKept (Ok (skipped_line head rest))
  skipped_kept head [] = refl
  skipped_kept head (name ∷ rest) = skipped_by (same_name head (codes "attribute")) name

  -- ---- ATTRIBUTE lines

  attribute_of_later : (name kind : List ℕ) (flags : List (List ℕ)) (id : Option AttrId) → then_agreeing (attribute_of [] name kind flags id) ≡ attribute_of before.attributes name kind flags id
  unfolding attribute_of
  attribute_of_later name kind flags None = refl
  attribute_of_later name kind flags (Some id) = either (is_attribute_name name && are_flags flags) _ _ _ _ refl refl

  attribute_line_later : (block : Option ℕ) (name number kind : List ℕ) (flags : List (List ℕ)) → then_agreeing (attribute_line bare block name number kind flags) ≡ attribute_line before block name number kind flags
  unfolding attribute_line
  attribute_line_later block name number kind flags =
      through (word_read 2 (id_of_parts before.vendors block (slice_split is_dot number))) _ _ (attribute_of_later name kind flags)

  attribute_later : (block : Option ℕ) (rest : List (List ℕ)) → then_agreeing (attribute bare block rest) ≡ attribute before block rest
  unfolding attribute
  attribute_later block (name ∷ number ∷ kind ∷ []) = attribute_line_later block name number kind []
  attribute_later block (name ∷ number ∷ kind ∷ flags ∷ []) = attribute_line_later block name number kind (slice_split is_comma flags)
  attribute_later block _ = refl

  -- ---- a line

  plain_line_later : (block : Option ℕ) (head : List ℕ) (rest : List (List ℕ)) → then_agreeing (plain_line bare block head rest) ≡ plain_line before block head rest
  unfolding plain_line
  plain_line_later block head rest =
      either (same_name head (codes "attribute")) _ _ _ _ (attribute_later block rest)
      (either (same_name head (codes "value")) _ _ _ _ (value_kept rest)
      (either (same_name head (codes "vendor")) _ _ _ _ (vendor_kept rest) refl))

  read_head_later : (found : Option ℕ) (depth : ℕ) (head : List ℕ) (rest : List (List ℕ)) → then_agreeing (read_head bare found depth head rest) ≡ read_head before found depth head rest
  unfolding read_head
  read_head_later found depth head rest =
      either (is_include head) _ _ _ _ (include_kept found depth head rest)
      (either (same_name head (codes "begin-vendor")) _ _ _ _ (begin_vendor_kept before.opened rest)
      (either (same_name head (codes "end-vendor")) _ _ _ _ (end_vendor_kept before.opened rest)
      (either (same_name head (codes "begin-tlv")) _ _ _ _ (begin_tlv_kept rest)
      (either (same_name head (codes "end-tlv")) _ _ _ _ (end_tlv_kept before.opened rest)
      (either (is_skipping before.opened) _ _ _ _ (skipped_kept head rest) (plain_line_later (block_vendor before.opened) head rest))))))

  read_words_later : (found : Option ℕ) (depth : ℕ) (words : List (List ℕ)) → then_agreeing (read_words bare found depth words) ≡ read_words before found depth words
  unfolding read_words
  read_words_later found depth [] = refl
  read_words_later found depth (head ∷ rest) = read_head_later found depth head rest

  read_line_later : (files : List NamedFile) (line : Line) → then_agreeing (read_line files bare line) ≡ read_line files before line
  unfolding read_line
  read_line_later files line = read_words_later (file_included files line.text) line.depth (words_of line.text)

  within_by : (room : Bool) (read : Result Meaning RefusedWord) (full : RefusedWord) → then_agreeing (cond room read (Err full)) ≡ cond room (then_agreeing read) (Err full)
  within_by true read full = refl
  within_by false read full = refl

  module _ (limit : ℕ) (readings : List Reading) (files : List NamedFile) (line : Line) where
    line_later : then_agreeing (within limit readings (read_line files bare line)) ≡ within limit readings (read_line files before line)
    line_later = within_by (nat_lt (length readings) limit) (read_line files bare line) _ ∙ ap (within limit readings) (read_line_later files line)

    pub read_agreeing : (m : Meaning) → within limit readings (read_line files bare line) ≡ Ok m → agreeing_meaning before.attributes m ≡ Ok m → within limit readings (read_line files before line) ≡ Ok m
    read_agreeing m h agrees = sym line_later ∙ ap then_agreeing h ∙ agrees

    pub refused_agreeing : (memory : Bool) (m : Meaning) (refused : RefusedWord) → within limit readings (read_line files bare line) ≡ Ok m → Unless memory (agreeing_meaning before.attributes m ≡ Err refused) → Unless memory (within limit readings (read_line files before line) ≡ Err refused)
    refused_agreeing true m refused h other = tt
    refused_agreeing false m refused h other = sym line_later ∙ ap then_agreeing h ∙ other

    pub refused_before : (memory : Bool) (refused : RefusedWord) → Unless memory (within limit readings (read_line files bare line) ≡ Err refused) → Unless memory (within limit readings (read_line files before line) ≡ Err refused)
    refused_before true refused h = tt
    refused_before false refused h = sym line_later ∙ ap then_agreeing h
