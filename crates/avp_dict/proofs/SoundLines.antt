-- What each line is read as keeps to what holds of every dictionary.
use Rattle.std.proofs.Common.{◌≡◌, ℕ, Bool, true, false, not, cond, ◌&&◌, ◌≤◌, nat_lt, nat_le, codes, List, [], ◌∷◌, ◌++◌, length, Option, Some, None, Result, Ok, Err, refl, sym, subst, arith, IfSome, drop, take, is_none}
use Rattle.std.proofs.lemmas.Bool.{and_parts, cond_both, leb-true, not-false, not-true}
use Rattle.std.proofs.lemmas.Grind.{common_steps}
use Rattle.std.specs.List.{All, list_all, list_any, slice_split}
use Rattle.std.proofs.lemmas.List.Elements.{All-nil, All-push}
use Rattle.avp_lists.specs.declared.pairs.AttrId.{AttrId}
use Rattle.avp_lists.specs.declared.pairs.AttrId.TheVariants as ids
use Rattle.avp_dict.specs.declared.entries.AttributeLine.{AttributeLine}
use Rattle.avp_dict.specs.declared.entries.Kind.{Kind}
use Rattle.avp_dict.specs.declared.entries.Kind.TheVariants.{Text, Bytes}
use Rattle.avp_dict.specs.declared.entries.Typing.{Typing}
use Rattle.avp_dict.specs.declared.entries.VendorFormat.{VendorFormat}
use Rattle.avp_dict.specs.declared.entries.VendorLine.{VendorLine}
use Rattle.avp_dict.specs.declared.forms.Form.{Form}
use Rattle.avp_dict.specs.declared.faults.DictKind.{DictKind}
use Rattle.avp_dict.specs.declared.faults.DictKind.TheVariants.{UnknownVendor}
use Rattle.avp_dict.specs.declared.faults.RefusedWord.{RefusedWord}
use Rattle.avp_dict.specs.declared.faults.RefusedLine.{RefusedLine}
use Rattle.avp_dict.specs.declared.file.files.NamedFile.{NamedFile}
use Rattle.avp_dict.specs.declared.file.meanings.Meaning.{Meaning as CodeMeaning}
use Rattle.avp_dict.specs.declared.file.meanings.Meaning.TheVariants as code
use Rattle.avp_dict.proofs.AgreeingLines.{names_more, none_agreeing, none_passes, vendors_more}
use Rattle.avp_dict.proofs.FormedTypings.{typing_formed}
use Rattle.avp_dict.proofs.LinesRead.{context_of_push, context_of_none, then_both}
use Rattle.avp_dict.specs.AttributeNumbers.{greatest_number, greatest_value}
use Rattle.avp_dict.specs.Attributes.{attribute, attribute_line, attribute_of, id_of_dotted, id_of_parts, is_attribute_name, is_extended_id, is_held, number_id, id_of_number, vendor_id}
use Rattle.avp_dict.specs.Blocks.{begin_known, begin_tlv, begin_vendor, block_vendor, end_tlv, end_vendor, ended, is_skipping, unless_third}
use Rattle.avp_dict.specs.Dictionary.{format_of, names_other_id, names_other_vendor, vendor_named}
use Rattle.avp_dict.specs.Letters.{begins_as_attr, is_comma, is_dot, is_name_octet, is_visible, word_before_bracket, max_name}
use Rattle.avp_dict.specs.Lines.{Line, file_included, is_include}
use Rattle.avp_dict.specs.Meanings.{Meaning, Vendor, Attribute, BeginVendor, Reading, Context, after_reading, context_of}
use Rattle.avp_dict.specs.Readings.{include, plain_line, read_head, read_line, read_lines, read_words, skipped_line, value, within}
use Rattle.avp_dict.specs.Soundness.{IsSoundVendor}
use Rattle.avp_dict.specs.Refusals.{at_word, refused_at, word_read, ◌>>=◌}
use Rattle.avp_dict.specs.Types.{are_flags, form_by, is_fixed, is_formed, is_hiding, is_marked, is_opaque, is_text_kind, kind_word, typing_by, typing_of}
use Rattle.avp_dict.specs.Vendors.{bounded, format_parts, format_word, is_format, is_vendor_name, standard_format, two_parts, vendor, vendor_formatted, vendor_line, vendor_numbered}
use Rattle.avp_dict.specs.Words.{is_number, number_of, same_name, words_of}
use Rattle.avp_dict.specs.internal.Agreeing.{IsAgreeing}
use Rattle.avp_dict.specs.internal.Meanings.{IsShort, meaning_view}

-- ---- what is kept

abbrev pub is_ranged : AttrId → Bool
is_ranged (ids.Extended t n) = nat_le 241 t && nat_le t 246
is_ranged _ = true

-- of an ATTRIBUTE line
pub record IsReadAttribute (a : AttributeLine) : Type 0 where
  pub spelled : list_all is_name_octet a.name ≡ true
  pub named : begins_as_attr a.name ≡ false
  pub short : length a.name ≤ max_name
  pub ranged : is_ranged a.id ≡ true
  pub hides : a.typing.hidden ≡ true → is_text_kind (Some a.typing.kind) ≡ true
  pub formed : is_formed a.typing ≡ true

-- of a VENDOR line
pub record IsReadVendor (v : VendorLine) : Type 0 where
  pub short : length v.name ≤ max_name
  pub format : IsSoundVendor v

-- of one line more: no line before it gives its name another thing
abbrev pub IsRead : Context → Meaning → Type 0
IsRead before m = elim m [
  | Attribute a ↦ IsReadAttribute a × All (λ b. names_other_id a.name a.id b ≡ false) before.attributes
  | Vendor v ↦ IsReadVendor v × All (λ w. names_other_vendor v.name v.number w ≡ false) before.vendors
  | _ ↦ Unit {0}
]

pub record AreRead (context : Context) : Type 0 where
  pub agreeing : IsAgreeing context
  pub attributes : All IsReadAttribute context.attributes
  pub vendors : All IsReadVendor context.vendors

-- ---- one line more

agreeing_by : (before : Context) (r : Reading) (m : Meaning) → r.meaning ≡ m → IsAgreeing before → IsRead before m → IsAgreeing (after_reading before r)
agreeing_by before r (Attribute a) e are is = rw e (record { attributes = names_more before.attributes a are.attributes is.1; vendors = are.vendors })
agreeing_by before r (Vendor v) e are is = rw e (record { attributes = are.attributes; vendors = vendors_more before.vendors v are.vendors is.1 })
agreeing_by before r _ e are is = rw e (record { attributes = are.attributes; vendors = are.vendors })

one_more : (before : Context) (r : Reading) (m : Meaning) → r.meaning ≡ m → IsAgreeing (after_reading before r) → AreRead before → IsRead before m → AreRead (after_reading before r)
one_more before r (Attribute a) e agreeing are is = rw e (record { agreeing = rw e at agreeing; attributes = All-push IsReadAttribute before.attributes a are.attributes is.0; vendors = are.vendors })
one_more before r (Vendor v) e agreeing are is = rw e (record { agreeing = rw e at agreeing; attributes = are.attributes; vendors = All-push IsReadVendor before.vendors v are.vendors is.0 })
one_more before r _ e agreeing are is = rw e (record { agreeing = rw e at agreeing; attributes = are.attributes; vendors = are.vendors })

-- ---- what a line is read as

abbrev pub Reads : Context → Result Meaning RefusedWord → Type 0
Reads before (Ok m) = IsRead before m
Reads before (Err kind) = Unit {0}

either : (before : Context) (b : Bool) (x y : Result Meaning RefusedWord) → Reads before x → Reads before y → Reads before (cond b x y)
either before b x y hx hy = cond_both b x y (Reads before) (λ _. hx) (λ _. hy)

-- ---- names and ids

abbrev IsIdRanged : Option AttrId → Type 0
IsIdRanged o = IfSome o (λ id. is_ranged id ≡ true)

abbrev GivesRanged : {E : Type 0} → Result (Option AttrId) E → Type 0
GivesRanged (Ok id) = IsIdRanged id
GivesRanged (Err kind) = Unit {0}

word_ranged : (word : ℕ) (r : Result (Option AttrId) DictKind) → GivesRanged r → GivesRanged (word_read word r)
word_ranged word (Ok id) h = h
word_ranged word (Err kind) h = tt

extended_ranged : (b : Bool) (t x : ℕ) → (b && is_extended_id 1 t x) ≡ true → is_ranged (ids.Extended t x) ≡ true
extended_ranged b t x h = grind (arith, common_steps)

-- a name has no form of a name by number, and is short
good_name : (name : List ℕ) (flags : Bool) → (is_attribute_name name && flags) ≡ true → (begins_as_attr name ≡ false) × (length name ≤ max_name)
unfolding is_attribute_name
good_name name flags h =
    let short = nat_le (length name) max_name in
    let parts = and_parts (list_all is_name_octet name && short) (not (begins_as_attr name)) (and_parts (is_attribute_name name) flags h).0 in
    (not-true (begins_as_attr name) parts.1, leb-true (length name) max_name (and_parts (list_all is_name_octet name) short parts.0).1)

name_octets : (name : List ℕ) (flags : Bool) → (is_attribute_name name && flags) ≡ true → list_all is_name_octet name ≡ true
unfolding is_attribute_name
name_octets name flags h =
    let short = nat_le (length name) max_name in
    let parts = and_parts (list_all is_name_octet name && short) (not (begins_as_attr name)) (and_parts (is_attribute_name name) flags h).0 in
    (and_parts (list_all is_name_octet name) short parts.0).0

short_vendor : (name : List ℕ) → is_vendor_name name ≡ true → length name ≤ max_name
unfolding is_vendor_name
short_vendor name h = leb-true (length name) max_name (and_parts (list_all is_visible name) (nat_le (length name) max_name) h).1

hides_by : (own : Option Kind) (opaque hiding : Bool) (form : Form) (secret : Bool) → (typing_by own opaque hiding form secret).hidden ≡ true → is_text_kind (Some (typing_by own opaque hiding form secret).kind) ≡ true
hides_by own true hiding form secret h = refl
hides_by own false false form secret h = absurd (cc)
hides_by (Some Text) false true form secret h = refl
hides_by (Some Bytes) false true form secret h = refl
hides_by _ false true form secret h = absurd (cc)

hides_text : (id : AttrId) (word : List ℕ) (flags : List (List ℕ)) → (typing_of id word flags).hidden ≡ true → is_text_kind (Some (typing_of id word flags).kind) ≡ true
hides_text id word flags =
    cond_both (is_fixed id) _ _ (λ (t : Typing). t.hidden ≡ true → is_text_kind (Some t.kind) ≡ true) (λ fixed h. refl)
    (λ other. hides_by (kind_word (word_before_bracket word)) (list_any is_opaque flags) (list_any is_hiding flags) (form_by (word_before_bracket word) flags) (is_marked flags))

-- ---- what a line is read as, by its first word

module _ (before : Context) where
  include_reads : (found : Option ℕ) (depth : ℕ) (head : List ℕ) (rest : List (List ℕ)) → Reads before (include found depth head rest)
  unfolding include
  include_reads None depth head (path ∷ []) = either before (same_name head (codes "$include")) _ _ tt tt
  include_reads (Some place) depth head (path ∷ []) = either before (nat_lt depth 8) _ _ tt tt
  include_reads found depth head _ = tt

  ended_reads : (fits : Bool) (opened : List Reading) → Reads before (ended fits opened)
  ended_reads true opened = tt
  ended_reads false opened = tt

  end_vendor_reads : (opened : List Reading) (rest : List (List ℕ)) → Reads before (end_vendor opened rest)
  unfolding end_vendor
  end_vendor_reads opened (name ∷ []) = ended_reads _ opened
  end_vendor_reads opened _ = tt

  end_tlv_reads : (opened : List Reading) (rest : List (List ℕ)) → Reads before (end_tlv opened rest)
  unfolding end_tlv
  end_tlv_reads opened (name ∷ []) = ended_reads _ opened
  end_tlv_reads opened _ = tt

  begin_tlv_reads : (rest : List (List ℕ)) → Reads before (begin_tlv rest)
  unfolding begin_tlv
  begin_tlv_reads (name ∷ []) = tt
  begin_tlv_reads _ = tt

  begin_known_by : (name : List ℕ) (found : Option ℕ) → Reads before (elim found [ None ↦ Err (at_word 1 UnknownVendor) | Some vendor ↦ Ok (BeginVendor name (unless_third vendor (format_of vendor before.vendors))) ])
  begin_known_by name None = tt
  begin_known_by name (Some vendor) = tt

  begin_known_reads : (name : List ℕ) → Reads before (begin_known before.vendors name)
  unfolding begin_known
  begin_known_reads name = begin_known_by name (vendor_named name before.vendors)

  begin_vendor_reads : (opened : List Reading) (rest : List (List ℕ)) → Reads before (begin_vendor before.vendors opened rest)
  unfolding begin_vendor
  begin_vendor_reads opened (name ∷ []) = either before (is_skipping opened) _ _ tt (begin_known_reads name)
  begin_vendor_reads opened (name ∷ word ∷ []) = tt
  begin_vendor_reads opened _ = tt

  -- ---- VALUE and VENDOR lines

  value_reads : (rest : List (List ℕ)) → Reads before (value rest)
  unfolding value
  value_reads (attribute ∷ name ∷ number ∷ []) = then_both (λ r. Unit {0}) (Reads before) (word_read 3 (bounded greatest_value number)) _ tt (λ n h. tt) (λ e h. tt)
  value_reads _ = tt

  -- the format, if there is one, is one of those that there are
  abbrev IsKnownFormat : Option VendorFormat → Type 0
  IsKnownFormat f = IfSome f (λ (g : VendorFormat). is_format g.t g.l ≡ true)

  two_parts_known : (third : Bool) (t l : Option ℕ) → IsKnownFormat (two_parts third t l)
  two_parts_known third (Some t) (Some l) = cond_both (is_format t l) _ _ IsKnownFormat (λ held. held) (λ other. tt)
  two_parts_known third _ _ = tt

  format_parts_known : (parts : List (List ℕ)) → IsKnownFormat (format_parts parts)
  format_parts_known (t ∷ l ∷ []) = two_parts_known false (number_of t) (number_of l)
  format_parts_known (t ∷ l ∷ c ∷ []) = two_parts_known true (number_of t) (number_of l)
  format_parts_known _ = tt

  format_word_known : (word : List ℕ) → IsKnownFormat (format_word word)
  unfolding format_word
  format_word_known word =
      cond_both (nat_lt (length word) 7) _ _ IsKnownFormat (λ short. tt)
      (λ long. cond_both (same_name (take 7 word) (codes "format=")) _ _ IsKnownFormat (λ h. format_parts_known (slice_split is_comma (drop 7 word))) (λ other. tt))

  vendor_numbered_reads : (name : List ℕ) (f : VendorFormat) → length name ≤ max_name → is_format f.t f.l ≡ true → (n : ℕ) → Reads before (vendor_numbered before.vendors name f n)
  unfolding vendor_numbered
  vendor_numbered_reads name f short known n =
      cond_both (list_any (names_other_vendor name n) before.vendors) _ _ (Reads before) (λ other. tt)
      (λ alone. (record { short = short; format = known }, none_passes (names_other_vendor name n) before.vendors alone))

  vendor_formatted_reads : (name number : List ℕ) (f : Option VendorFormat) → length name ≤ max_name → IsKnownFormat f → Reads before (vendor_formatted before.vendors name number f)
  unfolding vendor_formatted
  vendor_formatted_reads name number None short known = tt
  vendor_formatted_reads name number (Some f) short known =
      then_both (λ r. Unit {0}) (Reads before) (word_read 2 (bounded greatest_number number)) _ tt (λ n h. vendor_numbered_reads name f short known n) (λ e h. tt)

  vendor_line_reads : (name number : List ℕ) (f : Option VendorFormat) → IsKnownFormat f → Reads before (vendor_line before.vendors name number f)
  unfolding vendor_line
  vendor_line_reads name number f known =
      cond_both (not (is_vendor_name name)) _ _ (Reads before) (λ other. tt)
      (λ named. cond_both (not (is_number number)) _ _ (Reads before) (λ other. tt) (λ h. vendor_formatted_reads name number f (short_vendor name (not-false (is_vendor_name name) named)) known))

  vendor_reads : (rest : List (List ℕ)) → Reads before (vendor before.vendors rest)
  unfolding vendor
  vendor_reads (name ∷ number ∷ []) = vendor_line_reads name number (Some standard_format) refl
  vendor_reads (name ∷ number ∷ format ∷ []) = vendor_line_reads name number (format_word format) (format_word_known format)
  vendor_reads _ = tt

  -- ---- ATTRIBUTE lines

  vendor_id_ranged : (v n : ℕ) (f : Option VendorFormat) → IsIdRanged (vendor_id v n f)
  vendor_id_ranged v n None = tt
  vendor_id_ranged v n (Some f) = cond_both (is_held n f) _ _ IsIdRanged (λ held. refl) (λ other. tt)

  number_id_ranged : (block : Option ℕ) (n : ℕ) → IsIdRanged (number_id before.vendors block n)
  unfolding number_id
  number_id_ranged None n = refl
  number_id_ranged (Some v) n = vendor_id_ranged v n (format_of v before.vendors)

  id_of_number_ranged : (block : Option ℕ) (n : Option ℕ) → GivesRanged (id_of_number before.vendors block n)
  unfolding id_of_number
  id_of_number_ranged block None = tt
  id_of_number_ranged block (Some n) = cond_both (nat_le n greatest_number) _ _ GivesRanged (λ low. number_id_ranged block n) (λ high. tt)

  id_of_dotted_ranged : (block t x : Option ℕ) → GivesRanged (id_of_dotted block t x)
  id_of_dotted_ranged block (Some t) (Some x) = cond_both (is_none block && is_extended_id 1 t x) _ _ IsIdRanged (extended_ranged (is_none block) t x) (λ other. tt)
  id_of_dotted_ranged block _ _ = tt

  id_of_parts_ranged : (block : Option ℕ) (parts : List (List ℕ)) → GivesRanged (id_of_parts before.vendors block parts)
  unfolding id_of_parts
  id_of_parts_ranged block [] = tt
  id_of_parts_ranged block (n ∷ []) = id_of_number_ranged block (number_of n)
  id_of_parts_ranged block (t ∷ x ∷ []) = id_of_dotted_ranged block (number_of t) (number_of x)
  id_of_parts_ranged block (t ∷ x ∷ y ∷ rest) = cond_both (list_all is_number (t ∷ x ∷ y ∷ rest)) _ _ GivesRanged (λ h. tt) (λ other. tt)

  attribute_of_reads : (name kind : List ℕ) (flags : List (List ℕ)) (id : Option AttrId) → IsIdRanged id → Reads before (attribute_of before.attributes name kind flags id)
  unfolding attribute_of
  attribute_of_reads name kind flags None ranged = tt
  attribute_of_reads name kind flags (Some id) ranged =
      cond_both (is_attribute_name name && are_flags flags) _ _ (Reads before)
      (λ named.
      let good = good_name name (are_flags flags) named in
      cond_both (list_any (names_other_id name id) before.attributes) _ _ (Reads before) (λ other. tt) (λ alone. (
        record {
          spelled = name_octets name (are_flags flags) named;
          named = good.0;
          short = good.1;
          ranged = ranged;
          hides = hides_text id kind flags;
          formed = typing_formed id kind flags;
        },
        none_passes (names_other_id name id) before.attributes alone,
      )))
      (λ other. tt)

  attribute_line_reads : (block : Option ℕ) (name number kind : List ℕ) (flags : List (List ℕ)) → Reads before (attribute_line before block name number kind flags)
  unfolding attribute_line
  attribute_line_reads block name number kind flags =
      then_both GivesRanged (Reads before) (word_read 2 (id_of_parts before.vendors block (slice_split is_dot number))) _
      (word_ranged 2 (id_of_parts before.vendors block (slice_split is_dot number)) (id_of_parts_ranged block (slice_split is_dot number))) (attribute_of_reads name kind flags) (λ e h. tt)

  attribute_reads : (block : Option ℕ) (rest : List (List ℕ)) → Reads before (attribute before block rest)
  unfolding attribute
  attribute_reads block (name ∷ number ∷ kind ∷ []) = attribute_line_reads block name number kind []
  attribute_reads block (name ∷ number ∷ kind ∷ flags ∷ []) = attribute_line_reads block name number kind (slice_split is_comma flags)
  attribute_reads block _ = tt

  -- ---- a line

  skipped_reads : (head : List ℕ) (rest : List (List ℕ)) → IsRead before (skipped_line head rest)
  skipped_reads head [] = tt
  skipped_reads head (name ∷ rest) = cond_both (same_name head (codes "attribute")) _ _ (IsRead before) (λ h. tt) (λ other. tt)

  plain_line_reads : (block : Option ℕ) (head : List ℕ) (rest : List (List ℕ)) → Reads before (plain_line before block head rest)
  unfolding plain_line
  plain_line_reads block head rest =
      either before (same_name head (codes "attribute")) _ _ (attribute_reads block rest)
      (either before (same_name head (codes "value")) _ _ (value_reads rest)
      (either before (same_name head (codes "vendor")) _ _ (vendor_reads rest) tt))

  read_head_reads : (found : Option ℕ) (depth : ℕ) (head : List ℕ) (rest : List (List ℕ)) → Reads before (read_head before found depth head rest)
  unfolding read_head
  read_head_reads found depth head rest =
      either before (is_include head) _ _ (include_reads found depth head rest)
      (either before (same_name head (codes "begin-vendor")) _ _ (begin_vendor_reads before.opened rest)
      (either before (same_name head (codes "end-vendor")) _ _ (end_vendor_reads before.opened rest)
      (either before (same_name head (codes "begin-tlv")) _ _ (begin_tlv_reads rest)
      (either before (same_name head (codes "end-tlv")) _ _ (end_tlv_reads before.opened rest)
      (either before (is_skipping before.opened) _ _ (skipped_reads head rest) (plain_line_reads (block_vendor before.opened) head rest))))))

  read_words_reads : (found : Option ℕ) (depth : ℕ) (words : List (List ℕ)) → Reads before (read_words before found depth words)
  unfolding read_words
  read_words_reads found depth [] = tt
  read_words_reads found depth (head ∷ rest) = read_head_reads found depth head rest

  pub read_line_reads : (files : List NamedFile) (line : Line) → Reads before (read_line files before line)
  unfolding read_line
  read_line_reads files line = read_words_reads (file_included files line.text) line.depth (words_of line.text)

-- ---- all lines

-- the name of a line that is read is short
pub short_read : (before : Context) (files : List NamedFile) (line : Line) (m : CodeMeaning) → read_line files before line ≡ Ok (meaning_view m) → IsShort m
short_read before files line m e = by_meaning m (rw e at (read_line_reads before files line))
  where
    by_meaning : (m : CodeMeaning) → IsRead before (meaning_view m) → IsShort m
    by_meaning (code.Attribute name id typing) h = h.0.short
    by_meaning (code.Vendor name number format) h = h.0.short
    by_meaning _ h = tt

-- the lines agree after one more that was read
pub agreeing_after : (before after : Context) (files : List NamedFile) (line : Line) (m : Meaning) (r : Reading) → IsAgreeing before → read_line files before line ≡ Ok m → r.meaning ≡ m → after ≡ after_reading before r → IsAgreeing after
agreeing_after before after files line m r are e is now = subst IsAgreeing (sym now) (agreeing_by before r m is are (rw e at (read_line_reads before files line)))

abbrev pub AllRead : Result (List Reading) RefusedLine → Type 0
AllRead (Ok lines) = AreRead (context_of lines)
AllRead (Err fault) = Unit {0}

step_read : (before : Context) (file line : ℕ) (r : Result Meaning RefusedWord) (f : Meaning → Result (List Reading) RefusedLine) → Reads before r → ((m : Meaning) → IsRead before m → AllRead (f m)) → AllRead (refused_at file line r >>= f)
step_read before file line (Ok m) f reads next = next m reads
step_read before file line (Err kind) f reads next = tt

-- the context after one line more
pub read_more : (before : List Reading) (r : Reading) → AreRead (context_of before) → IsRead (context_of before) r.meaning → AreRead (context_of (before ++ r ∷ []))
read_more before r are is = subst AreRead (sym (context_of_push before r)) (one_more (context_of before) r r.meaning refl (agreeing_by (context_of before) r r.meaning refl are.agreeing is) are is)

pub read_lines_read : (limit : ℕ) (files : List NamedFile) (before : List Reading) (lines : List Line) → AreRead (context_of before) → AllRead (read_lines limit files before lines)
unfolding read_lines
read_lines_read limit files before [] are = are
read_lines_read limit files before (line ∷ lines) are =
    step_read (context_of before) line.file line.number (within limit before (read_line files (context_of before) line)) _
    (either (context_of before) (nat_lt (length before) limit) _ _ (read_line_reads (context_of before) files line) tt) (λ m is.
    let r : Reading = record { file = line.file; line = line.number; meaning = m } in
    read_lines_read limit files (before ++ r ∷ []) lines (read_more before r are is))

pub none_read : AreRead (context_of [])
none_read = subst AreRead (sym context_of_none) (record { agreeing = none_agreeing; attributes = All-nil IsReadAttribute; vendors = All-nil IsReadVendor })
