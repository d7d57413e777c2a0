-- What is printed for a pair is read back.
use Rattle.std.proofs.Common.{◌≡◌, ◌∙◌, ℕ, suc, ◌+◌, ◌^◌, ◌<◌, ℤ, pos, negsuc, Bool, true, false, not, cond, ◌&&◌, ◌||◌, ◌==◌, leb, List, [], ◌∷◌, ◌++◌, codes, length, slice_index, Option, Some, None, Ok, refl, sym, ap, subst, arith, rules, append_assoc, decimal, option_and_then, option_map, FitsSigned, w32}
use Rattle.std.specs.Fmt.{signed_decimal}
use Rattle.std.specs.List.{All, slice_split}
use Rattle.std.specs.Option.{option_map_or, unwrap_or}
use Rattle.std.proofs.lemmas.Bool.{and_parts, cond_both, false_from_ne_true, not-true, or_parts}
use Rattle.std.proofs.lemmas.List.Splits.{slice_split_at, slice_split_none}
use Rattle.avp_lists.specs.declared.pairs.AttrId.{AttrId}
use Rattle.avp_lists.specs.declared.pairs.AttrId.TheVariants as ids
use Rattle.avp_lists.specs.declared.pairs.Value.{Value}
use Rattle.avp_lists.specs.declared.pairs.Value.TheVariants.{Int, Signed, Addr, Ether, Raw}
use Rattle.avp_lists.specs.declared.pairs.Value.TheVariants as values
use Rattle.avp_lists.specs.Pairs.{value_eq}
use Rattle.avp_lists.proofs.Equality.{same_value}
use Rattle.avp_dict.specs.declared.entries.Kind.{Kind}
use Rattle.avp_dict.specs.declared.entries.Kind.TheVariants as kinds
use Rattle.avp_dict.specs.AttributeNumbers.{greatest_number, greatest_signed, greatest_value}
use Rattle.avp_dict.specs.Dictionary.{Dictionary, name_numbered, typing_of_id}
use Rattle.avp_dict.proofs.PrintedNames.{is_described, is_named_number, named_back}
use Rattle.avp_dict.proofs.Numerals.{IsNumeral, decimal_numeral, digits_numeral, first_of_numeral, number_of_numeral, numeral_without}
use Rattle.avp_dict.proofs.PrintedAddresses.{address_back, bytes_back, ether_back, octets_back}
use Rattle.avp_dict.proofs.Unescaping.{quoted_back}
use Rattle.avp_dict.specs.Letters.{is_decimal, is_dot}
use Rattle.avp_dict.specs.Limits.{fits, is_known, is_of_kind, is_typed, is_within}
use Rattle.avp_dict.specs.Names.{Described, described, named}
use Rattle.avp_dict.specs.Octets.{is_hidden, octets, of_length, read_value, value_of_octets, value_read}
use Rattle.avp_dict.specs.Printing.{attr_name, hexadecimal, printed_name, printed_text, typed_text}
use Rattle.avp_dict.specs.Laws.{ReadsBack, is_writable, unquoted}
use Rattle.avp_dict.specs.Sent.{is_canonical, is_container, is_internal, is_raw, survives_hiding}
use Rattle.avp_dict.specs.Settled.{is_in_format}
use Rattle.avp_dict.specs.Soundness.{IsSound}
use Rattle.avp_dict.specs.Spellings.{is_negative, number_spelled, octets_spelled, octets_value, signed_spelled, spelled, spelled_as, spelled_by, up_to, value_spelled}
use Rattle.avp_dict.specs.Types.{is_text_kind}
use Rattle.avp_dict.specs.Words.{digits, number_of}
use Rattle.avp_dict.specs.internal.Ranges.{AreOctets, IsIdInRange, IsValueInRange}

-- ---- numbers

plain_number : (most n : ℕ) → leb n most ≡ true → n < 2 ^ 64 → up_to most (number_of (decimal n)) ≡ Some n
plain_number most n h lt = rw (number_of_numeral n (decimal n) (decimal_numeral n lt), h)

signed_back : (z : ℤ) → FitsSigned w32 z → signed_spelled (signed_decimal z) ≡ Some z
unfolding signed_spelled
signed_back (pos n) h =
    let small : n < 2 ^ 31 = search rules in
    let numeral = decimal_numeral n (omega arith) in
    let first = first_of_numeral n (decimal n) numeral in
    let plain : is_negative (decimal n) ≡ false = grind arith in
    let low : leb n greatest_signed ≡ true = grind arith in
    rw (plain, digits_numeral n (decimal n) numeral, low)
signed_back (negsuc n) h =
    let small : n < 2 ^ 31 = search rules in
    let low : leb (suc n) (greatest_signed + 1) ≡ true = grind arith in
    rw (digits_numeral (suc n) (decimal (suc n)) (decimal_numeral (suc n) (omega arith)), low)

module _ (dictionary : Dictionary) (sound : IsSound dictionary) where
  named_or : (most : ℕ) (id : AttrId) (n : ℕ) → leb n most ≡ true → n < 2 ^ 64 → (name : Option (List ℕ)) → name_numbered id n dictionary.values ≡ name → number_spelled most id (unwrap_or name (decimal n)) dictionary ≡ Some n
  unfolding number_spelled
  named_or most id n h lt None e = rw (number_of_numeral n (decimal n) (decimal_numeral n lt), h)
  named_or most id n h lt (Some name) e =
      let is = is_named_number dictionary sound id n name e in
      rw (is.apart, is.numbered, h)

  number_back : (most : ℕ) (id : AttrId) (n : ℕ) → leb n most ≡ true → n < 2 ^ 64 → number_spelled most id (unwrap_or (name_numbered id n dictionary.values) (decimal n)) dictionary ≡ Some n
  number_back most id n h lt = named_or most id n h lt (name_numbered id n dictionary.values) refl

-- ---- values of a type

-- an address of this type has so many octets
abbrev IsWhole : Value → Type 0
IsWhole (Addr os) = length os ≡ 4
IsWhole (Ether os) = length os ≡ 6
IsWhole _ = Unit {0}

module _ (dictionary : Dictionary) (sound : IsSound dictionary) (id : AttrId) (takes_text : Bool) where
  typed_back : (kind : Kind) (value : Value) → IsValueInRange value → IsWhole value → is_raw value ≡ false → is_of_kind value kind ≡ true → spelled_as kind takes_text id (unquoted value (typed_text kind id value dictionary)) dictionary ≡ Some value
  typed_back kinds.Text (values.Text os) h whole raw is = ap (λ (xs : List ℕ). Some (values.Text xs)) (quoted_back os h)
  typed_back kinds.Bytes (values.Bytes os) h whole raw is = ap (option_map (λ (xs : List ℕ). values.Bytes xs)) (bytes_back takes_text os h)
  typed_back kinds.Addr (Addr os) h whole raw is = ap (option_map (λ (xs : List ℕ). Addr xs)) (address_back os whole h)
  typed_back kinds.Ether (Ether os) h whole raw is = ap (option_map (λ (xs : List ℕ). Ether xs)) (ether_back os whole h)
  typed_back kinds.Signed (Signed z) h whole raw is = ap (option_map (λ (x : ℤ). Signed x)) (signed_back z h)
  typed_back kinds.Byte (Int n) h whole raw is = ap (option_map (λ (m : ℕ). Int m)) (number_back dictionary sound 255 id n is h)
  typed_back kinds.Short (Int n) h whole raw is = ap (option_map (λ (m : ℕ). Int m)) (number_back dictionary sound 65535 id n is h)
  typed_back kinds.Integer (Int n) h whole raw is = ap (option_map (λ (m : ℕ). Int m)) (number_back dictionary sound greatest_number id n is h)
  typed_back kinds.Integer64 (Int n) h whole raw is = ap (option_map (λ (m : ℕ). Int m)) (number_back dictionary sound greatest_value id n is h)
  typed_back kinds.Date (Int n) h whole raw is = ap (option_map (λ (m : ℕ). Int m)) (plain_number greatest_number n is h)
  typed_back _ _ h whole raw is = absurd (cc)

-- ---- how long addresses are

whole_if : (n : ℕ) (value : List ℕ → Value) (os : List ℕ) → (value os ≡ Raw os → ⊥) → value os ≡ unwrap_or (of_length n value os) (Raw os) → length os ≡ n
whole_if n value os other h =
    cond_both (length os == n) _ _ (λ (o : Option Value). value os ≡ unwrap_or o (Raw os) → length os ≡ n) (λ e same. grind (arith, e)) (λ e same. absurd (other same)) h

module _ (dictionary : Dictionary) (sound : IsSound dictionary) (id : AttrId) (d : Described) (e : described id dictionary ≡ Some d) where
  shows : is_text_kind (Some d.kind) ≡ false → d.hidden ≡ false
  shows other =
      let is = is_described dictionary sound id d e in
      false_from_ne_true d.hidden (λ h. cc (subst (λ (k : Kind). is_text_kind (Some k) ≡ true) is.kind (is.keeps.hides (is.hidden ∙ h)), other))

  -- a canonical value that is not hidden is what its octets stand for
  shown_value : (value : Value) → d.hidden ≡ false → cond (is_hidden id dictionary) (survives_hiding value) (value_eq value (value_of_octets id (octets id value dictionary) dictionary)) ≡ true → value ≡ value_of_octets id (octets id value dictionary) dictionary
  shown_value value plain h =
      let hidden : is_hidden id dictionary ≡ false = rw e plain in
      same_value value (value_of_octets id (octets id value dictionary) dictionary) (rw hidden at h)

  reads_kind : (kind : Kind) → d.kind ≡ kind → (os : List ℕ) → d.hidden ≡ false → value_of_octets id os dictionary ≡ unwrap_or (value_read kind os) (Raw os)
  unfolding read_value value_of_octets
  reads_kind kind k os plain = rw (e, plain, k)

  address_whole : (kind : Kind) → d.kind ≡ kind → (os : List ℕ) → is_of_kind (Addr os) kind ≡ true → cond (is_hidden id dictionary) (survives_hiding (Addr os)) (value_eq (Addr os) (value_of_octets id (octets id (Addr os) dictionary) dictionary)) ≡ true → length os ≡ 4
  unfolding octets
  address_whole kinds.Addr k os is h =
      let plain = shows (ap (λ (x : Kind). is_text_kind (Some x)) k) in
      whole_if 4 (λ (xs : List ℕ). Addr xs) os (λ other. cc) (shown_value (Addr os) plain h ∙ reads_kind kinds.Addr k os plain)
  address_whole _ k os is h = absurd (cc)

  ether_whole : (kind : Kind) → d.kind ≡ kind → (os : List ℕ) → is_of_kind (Ether os) kind ≡ true → cond (is_hidden id dictionary) (survives_hiding (Ether os)) (value_eq (Ether os) (value_of_octets id (octets id (Ether os) dictionary) dictionary)) ≡ true → length os ≡ 6
  unfolding octets
  ether_whole kinds.Ether k os is h =
      let plain = shows (ap (λ (x : Kind). is_text_kind (Some x)) k) in
      whole_if 6 (λ (xs : List ℕ). Ether xs) os (λ other. cc) (shown_value (Ether os) plain h ∙ reads_kind kinds.Ether k os plain)
  ether_whole _ k os is h = absurd (cc)

  is_whole : (value : Value) → is_of_kind value d.kind ≡ true → cond (is_hidden id dictionary) (survives_hiding value) (value_eq value (value_of_octets id (octets id value dictionary) dictionary)) ≡ true → IsWhole value
  is_whole (Addr os) is h = address_whole d.kind refl os is h
  is_whole (Ether os) is h = ether_whole d.kind refl os is h
  is_whole _ is h = tt

  -- ---- under the name of a line

  printed_by_name : (value : Value) → is_container id ≡ false → is_raw value ≡ false → printed_name id value dictionary ≡ d.name
  unfolding printed_name
  printed_by_name value held raw = rw (held, raw, e)

  text_by_name : (value : Value) → is_container id ≡ false → is_raw value ≡ false → printed_text id value dictionary ≡ typed_text d.kind id value dictionary
  unfolding printed_text
  text_by_name value held raw = rw (held, raw, e)

  spelled_by_name : (text : List ℕ) (value : Value) → is_container id ≡ false → is_within id value dictionary ≡ true → ((takes_text : Bool) → spelled_as d.kind takes_text id text dictionary ≡ Some value) → value_spelled (record { id = id; raw = false }) text dictionary ≡ Ok value
  unfolding spelled value_spelled
  spelled_by_name text value held within back =
      let is = is_described dictionary sound id d e in
      let there : option_and_then (spelled_by id text dictionary) (typing_of_id id dictionary.attributes) ≡ Some value = rw (is.typed, is.kind) (back is.typing.takes_text) in
      rw (held, there, within)

  back_by_name : (value : Value) → IsValueInRange value → is_container id ≡ false → is_raw value ≡ false → is_of_kind value d.kind ≡ true → is_within id value dictionary ≡ true → cond (is_hidden id dictionary) (survives_hiding value) (value_eq value (value_of_octets id (octets id value dictionary) dictionary)) ≡ true → ReadsBack (record { id = id; value = value }) dictionary
  back_by_name value range held raw is within canonical = record {
    name = record { id = id; raw = false };
    named = rw (printed_by_name value held raw) (named_back dictionary sound id d e);
    same = refl;
    spelled = rw (text_by_name value held raw) (spelled_by_name _ value held within (λ takes_text. typed_back dictionary sound id takes_text d.kind value range (is_whole value is canonical) raw is));
  }

-- ---- names by number

digit_first : (text : List ℕ) (n : ℕ) → IsNumeral n text → is_decimal (slice_index text 0) ≡ true
digit_first text n h = let first = first_of_numeral n text h in grind (arith, first)

no_dots : (n : ℕ) → n < 2 ^ 64 → All (λ x. is_dot x ≡ false) (decimal n)
no_dots n h = numeral_without 46 n (decimal n) (omega arith) (decimal_numeral n h)

one_number : (n : ℕ) → n < 2 ^ 64 → slice_split is_dot (decimal n) ≡ decimal n ∷ []
one_number n h = slice_split_none is_dot (decimal n) (no_dots n h)

two_numbers : (n m : ℕ) → n < 2 ^ 64 → m < 2 ^ 64 → slice_split is_dot ((decimal n ++ codes ".") ++ decimal m) ≡ decimal n ∷ decimal m ∷ []
two_numbers n m hn hm =
    ap (slice_split is_dot) (append_assoc (decimal n) (codes ".") (decimal m))
    ∙ (slice_split_at is_dot (decimal n) 46 (decimal m) (no_dots n hn) refl ∙ ap (λ (xs : List (List ℕ)). decimal n ∷ xs) (one_number m hm))

number_digits : (n : ℕ) → n < 2 ^ 64 → digits 10 (decimal n) ≡ Some n
number_digits n h = digits_numeral n (decimal n) (decimal_numeral n h)

first_stays : (xs ys zs : List ℕ) → 0 < length xs → slice_index ((xs ++ ys) ++ zs) 0 ≡ slice_index xs 0
first_stays [] ys zs h = absurd (omega arith)
first_stays (x ∷ xs) ys zs h = refl

named_plain : (dictionary : Dictionary) (n : ℕ) → n < 2 ^ 32 → leb n 255 ≡ true → named (attr_name (ids.Plain n)) dictionary ≡ Some (record { id = ids.Plain n; raw = true })
unfolding attr_name named
named_plain dictionary n h low =
    let small : n < 2 ^ 64 = omega arith in
    rw (digit_first (decimal n) n (decimal_numeral n small), one_number n small, number_digits n small, low)

named_vendor : (dictionary : Dictionary) (v n : ℕ) → v < 2 ^ 32 → n < 2 ^ 32 → is_in_format v n dictionary.vendors ≡ true → named (attr_name (ids.Vendor v n)) dictionary ≡ Some (record { id = ids.Vendor v n; raw = true })
unfolding attr_name named
named_vendor dictionary v n hv hn known =
    let sv : v < 2 ^ 64 = omega arith in
    let sn : n < 2 ^ 64 = omega arith in
    let low : leb v greatest_number ≡ true = grind arith in
    rw (two_numbers v n sv sn, number_digits v sv, number_digits n sn, low, known)

named_extended : (dictionary : Dictionary) (t n : ℕ) → t < 256 → n < 256 → (leb 241 t && leb t 246) ≡ true → named (attr_name (ids.Extended t n)) dictionary ≡ Some (record { id = ids.Extended t n; raw = true })
unfolding attr_name named
named_extended dictionary t n ht hn known =
    let st : t < 2 ^ 64 = omega arith in
    let sn : n < 2 ^ 64 = omega arith in
    let least : leb 0 n ≡ true = grind arith in
    let low : leb n 255 ≡ true = grind arith in
    let some : slice_index ((decimal t ++ codes ".") ++ decimal n) 0 ≡ slice_index (decimal t) 0 = first_stays (decimal t) (codes ".") (decimal n) (decimal_numeral t st).some in
    rw (some, digit_first (decimal t) t (decimal_numeral t st), two_numbers t n st sn, number_digits t st, number_digits n sn, known, least, low)

named_by_number : (dictionary : Dictionary) (id : AttrId) → IsIdInRange id → is_known id dictionary ≡ true → is_internal id ≡ false → named (attr_name id) dictionary ≡ Some (record { id = id; raw = true })
unfolding is_known
named_by_number dictionary (ids.Plain n) range known internal = let low : leb n 255 ≡ true = grind arith in named_plain dictionary n range low
named_by_number dictionary (ids.Vendor v n) range known internal = named_vendor dictionary v n range.0 range.1 known
named_by_number dictionary (ids.Extended t n) range known internal = named_extended dictionary t n range.0 range.1 known

module _ (dictionary : Dictionary) (id : AttrId) (os : List ℕ) (held : is_container id ≡ false) where
  printed_by_number : printed_name id (Raw os) dictionary ≡ attr_name id
  unfolding printed_name
  printed_by_number = rw held

  text_by_number : printed_text id (Raw os) dictionary ≡ hexadecimal os
  unfolding octets printed_text
  text_by_number = rw held

  spelled_by_number : AreOctets os → is_hidden id dictionary ≡ false → is_within id (Raw os) dictionary ≡ true → Raw os ≡ value_of_octets id os dictionary → value_spelled (record { id = id; raw = true }) (hexadecimal os) dictionary ≡ Ok (Raw os)
  unfolding spelled value_spelled
  spelled_by_number range shown within canonical =
      let there : option_map (octets_value id dictionary) (octets_spelled (hexadecimal os)) ≡ Some (Raw os) = ap (option_map (octets_value id dictionary)) (octets_back os range) ∙ ap (λ (v : Value). Some v) (sym canonical) in
      rw (held, shown, there, within)

  back_by_number : IsIdInRange id → AreOctets os → is_known id dictionary ≡ true → is_internal id ≡ false → is_hidden id dictionary ≡ false → is_within id (Raw os) dictionary ≡ true → Raw os ≡ value_of_octets id os dictionary → ReadsBack (record { id = id; value = Raw os }) dictionary
  back_by_number within_words range known internal shown within canonical = record {
    name = record { id = id; raw = true };
    named = rw printed_by_number (named_by_number dictionary id within_words known internal);
    same = refl;
    spelled = rw text_by_number (spelled_by_number range shown within canonical);
  }

-- ---- any pair

record IsWritable (id : AttrId) (value : Value) (dictionary : Dictionary) : Type 0 where
  known : is_known id dictionary ≡ true
  typed : is_typed id value dictionary ≡ true
  within : is_within id value dictionary ≡ true
  canonical : cond (is_hidden id dictionary) (survives_hiding value) (value_eq value (value_of_octets id (octets id value dictionary) dictionary)) ≡ true
  held : is_container id ≡ false
  apart : not (is_raw value && (is_internal id || is_hidden id dictionary)) ≡ true

writable_parts : (id : AttrId) (value : Value) (dictionary : Dictionary) → is_writable (record { id = id; value = value }) dictionary ≡ true → IsWritable id value dictionary
unfolding fits is_canonical is_writable
writable_parts id value dictionary h =
    let fit : Bool = is_known id dictionary && is_typed id value dictionary && is_within id value dictionary in
    let shown : Bool = cond (is_hidden id dictionary) (survives_hiding value) (value_eq value (value_of_octets id (octets id value dictionary) dictionary)) in
    let a = and_parts (fit && shown && not (is_container id)) (not (is_raw value && (is_internal id || is_hidden id dictionary))) h in
    let b = and_parts (fit && shown) (not (is_container id)) a.0 in
    let c = and_parts fit shown b.0 in
    let d = and_parts (is_known id dictionary && is_typed id value dictionary) (is_within id value dictionary) c.0 in
    let e = and_parts (is_known id dictionary) (is_typed id value dictionary) d.0 in
    record { known = e.0; typed = e.1; within = d.1; canonical = c.1; held = not-true (is_container id) b.1; apart = a.1 }

raw_back : (dictionary : Dictionary) (id : AttrId) (os : List ℕ) → IsIdInRange id → AreOctets os → IsWritable id (Raw os) dictionary → ReadsBack (record { id = id; value = Raw os }) dictionary
unfolding octets
raw_back dictionary id os words range h =
    let apart = or_parts (is_internal id) (is_hidden id dictionary) (not-true (is_internal id || is_hidden id dictionary) h.apart) in
    back_by_number dictionary id os h.held words range h.known apart.0 apart.1 h.within (same_value (Raw os) (value_of_octets id os dictionary) (rw apart.1 at h.canonical))

typed_by : (dictionary : Dictionary) → IsSound dictionary → (id : AttrId) (value : Value) → IsValueInRange value → is_raw value ≡ false → IsWritable id value dictionary → (d : Option Described) → described id dictionary ≡ d → option_map_or (is_of_kind value) (option_map (λ (x : Described). x.kind) d) false ≡ true → ReadsBack (record { id = id; value = value }) dictionary
typed_by dictionary sound id value range raw h None e is = absurd (cc)
typed_by dictionary sound id value range raw h (Some d) e is = back_by_name dictionary sound id d e value range h.held raw is h.within h.canonical

pub reads_back : (dictionary : Dictionary) → IsSound dictionary → (id : AttrId) (value : Value) → IsIdInRange id → IsValueInRange value → is_writable (record { id = id; value = value }) dictionary ≡ true → ReadsBack (record { id = id; value = value }) dictionary
reads_back dictionary sound id (Raw os) words range h = raw_back dictionary id os words range (writable_parts id (Raw os) dictionary h)
reads_back dictionary sound id value words range h = let w = writable_parts id value dictionary h in typed_by dictionary sound id value range refl w _ refl w.typed
