-- What is printed for a pair in the wider profile is read back.
use Rattle.std.proofs.Common.{◌≡◌, ◌∙◌, ℕ, ℤ, ◌≤◌, true, false, not, ◌&&◌, ◌||◌, ◌==◌, nat_le, nat_lt, List, [], ◌∷◌, ◌++◌, length, Option, Some, None, IfSome, is_some, Ok, refl, sym, ap, subst, arith, append-nil, le-leb, leb-true, option_map, option_and_then, unwrap_or}
use Rattle.std.specs.Option.{option_map_or}
use Rattle.std.proofs.NetLemmas.Options.{cond_none, cond_some}
use Rattle.std.proofs.lemmas.Bool.{and_parts, cond_both, not-true}
use Rattle.std.proofs.lemmas.Grind.{common_steps}
use Rattle.avp_lists.specs.declared.pairs.AttrId.{AttrId}
use Rattle.avp_lists.specs.declared.pairs.AttrId.TheVariants as ids
use Rattle.avp_lists.specs.declared.pairs.Value.{Value}
use Rattle.avp_lists.specs.declared.pairs.Value.TheVariants as values
use Rattle.avp_dict.specs.AttributeNumbers.{greatest_number, max_plain}
use Rattle.avp_dict.specs.Attributes.{is_held as is_held_by}
use Rattle.avp_dict.specs.Dictionary.{Dictionary, format_of, is_attribute_of, last_where}
use Rattle.avp_dict.specs.Limits.{greatest_length, is_known, is_within, max_long_octets, max_octets, vendor_room}
use Rattle.avp_dict.specs.Names.{Described, described, described_by, form_of, form_of_line, unless_three, vendor_format}
use Rattle.avp_dict.specs.Octets.{is_hidden, octets}
use Rattle.avp_dict.specs.Printing.{printed_name}
use Rattle.avp_dict.specs.Sent.{is_container, is_raw}
use Rattle.avp_dict.specs.Settled.{holds, is_in_format}
use Rattle.avp_dict.specs.Soundness.{IsSound}
use Rattle.avp_dict.specs.Vendors.{is_format}
use Rattle.avp_dict.specs.Types.{is_as_typed}
use Rattle.avp_dict.specs.Words.{is_hexadecimal}
use Rattle.avp_dict.specs.declared.entries.AttributeLine.{AttributeLine}
use Rattle.avp_dict.specs.declared.entries.Format.{Format}
use Rattle.avp_dict.specs.declared.entries.VendorFormat.{VendorFormat}
use Rattle.avp_dict.specs.declared.forms.Form.{Form}
use Rattle.avp_dict.specs.declared.forms.Form.TheVariants as forms
use Rattle.avp_dict.proofs.Fitting.{formats_known}
use Rattle.avp_dict.proofs.PrintedNames.{is_described, named_back}
use Rattle.avp_dict.proofs.Unescaping.{quoted_back}
use Rattle.avp_forms.specs.Dates.{date_text}
use Rattle.avp_forms.specs.Laws.{form_of_value, own_tag}
use Rattle.avp_forms.specs.PairLaws.{MeaningReadsBack, unquoted_meant}
use Rattle.avp_forms.specs.Printing.{meant_text, printed_meaning, printed_pair_name, printed_pair_text, tag_text, unless_octets}
use Rattle.avp_forms.specs.Targets.{has_tag, target_of}
use Rattle.avp_forms.specs.Texts.{form_spelled, printed_text, text_of, value_spelled}
use Rattle.avp_forms.specs.Values.{is_own, is_proper, max_tag, max_tagged_number, meaning, meaning_of_value, octets_of, tag_of, tagged_text_meant, value_of, with_tag}
use Rattle.avp_forms.specs.Written.{bars_text, meant_value, value_written}
use Rattle.avp_forms.specs.internal.Ranges.{AreBytesInRange, IsInRange}
use Rattle.avp_forms.specs.declared.profiles.Profile.TheVariants.{Wider}
use Rattle.avp_forms.specs.declared.values.FormValue.{FormValue}
use Rattle.avp_forms.specs.declared.values.FormValue.TheVariants.{Date, InterfaceId, Ipv4Prefix, Ipv6Address, Ipv6Prefix, TaggedNumber, TaggedText}
use Rattle.avp_forms.proofs.DateOctets.{date_fit}
use Rattle.avp_forms.proofs.HeldForms.{is_held}
use Rattle.avp_forms.proofs.OctetsMeant.{is_meant}
use Rattle.avp_forms.proofs.PrefixTexts.{same_octets}
use Rattle.avp_forms.proofs.Segments.{AreOctets}
use Rattle.avp_forms.proofs.TaggedTargets.{plain_target_back, tagged_target_back}
use Rattle.avp_forms.proofs.TextsBack.{text_back}

-- ---- what a value means

never_as_typed : (v : FormValue) → is_as_typed (form_of_value v) ≡ false
never_as_typed (Date n) = refl
never_as_typed (Ipv6Address os) = refl
never_as_typed (Ipv6Prefix os n) = refl
never_as_typed (Ipv4Prefix os n) = refl
never_as_typed (InterfaceId os) = refl
never_as_typed (TaggedNumber tag n) = refl
never_as_typed (TaggedText tag os) = refl

-- ---- how many octets there are

length_of : (v : FormValue) → IsInRange v → (form_of_value v ≡ forms.TaggedString → ⊥) → length (octets_of v) ≤ 18
unfolding octets_of
length_of (Ipv6Address os) h other = omega (arith, h.0)
length_of (Ipv6Prefix os n) h other = omega (arith, h.0)
length_of (Ipv4Prefix os n) h other = omega (arith, h.0)
length_of (InterfaceId os) h other = omega (arith, h.0)
length_of (Date n) h other = omega arith
length_of (TaggedNumber tag n) h other = omega arith
length_of (TaggedText tag os) h other = absurd (other refl)

text_short : (os : List ℕ) → length (octets_of (tagged_text_meant os)) ≤ length os
unfolding octets_of
text_short [] = omega arith
text_short (tag ∷ os) =
    cond_both (nat_le tag max_tag) (TaggedText tag os) (TaggedText 0 (tag ∷ os)) (λ v. length (octets_of v) ≤ length (tag ∷ os))
    (λ low. cond_both (tag == 0) os (tag ∷ os) (λ xs. length xs ≤ length (tag ∷ os)) (λ none. omega arith) (λ some. omega arith)) (λ high. omega arith)

short_other : (form : Form) (os : List ℕ) (meant : FormValue) → (form ≡ forms.TaggedString → ⊥) → IsInRange meant → form_of_value meant ≡ form → (most : ℕ) → 18 ≤ most → length (octets_of meant) ≤ most
short_other form os meant other range is most room =
    let low = length_of meant range (λ text. other (sym is ∙ text)) in
    omega (arith, low, room)

short_meant : (form : Form) (os : List ℕ) (meant : FormValue) → meaning form os ≡ Some meant → IsInRange meant → form_of_value meant ≡ form → (most : ℕ) → 18 ≤ most → length os ≤ most → length (octets_of meant) ≤ most
unfolding meaning
short_meant forms.TaggedString os meant e range is most room h =
    let same : tagged_text_meant os ≡ meant = cc in
    let short = text_short os in
    subst (λ (v : FormValue). length (octets_of v) ≤ most) same (omega (arith, short, h))
short_meant forms.AsTyped os meant e range is most room h = short_other forms.AsTyped os meant (λ t. cc) range is most room
short_meant forms.Ipv6Address os meant e range is most room h = short_other forms.Ipv6Address os meant (λ t. cc) range is most room
short_meant forms.Ipv6Prefix os meant e range is most room h = short_other forms.Ipv6Prefix os meant (λ t. cc) range is most room
short_meant forms.Ipv4Prefix os meant e range is most room h = short_other forms.Ipv4Prefix os meant (λ t. cc) range is most room
short_meant forms.InterfaceId os meant e range is most room h = short_other forms.InterfaceId os meant (λ t. cc) range is most room
short_meant forms.Date os meant e range is most room h = short_other forms.Date os meant (λ t. cc) range is most room
short_meant forms.TaggedInteger os meant e range is most room h = short_other forms.TaggedInteger os meant (λ t. cc) range is most room

module _ (d : Dictionary) (sound : IsSound d) where
  vendor_room_enough : (o : Option Format) → IfSome o (λ f. is_format f.t f.l ≡ true) → is_some o ≡ true → 18 ≤ option_map_or vendor_room o 0
  vendor_room_enough None h some = absurd (cc)
  vendor_room_enough (Some f) h some =
      let parts = and_parts ((f.t == 1) || (f.t == 2) || (f.t == 4)) (nat_le f.l 2) h in
      let low : f.l ≤ 2 = leb-true f.l 2 parts.1 in
      let few : f.t ≤ 4 = few_of f.t parts.0 in
      omega (arith, low, few)
    where
      few_of : (t : ℕ) → ((t == 1) || (t == 2) || (t == 4)) ≡ true → t ≤ 4
      few_of t h = grind (arith, common_steps)

  some_format : (n : ℕ) (o : Option VendorFormat) → holds n o ≡ true → is_some (option_and_then unless_three o) ≡ true
  some_format n None h = absurd (cc)
  some_format n (Some f) h =
      let two : f.third ≡ false = not-true f.third (and_parts (not f.third) (is_held_by n f) h).0 in
      rw two

  pub room_enough : (id : AttrId) → is_known id d ≡ true → is_hidden id d ≡ false → 18 ≤ greatest_length id d
  unfolding greatest_length max_octets is_known is_in_format vendor_format
  room_enough (ids.Plain n) known shown = rw shown (cond_both (nat_le n max_plain) 253 max_long_octets (λ m. 18 ≤ m) (λ h. omega arith) (λ h. omega arith))
  room_enough (ids.Vendor vendor n) known shown = rw shown (vendor_room_enough (vendor_format vendor d) (formats_known d sound vendor) (some_format n (format_of vendor d.vendors) known))
  room_enough (ids.Extended t n) known shown =
      rw shown (cond_both (nat_le 241 t && nat_le t 244) 252 _ (λ m. 18 ≤ m) (λ h. omega arith) (λ small.
      cond_both (nat_le 245 t && nat_le t 246) max_long_octets 0 (λ m. 18 ≤ m) (λ h. omega arith) (λ great.
      let never : nat_le 245 t ≡ true = grind (arith, common_steps, small, known) in
      absurd (grind (arith, common_steps, never, great, known)))))

-- ---- what a value means

record IsValueMeant (form : Form) (value : Value) (meant : FormValue) : Type 0 where
  of_form : form_of_value meant ≡ form
  range : IsInRange meant
  proper : is_proper meant ≡ true
  whole : is_raw value ≡ false
  number : (n : ℕ) → value ≡ values.Int n → value_of meant ≡ values.Int n
  own : (os : List ℕ) → value ≡ values.Bytes os → is_own form os ≡ true → octets_of meant ≡ os
  short : (most : ℕ) → 18 ≤ most → ((os : List ℕ) → value ≡ values.Bytes os → length os ≤ most) → length (octets_of meant) ≤ most

abbrev bytes_of : Value → List ℕ
bytes_of (values.Bytes os) = os
bytes_of value = []

meant_bytes : (form : Form) (os : List ℕ) (meant : FormValue) → AreOctets os → meaning form os ≡ Some meant → IsValueMeant form (values.Bytes os) meant
meant_bytes form os meant range e =
    let is = is_meant form os meant range e in
    record {
      of_form = is.of_form;
      range = is.range;
      proper = is.proper;
      whole = refl;
      number = λ n same. absurd (cc);
      own = λ xs same own.
          let same_os : os ≡ xs = ap bytes_of same in
          let equal = subst (λ (ys : List ℕ). is_own form ys ≡ true) (sym same_os) own in
          same_octets (octets_of meant) os (is.own ∙ equal) ∙ same_os;
      short = λ most room h. short_meant form os meant e is.range is.of_form most room (h os refl);
    }

meant_date : (n : ℕ) (meant : FormValue) → meaning_of_value forms.Date (values.Int n) ≡ Some meant → IsValueMeant forms.Date (values.Int n) meant
unfolding meaning_of_value is_proper value_of octets_of
meant_date n meant e =
    let some = cond_some (nat_le n greatest_number) (Date n) meant e in
    let low : n ≤ greatest_number = leb-true n greatest_number some.0 in
    subst (λ (v : FormValue). IsValueMeant forms.Date (values.Int n) v) some.1 (record {
      of_form = refl;
      range = omega (arith, low);
      proper = refl;
      whole = refl;
      number = λ m same. same;
      own = λ os same own. absurd (cc);
      short = λ most room h. omega (arith, room);
    })

value_meant : (form : Form) (value : Value) (meant : FormValue) → AreBytesInRange value → meaning_of_value form value ≡ Some meant → IsValueMeant form value meant
unfolding meaning_of_value
value_meant form (values.Bytes os) meant range e = meant_bytes form os meant range e
value_meant forms.Date (values.Int n) meant range e = meant_date n meant e
value_meant form value meant range e = absurd (cc)

-- ---- texts

unquoted_is : (d : Dictionary) (id : AttrId) (v : FormValue) → IsInRange v → unquoted_meant v (meant_text id v d) ≡ text_of id v d
unfolding printed_text text_of
unquoted_is d id (Date n) h = quoted_back (date_text n) (date_fit n h)
unquoted_is d id (TaggedText tag os) h = quoted_back os h
unquoted_is d id (Ipv6Address os) h = refl
unquoted_is d id (Ipv6Prefix os n) h = refl
unquoted_is d id (Ipv4Prefix os n) h = refl
unquoted_is d id (InterfaceId os) h = refl
unquoted_is d id (TaggedNumber tag n) h = refl

tag_facts : (v : FormValue) → is_proper v ≡ true → (tag : ℕ) → tag_of v ≡ Some tag → (has_tag (form_of_value v) ≡ true) × (tag ≤ max_tag)
unfolding tag_of is_proper
tag_facts (TaggedNumber own n) proper tag e =
    let same : own ≡ tag = cc in
    (refl, subst (λ (t : ℕ). t ≤ max_tag) same (leb-true own max_tag (and_parts (nat_le own max_tag) (nat_le n max_tagged_number) proper).0))
tag_facts (TaggedText own os) proper tag e =
    let same : own ≡ tag = cc in
    (refl, subst (λ (t : ℕ). t ≤ max_tag) same (leb-true own max_tag proper))
tag_facts (Date n) proper tag e = absurd (cc)
tag_facts (Ipv6Address os) proper tag e = absurd (cc)
tag_facts (Ipv6Prefix os n) proper tag e = absurd (cc)
tag_facts (Ipv4Prefix os n) proper tag e = absurd (cc)
tag_facts (InterfaceId os) proper tag e = absurd (cc)

-- a tag that is none too great bars no text but octets
free_tag : (t : Option ℕ) (text : List ℕ) → ((tag : ℕ) → t ≡ Some tag → tag ≤ max_tag) → is_hexadecimal text ≡ false → bars_text t text ≡ false
free_tag None text small plain = refl
free_tag (Some tag) text small plain =
    let fits = small tag refl in
    let no : nat_lt max_tag tag ≡ false = grind (arith, common_steps) in
    rw (no, plain) refl

-- ---- pairs

module _ (d : Dictionary) (sound : IsSound d) (id : AttrId) where
  some_described : (form : Form) → form_of id d ≡ Some form → (x : Described) × (described id d ≡ Some x)
  unfolding form_of described
  some_described form e = go (last_where (is_attribute_of id) d.attributes) e
    where
      go : (found : Option AttributeLine) → option_map form_of_line found ≡ Some form → (x : Described) × (option_map described_by found ≡ Some x)
      go None e = absurd (cc)
      go (Some a) e = (described_by a, refl)

  form_written : (form : Form) (meant : FormValue) (t : Option ℕ) (text : List ℕ) (offset : Option ℤ) → is_container id ≡ false → is_hexadecimal text ≡ false → bars_text t text ≡ false → form_of id d ≡ Some form → is_as_typed form ≡ false → option_map (with_tag (unwrap_or t 0)) (form_spelled form id offset text d) ≡ Some meant → nat_le (length (octets_of meant)) (greatest_length id d) ≡ true → value_written Wider (record { named = record { id = id; raw = false }; tag = t }) text offset d ≡ Ok (value_of meant)
  unfolding value_written value_spelled
  form_written form meant t text offset alone plain free formed typed back short =
      rw (alone, free, plain, formed, typed, back, short)

  module _ (value : Value) (meant : FormValue) where
    record IsPrinted : Type 0 where
      form : Form
      formed : form_of id d ≡ Some form
      is : IsValueMeant form value meant
      plain : is_hexadecimal (text_of id meant d) ≡ false

    printed_parts : AreBytesInRange value → printed_meaning id value d ≡ Some meant → IsPrinted
    unfolding printed_meaning meant_value
    printed_parts range e = by_form (form_of id d) refl e
      where
        by_meaning : (form : Form) → form_of id d ≡ Some form → (o : Option FormValue) → meaning_of_value form value ≡ o → option_and_then (unless_octets id d) o ≡ Some meant → IsPrinted
        by_meaning form formed None m at = absurd (cc)
        by_meaning form formed (Some v) m at =
            let kept = cond_none (is_hexadecimal (text_of id v d)) (Some v) meant at in
            let same : v ≡ meant = cc in
            record {
              form = form;
              formed = formed;
              is = value_meant form value meant range (m ∙ kept.1);
              plain = subst (λ (w : FormValue). is_hexadecimal (text_of id w d) ≡ false) same kept.0;
            }

        by_form : (o : Option Form) → form_of id d ≡ o → option_and_then (unless_octets id d) (option_and_then (λ form. meaning_of_value form value) o) ≡ Some meant → IsPrinted
        by_form None formed at = absurd (cc)
        by_form (Some form) formed at = by_meaning form formed (meaning_of_value form value) refl at

    name_is : (x : Described) → described id d ≡ Some x → is_container id ≡ false → is_raw value ≡ false → (t : Option ℕ) → tag_of meant ≡ t → printed_meaning id value d ≡ Some meant → printed_pair_name Wider id value d ≡ x.name ++ tag_text t
    unfolding printed_pair_name printed_name
    name_is x at alone whole t tag printed = rw (printed, alone, whole, at, tag)

    text_is : printed_meaning id value d ≡ Some meant → printed_pair_text Wider id value d ≡ meant_text id meant d
    unfolding printed_pair_text
    text_is printed = rw printed

    target_back : (x : Described) → described id d ≡ Some x → (form : Form) → form_of id d ≡ Some form → form_of_value meant ≡ form → is_proper meant ≡ true → (t : Option ℕ) → tag_of meant ≡ t → target_of Wider d (x.name ++ tag_text t) ≡ Some (record { named = record { id = id; raw = false }; tag = t })
    target_back x at form formed is proper None tag = rw append-nil (plain_target_back d sound x.name (record { id = id; raw = false }) (named_back d sound id x at))
    target_back x at form formed is proper (Some tag) e =
        let line = is_described d sound id x at in
        let facts = tag_facts meant proper tag e in
        let tags : has_tag form ≡ true = subst (λ (f : Form). has_tag f ≡ true) is facts.0 in
        tagged_target_back d sound x.name (record { id = id; raw = false }) tag form line.keeps.spelled line.keeps.named (named_back d sound id x at) refl formed tags facts.1

    value_short : (form : Form) → IsValueMeant form value meant → is_known id d ≡ true → is_hidden id d ≡ false → is_within id value d ≡ true → length (octets_of meant) ≤ greatest_length id d
    unfolding octets
    value_short form is known shown within =
        is.short (greatest_length id d) (room_enough d sound id known shown) (λ os same.
        let held : is_within id (values.Bytes os) d ≡ true = subst (λ (v : Value). is_within id v d ≡ true) same within in
        leb-true (length os) (greatest_length id d) (and_parts (nat_le (length os) (greatest_length id d)) _ held).0)

    pub meaning_reads_back : is_known id d ≡ true → is_within id value d ≡ true → is_container id ≡ false → AreBytesInRange value → printed_meaning id value d ≡ Some meant → MeaningReadsBack (record { id = id; value = value }) meant d
    meaning_reads_back known within alone range printed =
        let parts = printed_parts range printed in
        let form = parts.form in
        let is = parts.is in
        let typed : is_as_typed form ≡ false = subst (λ (f : Form). is_as_typed f ≡ false) is.of_form (never_as_typed meant) in
        let held = is_held d id sound form parts.formed typed in
        let x = some_described form parts.formed in
        let short = le-leb (length (octets_of meant)) (greatest_length id d) (value_short form is known held.shown within) in
        let text = unquoted_is d id meant is.range in
        record {
          target = record { named = record { id = id; raw = false }; tag = tag_of meant };
          targeted = rw (name_is x.0 x.1 alone is.whole (tag_of meant) refl printed) (target_back x.0 x.1 form parts.formed is.of_form is.proper (tag_of meant) refl);
          same = refl;
          written = λ offset.
              rw (text_is printed, text)
              (form_written form meant (tag_of meant) (text_of id meant d) offset alone parts.plain (free_tag (tag_of meant) (text_of id meant d) (λ tag at. (tag_facts meant is.proper tag at).1) parts.plain) parts.formed typed
              (subst (λ (f : Form). option_map (with_tag (own_tag meant)) (form_spelled f id offset (text_of id meant d) d) ≡ Some meant) is.of_form (text_back d sound meant id is.range is.proper offset)) short);
          number = is.number;
          own = λ os same f formed_too own.
              let f_is : form ≡ f = cc (parts.formed, formed_too) in
              is.own os same (subst (λ (g : Form). is_own g os ≡ true) (sym f_is) own);
        }
