-- Pairs that the wider profile prints as the plain one does are read back in it.
use Rattle.std.proofs.Common.{◌≡◌, ◌∙◌, ℕ, ℤ, ◌≤◌, true, false, not, ◌&&◌, ◌||◌, nat_le, List, decimal, Option, Some, None, Result, Ok, refl, sym, ap, subst, arith, append-nil, le-leb, leb-true, option_map}
use Rattle.std.specs.Option.{option_map_or}
use Rattle.std.proofs.lemmas.Bool.{and_parts, cond_both, false≢true, not-true, or_parts}
use Rattle.avp_lists.specs.declared.pairs.AttrId.{AttrId}
use Rattle.avp_lists.specs.declared.pairs.Pair.{Pair}
use Rattle.avp_lists.specs.declared.pairs.Value.{Value}
use Rattle.avp_lists.specs.declared.pairs.Value.TheVariants as values
use Rattle.avp_dict.specs.AttributeNumbers.{greatest_number}
use Rattle.avp_dict.specs.Dictionary.{Dictionary}
use Rattle.avp_dict.specs.Laws.{ReadsBack, is_writable, unquoted}
use Rattle.avp_dict.specs.Limits.{fits, greatest_length, is_known, is_of_kind, is_typed, is_within}
use Rattle.avp_dict.specs.Names.{Described, described, form_of}
use Rattle.avp_dict.specs.Octets.{kind_described, kind_of}
use Rattle.avp_dict.specs.Printing.{printed_name, printed_text, text_by}
use Rattle.avp_dict.specs.Sent.{is_canonical, is_container, is_raw}
use Rattle.avp_dict.specs.Soundness.{IsSound}
use Rattle.avp_dict.specs.Spellings as typed
use Rattle.avp_dict.specs.Types.{is_as_typed, is_kind_of_form}
use Rattle.avp_dict.specs.Words.{is_hexadecimal}
use Rattle.avp_dict.specs.declared.entries.Kind.{Kind}
use Rattle.avp_dict.specs.declared.entries.Kind.TheVariants as kinds
use Rattle.avp_dict.specs.declared.entries.Named.{Named}
use Rattle.avp_dict.specs.declared.forms.Form.{Form}
use Rattle.avp_dict.specs.declared.forms.Form.TheVariants as forms
use Rattle.avp_dict.specs.declared.value.faults.ValueFault.{ValueFault}
use Rattle.avp_dict.proofs.Numerals.{decimal_numeral, number_of_numeral}
use Rattle.avp_forms.specs.Dates.{date_spelled}
use Rattle.avp_forms.specs.Numerals.{number_up_to}
use Rattle.avp_forms.specs.PairLaws.{PairReadsBack, PlainReadsBack}
use Rattle.avp_forms.specs.Printing.{printed_meaning, printed_pair_name, printed_pair_text}
use Rattle.avp_forms.specs.Targets.{untagged}
use Rattle.avp_forms.specs.Texts.{form_spelled, value_spelled}
use Rattle.avp_forms.specs.Values.{octets_of, value_of, with_tag}
use Rattle.avp_forms.specs.Written.{as_pair_value, has_typed_values, is_read_by_type, value_written}
use Rattle.avp_forms.specs.internal.Ranges.{AreBytesInRange}
use Rattle.avp_forms.specs.declared.profiles.Profile.TheVariants.{Wider}
use Rattle.avp_forms.proofs.HeldForms.{IsHeld, is_held, kind_of_date, kind_of_octets}
use Rattle.avp_forms.proofs.NotBarred.{not_barred}
use Rattle.avp_forms.proofs.PrintedPairs.{meaning_reads_back, room_enough}
use Rattle.avp_forms.proofs.TaggedTargets.{plain_target_back}

-- ---- values that are held for a form

-- octets and raw octets, and numbers of 32 bits for a date
abbrev IsHeldValue : Form → Value → Type 0
IsHeldValue form (values.Bytes os) = Unit {0}
IsHeldValue form (values.Raw os) = Unit {0}
IsHeldValue form (values.Int n) = (form ≡ forms.Date) × (n ≤ greatest_number)
IsHeldValue form value = ⊥

of_octets : (form : Form) (value : Value) → is_raw value ≡ false → is_of_kind value kinds.Bytes ≡ true → IsHeldValue form value
of_octets form (values.Bytes os) raw h = tt
of_octets form (values.Raw os) raw h = tt
of_octets form value raw h = absurd (cc)

of_date : (value : Value) → is_raw value ≡ false → is_of_kind value kinds.Date ≡ true → IsHeldValue forms.Date value
of_date (values.Int n) raw h = (refl, leb-true n greatest_number h)
of_date (values.Raw os) raw h = tt
of_date value raw h = absurd (cc)

module _ (d : Dictionary) (sound : IsSound d) (id : AttrId) where
  typed_kind : (kind : Kind) (value : Value) → kind_of id d ≡ Some kind → is_raw value ≡ false → is_typed id value d ≡ true → is_of_kind value kind ≡ true
  typed_kind kind (values.Raw os) k raw h = absurd (cc)
  typed_kind kind (values.Text os) k raw h = rw k at h
  typed_kind kind (values.Bytes os) k raw h = rw k at h
  typed_kind kind (values.Addr os) k raw h = rw k at h
  typed_kind kind (values.Ether os) k raw h = rw k at h
  typed_kind kind (values.Int n) k raw h = rw k at h
  typed_kind kind (values.Signed z) k raw h = rw k at h

  held_value : (form : Form) (value : Value) → IsHeld d id form → is_as_typed form ≡ false → is_raw value ≡ false → is_typed id value d ≡ true → IsHeldValue form value
  held_value forms.AsTyped value h other raw is = absurd (cc)
  held_value forms.Date value h other raw is = of_date value raw (subst (λ (k : Kind). is_of_kind value k ≡ true) (kind_of_date h.kind h.held) (typed_kind h.kind value h.kind_is raw is))
  held_value forms.Ipv6Address value h other raw is = of_octets forms.Ipv6Address value raw (subst (λ (k : Kind). is_of_kind value k ≡ true) (kind_of_octets forms.Ipv6Address h.kind h.held (λ e. cc)) (typed_kind h.kind value h.kind_is raw is))
  held_value forms.Ipv6Prefix value h other raw is = of_octets forms.Ipv6Prefix value raw (subst (λ (k : Kind). is_of_kind value k ≡ true) (kind_of_octets forms.Ipv6Prefix h.kind h.held (λ e. cc)) (typed_kind h.kind value h.kind_is raw is))
  held_value forms.Ipv4Prefix value h other raw is = of_octets forms.Ipv4Prefix value raw (subst (λ (k : Kind). is_of_kind value k ≡ true) (kind_of_octets forms.Ipv4Prefix h.kind h.held (λ e. cc)) (typed_kind h.kind value h.kind_is raw is))
  held_value forms.InterfaceId value h other raw is = of_octets forms.InterfaceId value raw (subst (λ (k : Kind). is_of_kind value k ≡ true) (kind_of_octets forms.InterfaceId h.kind h.held (λ e. cc)) (typed_kind h.kind value h.kind_is raw is))
  held_value forms.TaggedInteger value h other raw is = of_octets forms.TaggedInteger value raw (subst (λ (k : Kind). is_of_kind value k ≡ true) (kind_of_octets forms.TaggedInteger h.kind h.held (λ e. cc)) (typed_kind h.kind value h.kind_is raw is))
  held_value forms.TaggedString value h other raw is = of_octets forms.TaggedString value raw (subst (λ (k : Kind). is_of_kind value k ≡ true) (kind_of_octets forms.TaggedString h.kind h.held (λ e. cc)) (typed_kind h.kind value h.kind_is raw is))

  -- ---- their texts

  raw_text : (os : List ℕ) → is_hexadecimal (unquoted (values.Raw os) (printed_text id (values.Raw os) d)) ≡ true
  unfolding printed_text
  raw_text os = cond_both (is_container id || true) _ _ (λ text. is_hexadecimal text ≡ true) (λ h. refl) (λ h. absurd (cc ((or_parts (is_container id) true h).1)))

  bytes_text : (os : List ℕ) → is_container id ≡ false → is_hexadecimal (unquoted (values.Bytes os) (printed_text id (values.Bytes os) d)) ≡ true
  unfolding printed_text
  bytes_text os alone = rw alone (go (described id d))
    where
      go : (o : Option Described) → is_hexadecimal (text_by id (values.Bytes os) d o) ≡ true
      go None = refl
      go (Some x) = refl

  date_text_is : (n : ℕ) → is_container id ≡ false → kind_of id d ≡ Some kinds.Date → unquoted (values.Int n) (printed_text id (values.Int n) d) ≡ decimal n
  unfolding printed_text
  date_text_is n alone k = rw alone (go (described id d) k)
    where
      go : (o : Option Described) → option_map kind_described o ≡ Some kinds.Date → text_by id (values.Int n) d o ≡ decimal n
      go None e = absurd (cc)
      go (Some x) e = let is : x.kind ≡ kinds.Date = cc in rw is

  -- ---- what is read

  date_written : (n : ℕ) (offset : Option ℤ) → n ≤ greatest_number → form_of id d ≡ Some forms.Date → 18 ≤ greatest_length id d → as_pair_value (value_spelled id 0 offset (decimal n) d) ≡ Ok (values.Int n)
  unfolding value_spelled form_spelled date_spelled number_up_to with_tag octets_of value_of
  date_written n offset low formed room =
      let number = number_of_numeral n (decimal n) (decimal_numeral n (omega (arith, low))) in
      let short : nat_le 4 (greatest_length id d) ≡ true = le-leb 4 (greatest_length id d) (omega (arith, room)) in
      rw (formed, number, le-leb n greatest_number low, short)

  by_form_written : (form : Form) (value : Value) (offset : Option ℤ) → form_of id d ≡ Some form → IsHeld d id form → is_known id d ≡ true → is_container id ≡ false → IsHeldValue form value → is_hexadecimal (unquoted value (printed_text id value d)) ≡ false → as_pair_value (value_spelled id 0 offset (unquoted value (printed_text id value d)) d) ≡ Ok value
  by_form_written form (values.Bytes os) offset formed h known alone held plain = absurd (false≢true (sym plain ∙ bytes_text os alone))
  by_form_written form (values.Raw os) offset formed h known alone held plain = absurd (false≢true (sym plain ∙ raw_text os))
  by_form_written form (values.Int n) offset formed h known alone held plain =
      let date_kind = kind_of_date h.kind (subst (λ (f : Form). is_kind_of_form f h.kind ≡ true) held.0 h.held) in
      let text = date_text_is n alone (h.kind_is ∙ ap (λ (k : Kind). Some k) date_kind) in
      let date_form : form_of id d ≡ Some forms.Date = formed ∙ ap (λ (f : Form). Some f) held.0 in
      rw text (date_written n offset held.1 date_form (room_enough d sound id known h.shown))
  by_form_written form value offset formed h known alone held plain = absurd held

  held_any : (form : Form) (value : Value) → IsHeld d id form → is_as_typed form ≡ false → is_typed id value d ≡ true → IsHeldValue form value
  held_any form (values.Raw os) h other is = tt
  held_any form (values.Text os) h other is = held_value form (values.Text os) h other refl is
  held_any form (values.Bytes os) h other is = tt
  held_any form (values.Int n) h other is = held_value form (values.Int n) h other refl is
  held_any form (values.Signed z) h other is = held_value form (values.Signed z) h other refl is
  held_any form (values.Addr os) h other is = held_value form (values.Addr os) h other refl is
  held_any form (values.Ether os) h other is = held_value form (values.Ether os) h other refl is

  form_found : (value : Value) (offset : Option ℤ) → is_known id d ≡ true → is_container id ≡ false → is_typed id value d ≡ true → has_typed_values id d ≡ false → is_hexadecimal (unquoted value (printed_text id value d)) ≡ false → as_pair_value (value_spelled id 0 offset (unquoted value (printed_text id value d)) d) ≡ Ok value
  form_found value offset known alone is other plain = go (form_of id d) refl other
    where
      go : (o : Option Form) → form_of id d ≡ o → option_map_or is_as_typed o true ≡ false → as_pair_value (value_spelled id 0 offset (unquoted value (printed_text id value d)) d) ≡ Ok value
      go None formed none = absurd (cc)
      go (Some form) formed some =
          let h = is_held d id sound form formed some in
          by_form_written form value offset formed h known alone (held_any form value h some is) plain

  plain_written : (name : Named) (value : Value) (offset : Option ℤ) → name.id ≡ id → is_known id d ≡ true → is_container id ≡ false → is_typed id value d ≡ true → typed.value_spelled name (unquoted value (printed_text id value d)) d ≡ Ok value → value_written Wider (untagged name) (unquoted value (printed_text id value d)) offset d ≡ Ok value
  unfolding value_written
  plain_written name value offset same known alone is spelled =
      let text = unquoted value (printed_text id value d) in
      let free = not_barred d name text value spelled in
      rw free (cond_both (is_read_by_type (untagged name) text d) _ _ (λ (r : Result Value ValueFault). r ≡ Ok value) (λ by_type. spelled) (λ by_form.
      let first = or_parts (name.raw || has_typed_values name.id d) (is_hexadecimal text) by_form in
      let other = subst (λ (i : AttrId). has_typed_values i d ≡ false) same (or_parts name.raw (has_typed_values name.id d) first.0).1 in
      subst (λ (i : AttrId). as_pair_value (value_spelled i 0 offset text d) ≡ Ok value) (sym same) (form_found value offset known alone is other first.1)))

  -- ---- pairs

  name_is : (value : Value) → printed_meaning id value d ≡ None → printed_pair_name Wider id value d ≡ printed_name id value d
  unfolding printed_pair_name
  name_is value none = rw (none, append-nil)

  text_is : (value : Value) → printed_meaning id value d ≡ None → printed_pair_text Wider id value d ≡ printed_text id value d
  unfolding printed_pair_text
  text_is value none = rw none

  plain_reads_back : (value : Value) → is_known id d ≡ true → is_container id ≡ false → is_typed id value d ≡ true → ReadsBack (record { id = id; value = value }) d → printed_meaning id value d ≡ None → PlainReadsBack (record { id = id; value = value }) d
  plain_reads_back value known alone is back none = record {
    target = untagged back.name;
    targeted = rw (name_is value none) (plain_target_back d sound (printed_name id value d) back.name back.named);
    same = back.same;
    written = λ offset. rw (text_is value none) (plain_written back.name value offset back.same known alone is back.spelled);
  }

record IsWritten (pair : Pair) (d : Dictionary) : Type 0 where
  known : is_known pair.id d ≡ true
  typed : is_typed pair.id pair.value d ≡ true
  within : is_within pair.id pair.value d ≡ true
  alone : is_container pair.id ≡ false

written_parts : (pair : Pair) (d : Dictionary) → is_writable pair d ≡ true → IsWritten pair d
unfolding is_writable is_canonical fits
written_parts pair d h =
    let a = and_parts (is_canonical pair d && not (is_container pair.id)) _ h in
    let b = and_parts (is_canonical pair d) (not (is_container pair.id)) a.0 in
    let c = and_parts (fits pair d) _ b.0 in
    let e = and_parts (is_known pair.id d && is_typed pair.id pair.value d) (is_within pair.id pair.value d) c.0 in
    let f = and_parts (is_known pair.id d) (is_typed pair.id pair.value d) e.0 in
    record { known = f.0; typed = f.1; within = e.1; alone = not-true (is_container pair.id) b.1 }

pub pair_reads_back : (d : Dictionary) → IsSound d → (pair : Pair) → is_writable pair d ≡ true → AreBytesInRange pair.value → ReadsBack pair d → PairReadsBack pair d
pair_reads_back d sound pair writable range back =
    let is = written_parts pair d writable in
    record {
      meaning = λ meant printed. meaning_reads_back d sound pair.id pair.value meant is.known is.within is.alone range printed;
      plain = plain_reads_back d sound pair.id pair.value is.known is.alone is.typed back;
    }
