-- The text of a value, read with its tag, is the value.
use Rattle.std.proofs.Common.{◌≡◌, ℕ, ◌≤◌, ℤ, true, leb, List, Option, Some, None, option_map, decimal, refl, ap, arith, le-leb, leb-true}
use Rattle.std.specs.Option.{unwrap_or}
use Rattle.std.specs.Str.{bytes_eq}
use Rattle.std.proofs.lemmas.Bool.{and_parts}
use Rattle.avp_lists.specs.declared.pairs.AttrId.{AttrId}
use Rattle.avp_dict.specs.Dictionary.{Dictionary, tagged_name_numbered}
use Rattle.avp_dict.specs.Soundness.{IsSound}
use Rattle.avp_dict.proofs.Numerals.{decimal_numeral, number_of_numeral}
use Rattle.avp_dict.proofs.Unescaping.{quoted_back}
use Rattle.avp_forms.specs.Laws.{PrintsOctets, ReadsBack, form_of_value, own_tag, unquoted}
use Rattle.avp_forms.specs.Numerals.{number_up_to}
use Rattle.avp_forms.specs.Prefixes.{masked}
use Rattle.avp_forms.specs.Texts.{form_spelled, ipv4_prefix_value, ipv6_prefix_value, printed_octets, printed_text, tagged_number_spelled, text_of, untagged_number}
use Rattle.avp_forms.specs.Values.{is_proper, max_tagged_number, tag_of, with_tag}
use Rattle.avp_forms.specs.internal.Ranges.{IsInRange}
use Rattle.avp_forms.specs.declared.values.FormValue.{FormValue}
use Rattle.avp_forms.specs.declared.values.FormValue.TheVariants.{Date, InterfaceId, Ipv4Prefix, Ipv6Address, Ipv6Prefix, TaggedNumber, TaggedText}
use Rattle.avp_forms.proofs.AddressLaws.{address_back}
use Rattle.avp_forms.proofs.DateTexts.{date_back}
use Rattle.avp_forms.proofs.GroupTexts.{interface_id_back}
use Rattle.avp_forms.proofs.OctetsMeant.{is_meant}
use Rattle.avp_forms.proofs.Segments.{AreOctets}
use Rattle.avp_forms.proofs.TaggedNames.{tagged_name_back}
use Rattle.avp_dict.specs.declared.forms.Form.{Form}
use Rattle.avp_forms.proofs.PrefixTexts.{ipv4_prefix_back, ipv6_prefix_back, same_octets}

module _ (dictionary : Dictionary) (sound : IsSound dictionary) where
  number_or : (id : AttrId) (n : ℕ) → n ≤ max_tagged_number → (name : Option (List ℕ)) → tagged_name_numbered id n dictionary.tagged_values ≡ name → tagged_number_spelled id (unwrap_or name (decimal n)) dictionary ≡ Some n
  unfolding tagged_number_spelled number_up_to
  number_or id n h None e = rw (number_of_numeral n (decimal n) (decimal_numeral n (omega arith)), le-leb n max_tagged_number h)
  number_or id n h (Some name) e =
      let is = tagged_name_back dictionary sound id n name e in
      rw (is.0, is.1, le-leb n max_tagged_number h)

  pub text_back : (value : FormValue) (id : AttrId) → IsInRange value → is_proper value ≡ true → (offset : Option ℤ) → option_map (with_tag (own_tag value)) (form_spelled (form_of_value value) id offset (text_of id value dictionary) dictionary) ≡ Some value
  unfolding with_tag tag_of form_spelled text_of is_proper
  text_back (Ipv6Address os) id h proper offset = ap (λ (o : Option (List ℕ)). option_map (with_tag 0) (option_map (λ (xs : List ℕ). Ipv6Address xs) o)) (address_back os h.0 h.1)
  text_back (Ipv6Prefix os n) id h proper offset =
      let parts = and_parts (leb n 128) (bytes_eq (masked n os) os) proper in
      ap (λ (o : Option (List ℕ × ℕ)). option_map (with_tag 0) (option_map ipv6_prefix_value o))
      (ipv6_prefix_back os n h.0 h.1 (leb-true n 128 parts.0) (same_octets (masked n os) os parts.1))
  text_back (Ipv4Prefix os n) id h proper offset =
      let parts = and_parts (leb n 32) (bytes_eq (masked n os) os) proper in
      ap (λ (o : Option (List ℕ × ℕ)). option_map (with_tag 0) (option_map ipv4_prefix_value o))
      (ipv4_prefix_back os n h.0 h.1 (leb-true n 32 parts.0) (same_octets (masked n os) os parts.1))
  text_back (InterfaceId os) id h proper offset = ap (λ (o : Option (List ℕ)). option_map (with_tag 0) (option_map (λ (xs : List ℕ). InterfaceId xs) o)) (interface_id_back os h.0 h.1)
  text_back (Date n) id h proper offset = ap (λ (o : Option ℕ). option_map (with_tag 0) (option_map (λ (m : ℕ). Date m) o)) (date_back offset n h)
  text_back (TaggedNumber tag n) id h proper offset =
      let parts = and_parts (leb tag 31) (leb n max_tagged_number) proper in
      ap (λ (o : Option ℕ). option_map (with_tag tag) (option_map untagged_number o))
      (number_or id n (leb-true n max_tagged_number parts.1) (tagged_name_numbered id n dictionary.tagged_values) refl)
  text_back (TaggedText tag os) id h proper offset = refl

  printed_back : (value : FormValue) (id : AttrId) → IsInRange value → is_proper value ≡ true → (offset : Option ℤ) → option_map (with_tag (own_tag value)) (form_spelled (form_of_value value) id offset (unquoted value (printed_text id value dictionary)) dictionary) ≡ Some value
  unfolding with_tag tag_of form_spelled printed_text
  printed_back (TaggedText tag os) id h proper offset = ap (λ (xs : List ℕ). Some (TaggedText tag xs)) (quoted_back os h)
  printed_back value id h proper offset = text_back value id h proper offset

  pub reads_back : (value : FormValue) (id : AttrId) → IsInRange value → is_proper value ≡ true → ReadsBack value id dictionary
  reads_back value id h proper = record {
    text = text_back value id h proper;
    printed = printed_back value id h proper;
  }

  pub prints_octets : (form : Form) (os : List ℕ) (id : AttrId) → AreOctets os → PrintsOctets form os id dictionary
  unfolding printed_octets
  prints_octets form os id h = record {
    read = λ value e.
        let is = is_meant form os value h e in
        (rw e, reads_back value id is.range is.proper, is.of_form, is.own);
    raw = λ e. rw e;
  }
