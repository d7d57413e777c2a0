-- Values of a form are values of the attribute's type.
use Rattle.std.proofs.Common.{◌≡◌, ℕ, Bool, true, false, not, ◌&&◌, ◌||◌, nat_le, length, List, Option, Some, None, refl, subst, option_map}
use Rattle.std.proofs.lemmas.Bool.{and_parts, not-true}
use Rattle.avp_lists.specs.declared.pairs.AttrId.{AttrId}
use Rattle.avp_lists.specs.declared.pairs.Value.TheVariants as values
use Rattle.avp_dict.specs.AttributeNumbers.{greatest_number}
use Rattle.avp_dict.specs.Dictionary.{Dictionary, is_attribute_of, last_where}
use Rattle.avp_dict.specs.Limits.{greatest_length, is_known, is_typed, is_within}
use Rattle.avp_dict.specs.Names.{described, described_by, form_of, form_of_line}
use Rattle.avp_dict.specs.Octets.{is_hidden, kind_of, octets}
use Rattle.avp_dict.specs.Requests.{pair_with}
use Rattle.avp_dict.specs.Sent.{is_clean_pair, is_container, is_raw}
use Rattle.avp_dict.specs.Soundness.{IsSound, IsSoundAttribute}
use Rattle.avp_dict.specs.Types.{is_as_typed, is_kind_of_form}
use Rattle.avp_dict.specs.declared.entries.AttributeLine.{AttributeLine}
use Rattle.avp_dict.specs.declared.entries.Kind.{Kind}
use Rattle.avp_dict.specs.declared.entries.Kind.TheVariants as kinds
use Rattle.avp_dict.specs.declared.forms.Form.{Form}
use Rattle.avp_dict.specs.declared.forms.Form.TheVariants as forms
use Rattle.avp_dict.specs.declared.entries.Named.{Named}
use Rattle.avp_dict.proofs.Fitting.{fits_by}
use Rattle.avp_dict.proofs.OwnValues.{IsSized, typed_canonical}
use Rattle.avp_dict.proofs.PrintedNames.{last_holds}
use Rattle.avp_forms.specs.Laws.{form_of_value}
use Rattle.avp_forms.specs.Values.{octets_of, value_of}
use Rattle.avp_forms.specs.declared.values.FormValue.{FormValue}
use Rattle.avp_forms.specs.declared.values.FormValue.TheVariants.{Date, InterfaceId, Ipv4Prefix, Ipv6Address, Ipv6Prefix, TaggedNumber, TaggedText}

-- a date is a number of 32 bits
abbrev pub IsLow : FormValue → Type 0
IsLow (Date n) = nat_le n greatest_number ≡ true
IsLow value = Unit {0}

pub kind_of_date : (kind : Kind) → is_kind_of_form forms.Date kind ≡ true → kind ≡ kinds.Date
kind_of_date kinds.Date h = refl
kind_of_date _ h = absurd (cc)

pub kind_of_octets : (form : Form) (kind : Kind) → is_kind_of_form form kind ≡ true → (form ≡ forms.Date → ⊥) → kind ≡ kinds.Bytes
kind_of_octets forms.Date kind h other = absurd (other refl)
kind_of_octets _ kinds.Bytes h other = refl
kind_of_octets _ _ h other = absurd (cc)

module _ (d : Dictionary) (id : AttrId) where
  -- the type of an id whose values stand for more than it
  pub record IsHeld (form : Form) : Type 0 where
    pub kind : Kind
    pub kind_is : kind_of id d ≡ Some kind
    pub shown : is_hidden id d ≡ false
    pub held : is_kind_of_form form kind ≡ true

  formed_parts : (form : Form) (hidden held : Bool) → (is_as_typed form || (not hidden && held)) ≡ true → is_as_typed form ≡ false → (hidden ≡ false) × (held ≡ true)
  formed_parts form hidden held h other =
      let both : (not hidden && held) ≡ true = rw other at h in
      let parts = and_parts (not hidden) held both in
      (not-true hidden parts.0, parts.1)

  held_by : IsSound d → (found : Option AttributeLine) → last_where (is_attribute_of id) d.attributes ≡ found → (form : Form) → option_map form_of_line found ≡ Some form → is_as_typed form ≡ false → option_map described_by found ≡ described id d → IsHeld form
  held_by sound None at form e other is = absurd (cc)
  held_by sound (Some a) at form e other is =
      let line = last_holds (IsSoundAttribute d) (is_attribute_of id) d.attributes a sound.attributes at in
      let same : a.typing.form ≡ form = cc in
      let parts = formed_parts a.typing.form a.typing.hidden (is_kind_of_form a.typing.form a.typing.kind) line.0.formed (rw same other) in
      record {
        kind = a.typing.kind;
        kind_is = rw (← is) refl;
        shown = rw (← is) parts.0;
        held = subst (λ (f : Form). is_kind_of_form f a.typing.kind ≡ true) same parts.1;
      }

  pub is_held : IsSound d → (form : Form) → form_of id d ≡ Some form → is_as_typed form ≡ false → IsHeld form
  unfolding form_of described
  is_held sound form e other = held_by sound (last_where (is_attribute_of id) d.attributes) refl form e other refl

  -- ---- a value of the form

  bytes_typed : (os : List ℕ) (form : Form) (h : IsHeld form) → (form ≡ forms.Date → ⊥) → is_typed id (values.Bytes os) d ≡ true
  bytes_typed os form h other =
      let octets_kind = kind_of_octets form h.kind h.held other in
      rw (h.kind_is, octets_kind)

  value_typed : (v : FormValue) → IsHeld (form_of_value v) → IsLow v → is_typed id (value_of v) d ≡ true
  unfolding value_of
  value_typed (Date n) h low =
      let date_kind = kind_of_date h.kind h.held in
      rw (h.kind_is, date_kind) low
  value_typed (Ipv6Address os) h low = bytes_typed (octets_of (Ipv6Address os)) forms.Ipv6Address h (λ e. cc)
  value_typed (Ipv6Prefix os n) h low = bytes_typed (octets_of (Ipv6Prefix os n)) forms.Ipv6Prefix h (λ e. cc)
  value_typed (Ipv4Prefix os n) h low = bytes_typed (octets_of (Ipv4Prefix os n)) forms.Ipv4Prefix h (λ e. cc)
  value_typed (InterfaceId os) h low = bytes_typed (octets_of (InterfaceId os)) forms.InterfaceId h (λ e. cc)
  value_typed (TaggedNumber tag n) h low = bytes_typed (octets_of (TaggedNumber tag n)) forms.TaggedInteger h (λ e. cc)
  value_typed (TaggedText tag os) h low = bytes_typed (octets_of (TaggedText tag os)) forms.TaggedString h (λ e. cc)

  bytes_within : (os : List ℕ) → is_hidden id d ≡ false → nat_le (length os) (greatest_length id d) ≡ true → is_within id (values.Bytes os) d ≡ true
  unfolding octets
  bytes_within os shown short = rw (short, shown)

  value_within : (v : FormValue) → IsHeld (form_of_value v) → nat_le (length (octets_of v)) (greatest_length id d) ≡ true → is_within id (value_of v) d ≡ true
  unfolding value_of octets octets_of
  value_within (Date n) h short =
      let date_kind = kind_of_date h.kind h.held in
      rw (h.kind_is, date_kind, h.shown, short)
  value_within (Ipv6Address os) h short = bytes_within (octets_of (Ipv6Address os)) h.shown short
  value_within (Ipv6Prefix os n) h short = bytes_within (octets_of (Ipv6Prefix os n)) h.shown short
  value_within (Ipv4Prefix os n) h short = bytes_within (octets_of (Ipv4Prefix os n)) h.shown short
  value_within (InterfaceId os) h short = bytes_within (octets_of (InterfaceId os)) h.shown short
  value_within (TaggedNumber tag n) h short = bytes_within (octets_of (TaggedNumber tag n)) h.shown short
  value_within (TaggedText tag os) h short = bytes_within (octets_of (TaggedText tag os)) h.shown short

value_whole : (v : FormValue) → (is_raw (value_of v) ≡ false) × IsSized (value_of v)
unfolding value_of
value_whole (Date n) = (refl, tt)
value_whole (Ipv6Address os) = (refl, tt)
value_whole (Ipv6Prefix os n) = (refl, tt)
value_whole (Ipv4Prefix os n) = (refl, tt)
value_whole (InterfaceId os) = (refl, tt)
value_whole (TaggedNumber tag n) = (refl, tt)
value_whole (TaggedText tag os) = (refl, tt)

-- the pair of a value of the attribute's form is clean
pub form_value_clean : (d : Dictionary) (n : Named) (v : FormValue) → is_known n.id d ≡ true → is_container n.id ≡ false → IsHeld d n.id (form_of_value v) → IsLow v → nat_le (length (octets_of v)) (greatest_length n.id d) ≡ true → is_clean_pair d (pair_with n (value_of v)) ≡ true
form_value_clean d n v known alone h low short =
    let typed = value_typed d n.id v h low in
    let within = value_within d n.id v h short in
    let whole = value_whole v in
    let fit = fits_by d n (value_of v) known (rw (typed, within)) in
    let canonical = typed_canonical d n.id (value_of v) whole.0 whole.1 fit in
    rw (canonical, alone)
