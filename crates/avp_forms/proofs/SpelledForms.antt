-- A text is read as a value of the form that it is read by.
use Rattle.std.proofs.Common.{◌≡◌, ℕ, ℤ, pos, negsuc, ◌+ℤ◌, ◌-ℤ◌, ◌*ℤ◌, true, ◌&&◌, ◌==◌, nat_le, int_le, unsigned_abs, List, drop, length, slice_index, slice_range, Option, Some, None, IfSome, refl, arith}
use Rattle.jiff_core.specs.Calendar.{days_from_civil}
use Rattle.avp_dict.specs.Ascii.{hyphen, space}
use Rattle.std.specs.Option.{option_or}
use Rattle.std.proofs.lemmas.Bool.{and_parts, cond_both}
use Rattle.std.proofs.lemmas.Grind.{common_steps}
use Rattle.avp_lists.specs.declared.pairs.AttrId.{AttrId}
use Rattle.avp_dict.specs.AttributeNumbers.{greatest_number}
use Rattle.avp_dict.specs.Dictionary.{Dictionary}
use Rattle.avp_dict.specs.Words.{number_of}
use Rattle.avp_dict.specs.declared.forms.Form.{Form}
use Rattle.avp_dict.specs.declared.forms.Form.TheVariants as forms
use Rattle.avp_dict.proofs.Fitting.{always, mapped_holds, then_holds, up_to_holds, weaker}
use Rattle.avp_forms.specs.Dates.{after_month, clock_spelled, date_of_moment, date_spelled, day_spelled, has_day, in_32_bits, internet_date_spelled, month_spelled, numeral, offset_spelled, server_date_spelled, server_moment, zone_spelled}
use Rattle.avp_forms.specs.InterfaceIds.{interface_id_spelled}
use Rattle.avp_forms.specs.Ipv6Addresses.{ipv6_spelled}
use Rattle.avp_forms.specs.Laws.{form_of_value}
use Rattle.avp_forms.specs.Numerals.{number_up_to}
use Rattle.avp_forms.specs.Prefixes.{ipv4_prefix_spelled, ipv6_prefix_spelled}
use Rattle.avp_forms.specs.Texts.{form_spelled, ipv4_prefix_value, ipv6_prefix_value, tagged_number_spelled, untagged_number}
use Rattle.avp_forms.specs.Values.{with_tag}
use Rattle.avp_forms.specs.declared.values.FormValue.{FormValue}
use Rattle.avp_forms.specs.declared.values.FormValue.TheVariants.{Date, InterfaceId, Ipv4Prefix, Ipv6Address, Ipv6Prefix, TaggedNumber, TaggedText}
use Rattle.avp_forms.proofs.HeldForms.{IsLow}

-- ---- dates

abbrev IsLowDate : ℕ → Type 0
IsLowDate n = nat_le n greatest_number ≡ true

pub or_holds : {X : Type 0} (P : X → Type 0) (o other : Option X) → IfSome o P → IfSome other P → IfSome (option_or o other) P
or_holds P None other h i = i
or_holds P (Some x) other h i = h

low_32 : (z : ℤ) → IfSome (in_32_bits z) IsLowDate
low_32 z =
    cond_both (int_le (pos 0) z && int_le z (pos greatest_number)) _ _ (λ o. IfSome o IsLowDate)
    (λ within. let parts = and_parts (int_le (pos 0) z) (int_le z (pos greatest_number)) within in low_by z parts.0 parts.1) (λ other. tt)
  where
    low_by : (z : ℤ) → int_le (pos 0) z ≡ true → int_le z (pos greatest_number) ≡ true → nat_le (unsigned_abs z) greatest_number ≡ true
    low_by (pos n) a b = grind (arith, common_steps)
    low_by (negsuc n) a b = absurd (cc)

moment_low : (year month day seconds : ℕ) (offset : ℤ) → IfSome (date_of_moment year month day seconds offset) IsLowDate
unfolding date_of_moment
moment_low year month day seconds offset =
    let z = days_from_civil (pos year) month day *ℤ pos 86400 +ℤ pos seconds -ℤ offset *ℤ pos 60 in
    cond_both (has_day year month day) (in_32_bits z) None (λ o. IfSome o IsLowDate) (λ h. low_32 z) (λ other. tt)

internet_low : (text : List ℕ) → IfSome (internet_date_spelled text) IsLowDate
unfolding internet_date_spelled
internet_low text =
    cond_both (nat_le 20 (length text) && slice_index text 4 == hyphen && slice_index text 7 == hyphen && slice_index text 10 == 84) _ None (λ o. IfSome o IsLowDate)
    (λ h.
    then_holds IsLowDate _ (λ year.
    then_holds IsLowDate _ (λ month.
    then_holds IsLowDate _ (λ day.
    then_holds IsLowDate _ (λ seconds.
    then_holds IsLowDate _ (λ offset. moment_low year month day seconds offset)
    (offset_spelled (drop 19 text))) (clock_spelled (slice_range text 11 19))) (numeral 2 31 (slice_range text 8 10))) (numeral 2 12 (slice_range text 5 7))) (numeral 4 9999 (slice_range text 0 4)))
    (λ other. tt)

server_moment_low : (zone : Option ℤ) (month day : ℕ) (text : List ℕ) → IfSome (server_moment zone month day text) IsLowDate
unfolding server_moment
server_moment_low z month day text =
    cond_both (nat_le 15 (length text) && slice_index text 4 == space && slice_index text 13 == space) _ None (λ o. IfSome o IsLowDate)
    (λ h.
    then_holds IsLowDate _ (λ year.
    then_holds IsLowDate _ (λ seconds.
    then_holds IsLowDate _ (λ offset. moment_low year month day seconds offset)
    (zone_spelled z (drop 14 text))) (clock_spelled (slice_range text 5 13))) (numeral 4 9999 (slice_range text 0 4)))
    (λ other. tt)

after_month_low : (zone : Option ℤ) (month : ℕ) (text : List ℕ) → IfSome (after_month zone month text) IsLowDate
unfolding after_month
after_month_low z month text =
    cond_both (nat_le 3 (length text) && slice_index text 1 == space) _ _ (λ o. IfSome o IsLowDate)
    (λ h. then_holds IsLowDate _ (λ day. server_moment_low z month day (drop 2 text)) (numeral 1 9 (slice_range text 0 1)))
    (λ other.
    cond_both (nat_le 3 (length text) && slice_index text 2 == space) _ None (λ o. IfSome o IsLowDate)
    (λ h. then_holds IsLowDate _ (λ day. server_moment_low z month day (drop 3 text)) (day_spelled (slice_range text 0 2))) (λ none. tt))

server_low : (zone : Option ℤ) (text : List ℕ) → IfSome (server_date_spelled zone text) IsLowDate
unfolding server_date_spelled
server_low z text =
    cond_both (nat_le 4 (length text) && slice_index text 3 == space) _ None (λ o. IfSome o IsLowDate)
    (λ h. then_holds IsLowDate _ (λ month. after_month_low z month (drop 4 text)) (month_spelled (slice_range text 0 3))) (λ other. tt)

date_low : (d : Dictionary) (zone : Option ℤ) (text : List ℕ) → IfSome (date_spelled zone text) IsLowDate
unfolding date_spelled number_up_to
date_low d z text =
    or_holds IsLowDate (number_up_to greatest_number text) (option_or (internet_date_spelled text) (server_date_spelled z text)) (up_to_holds d greatest_number (number_of text))
    (or_holds IsLowDate (internet_date_spelled text) (server_date_spelled z text) (internet_low text) (server_low z text))

-- ---- values

abbrev pub IsOfForm : Form → FormValue → Type 0
IsOfForm form v = (form_of_value v ≡ form) × IsLow v

pub spelled_of_form : (d : Dictionary) (form : Form) (id : AttrId) (offset : Option ℤ) (text : List ℕ) → IfSome (form_spelled form id offset text d) (IsOfForm form)
unfolding form_spelled
spelled_of_form d forms.AsTyped id offset text = tt
spelled_of_form d forms.Ipv6Address id offset text =
    mapped_holds (IsOfForm forms.Ipv6Address) (λ (os : List ℕ). Ipv6Address os) (ipv6_spelled text) (always (λ (os : List ℕ). IsOfForm forms.Ipv6Address (Ipv6Address os)) (λ os. (refl, tt)) (ipv6_spelled text))
spelled_of_form d forms.Ipv6Prefix id offset text =
    mapped_holds (IsOfForm forms.Ipv6Prefix) ipv6_prefix_value (ipv6_prefix_spelled text) (always (λ (p : List ℕ × ℕ). IsOfForm forms.Ipv6Prefix (ipv6_prefix_value p)) (λ p. (refl, tt)) (ipv6_prefix_spelled text))
spelled_of_form d forms.Ipv4Prefix id offset text =
    mapped_holds (IsOfForm forms.Ipv4Prefix) ipv4_prefix_value (ipv4_prefix_spelled text) (always (λ (p : List ℕ × ℕ). IsOfForm forms.Ipv4Prefix (ipv4_prefix_value p)) (λ p. (refl, tt)) (ipv4_prefix_spelled text))
spelled_of_form d forms.InterfaceId id offset text =
    mapped_holds (IsOfForm forms.InterfaceId) (λ (os : List ℕ). InterfaceId os) (interface_id_spelled text) (always (λ (os : List ℕ). IsOfForm forms.InterfaceId (InterfaceId os)) (λ os. (refl, tt)) (interface_id_spelled text))
spelled_of_form d forms.Date id offset text =
    mapped_holds (IsOfForm forms.Date) (λ (n : ℕ). Date n) (date_spelled offset text) (weaker IsLowDate (λ (n : ℕ). IsOfForm forms.Date (Date n)) (λ n h. (refl, h)) (date_spelled offset text) (date_low d offset text))
spelled_of_form d forms.TaggedInteger id offset text =
    mapped_holds (IsOfForm forms.TaggedInteger) untagged_number (tagged_number_spelled id text d) (always (λ (n : ℕ). IsOfForm forms.TaggedInteger (untagged_number n)) (λ n. (refl, tt)) (tagged_number_spelled id text d))
spelled_of_form d forms.TaggedString id offset text = (refl, tt)

pub with_tag_of_form : (tag : ℕ) (form : Form) (v : FormValue) → IsOfForm form v → IsOfForm form (with_tag tag v)
unfolding with_tag
with_tag_of_form tag form (TaggedNumber other n) h = h
with_tag_of_form tag form (TaggedText other os) h = h
with_tag_of_form tag form (Ipv6Address os) h = h
with_tag_of_form tag form (Ipv6Prefix os n) h = h
with_tag_of_form tag form (Ipv4Prefix os n) h = h
with_tag_of_form tag form (InterfaceId os) h = h
with_tag_of_form tag form (Date n) h = h
