-- What a text stands for under a target fits the dictionary.
use Rattle.std.proofs.Common.{◌≡◌, ℕ, ℤ, true, false, not, ◌&&◌, ◌||◌, nat_le, length, List, [], ◌∷◌, Option, Some, None, Result, Ok, Err, IfSome, refl, subst, option_and_then, option_map, unwrap_or}
use Rattle.std.specs.List.{slice_split}
use Rattle.std.specs.Option.{option_map_or}
use Rattle.std.specs.Result.{result_ok}
use Rattle.std.proofs.lemmas.Bool.{and_parts, cond_both, or_parts}
use Rattle.avp_lists.specs.declared.pairs.Pair.{Pair}
use Rattle.avp_lists.specs.declared.pairs.Value.{Value}
use Rattle.avp_dict.specs.Dictionary.{Dictionary}
use Rattle.avp_dict.specs.Limits.{fits, greatest_length, is_known}
use Rattle.avp_dict.specs.Names.{form_of, named}
use Rattle.avp_dict.specs.Octets.{is_hidden}
use Rattle.avp_dict.specs.RequestLines.{Assignment}
use Rattle.avp_dict.specs.Requests.{pair_assigned, pair_with}
use Rattle.avp_dict.specs.Sent.{is_canonical, is_clean_pair, is_container}
use Rattle.avp_dict.specs.Soundness.{IsSound}
use Rattle.avp_dict.specs.Spellings.{is_barred, is_colon}
use Rattle.avp_dict.specs.Types.{is_as_typed}
use Rattle.avp_dict.specs.Words.{is_hexadecimal}
use Rattle.avp_dict.specs.declared.entries.Named.{Named}
use Rattle.avp_dict.specs.declared.forms.Form.{Form}
use Rattle.avp_dict.specs.declared.value.faults.ValueFault.{ValueFault}
use Rattle.avp_dict.proofs.Fitting.{always, known_named, mapped_holds}
use Rattle.avp_dict.proofs.SpelledClean.{spelled_clean}
use Rattle.avp_forms.specs.Numerals.{number_within}
use Rattle.avp_forms.specs.Requests.{pair_written}
use Rattle.avp_forms.specs.Targets.{has_tag, tagged, tagged_by, tagged_of, target_of, untagged}
use Rattle.avp_forms.specs.Texts.{form_spelled, unless_long, value_spelled}
use Rattle.avp_forms.specs.Values.{max_tag, octets_of, value_of, with_tag}
use Rattle.avp_forms.specs.Written.{as_pair_value, bars_text, has_typed_values, is_read_by_type, value_written}
use Rattle.avp_forms.specs.declared.profiles.Profile.{Profile}
use Rattle.avp_forms.specs.declared.profiles.Profile.TheVariants.{Plain, Wider}
use Rattle.avp_forms.specs.declared.targets.Target.{Target}
use Rattle.avp_forms.specs.declared.values.FormValue.{FormValue}
use Rattle.avp_forms.proofs.HeldForms.{form_value_clean, is_held}
use Rattle.avp_forms.proofs.SpelledForms.{IsOfForm, or_holds, spelled_of_form, with_tag_of_form}

module _ (d : Dictionary) (sound : IsSound d) where
  -- ---- targets

  abbrev IsKnownTarget : Target → Type 0
  IsKnownTarget target = is_known target.named.id d ≡ true

  tagged_by_known : (digits : List ℕ) (n : Option Named) → IfSome n (λ x. is_known x.id d ≡ true) → IfSome (option_and_then (tagged_by d digits) n) IsKnownTarget
  tagged_by_known digits None h = tt
  tagged_by_known digits (Some n) h =
      cond_both (not n.raw && option_map_or has_tag (form_of n.id d) false) _ None (λ o. IfSome o IsKnownTarget)
      (λ tags. mapped_holds IsKnownTarget (tagged n) (number_within 10 max_tag digits) (always (λ (tag : ℕ). IsKnownTarget (tagged n tag)) (λ tag. h) (number_within 10 max_tag digits)))
      (λ other. tt)

  tagged_known : (parts : List (List ℕ)) → IfSome (tagged_of d parts) IsKnownTarget
  tagged_known (name ∷ digits ∷ []) = tagged_by_known digits (named name d) (known_named d sound name)
  tagged_known _ = tt

  untagged_known : (name : List ℕ) → IfSome (option_map untagged (named name d)) IsKnownTarget
  untagged_known name = mapped_holds IsKnownTarget untagged (named name d) (known_named d sound name)

  pub known_target : (profile : Profile) (name : List ℕ) → IfSome (target_of profile d name) IsKnownTarget
  unfolding target_of
  known_target Plain name = untagged_known name
  known_target Wider name =
      or_holds IsKnownTarget (option_map untagged (named name d)) (tagged_of d (slice_split is_colon name)) (untagged_known name) (tagged_known (slice_split is_colon name))

  -- ---- values of forms

  module _ (n : Named) (known : is_known n.id d ≡ true) (alone : is_container n.id ≡ false) (tag : ℕ) (value : Value) where
    abbrev GivesClean : Result FormValue ValueFault → Type 0
    GivesClean r = as_pair_value r ≡ Ok value → is_clean_pair d (pair_with n value) ≡ true

    of_form_clean : (form : Form) → form_of n.id d ≡ Some form → is_as_typed form ≡ false → (o : Option FormValue) → IfSome o (IsOfForm form) → GivesClean (unless_long (greatest_length n.id d) (option_map (with_tag tag) o))
    of_form_clean form e other None h is = absurd (cc)
    of_form_clean form e other (Some v) h is =
        let of_form = with_tag_of_form tag form v h in
        let w = with_tag tag v in
        cond_both (nat_le (length (octets_of w)) (greatest_length n.id d)) (Ok w) _ GivesClean
        (λ short same.
        let value_is : value_of w ≡ value = cc in
        subst (λ (x : Value). is_clean_pair d (pair_with n x) ≡ true) value_is
        (form_value_clean d n w known alone (rw of_form.0 (is_held d n.id sound form e other)) of_form.1 short))
        (λ long same. absurd (cc)) is

    form_clean : (offset : Option ℤ) (text : List ℕ) → has_typed_values n.id d ≡ false → GivesClean (value_spelled n.id tag offset text d)
    unfolding value_spelled
    form_clean offset text other = go (form_of n.id d) refl other
      where
        go : (o : Option Form) → form_of n.id d ≡ o → option_map_or is_as_typed o true ≡ false → GivesClean (unless_long (greatest_length n.id d) (option_map (with_tag tag) (option_and_then (λ form. form_spelled form n.id offset text d) o)))
        go None e none = absurd (cc)
        go (Some form) e some = of_form_clean form e some (form_spelled form n.id offset text d) (spelled_of_form d form n.id offset text)

  -- ---- values

  wider_clean : (target : Target) (text : List ℕ) (offset : Option ℤ) (value : Value) → is_known target.named.id d ≡ true → value_written Wider target text offset d ≡ Ok value → is_clean_pair d (pair_with target.named value) ≡ true
  unfolding value_written
  wider_clean target text offset value known e =
      let n = target.named in
      let P : Result Value ValueFault → Type 0 = λ r. r ≡ Ok value → is_clean_pair d (pair_with n value) ≡ true in
      cond_both (is_barred n d) _ _ P (λ barred is. absurd (cc)) (λ free.
      cond_both (bars_text target.tag text) _ _ P (λ tagged_octets is. absurd (cc)) (λ plain.
      cond_both (is_read_by_type target text d) _ _ P (λ by_type is. spelled_clean d n text value known is) (λ by_form is.
      let alone = (or_parts (is_container n.id) (n.raw && is_hidden n.id d) free).0 in
      let other = (or_parts n.raw (has_typed_values n.id d) (or_parts (n.raw || has_typed_values n.id d) (is_hexadecimal text) by_form).0).1 in
      form_clean n known alone (unwrap_or target.tag 0) value offset text other is))) e

  plain_clean : (target : Target) (text : List ℕ) (offset : Option ℤ) (value : Value) → is_known target.named.id d ≡ true → value_written Plain target text offset d ≡ Ok value → is_clean_pair d (pair_with target.named value) ≡ true
  unfolding value_written
  plain_clean target text offset value known e = spelled_clean d target.named text value known e

  pub written_clean : (profile : Profile) (target : Target) (text : List ℕ) (offset : Option ℤ) (value : Value) → is_known target.named.id d ≡ true → value_written profile target text offset d ≡ Ok value → is_clean_pair d (pair_with target.named value) ≡ true
  written_clean Plain target text offset value known e = plain_clean target text offset value known e
  written_clean Wider target text offset value known e = wider_clean target text offset value known e

  clean_fits : (pair : Pair) → is_clean_pair d pair ≡ true → fits pair d ≡ true
  unfolding is_canonical
  clean_fits pair h = (and_parts (fits pair d) _ (and_parts (is_canonical pair d) _ h).0).0

  pub written_fits : (profile : Profile) (name text : List ℕ) (offset : Option ℤ) (target : Target) (value : Value) → target_of profile d name ≡ Some target → value_written profile target text offset d ≡ Ok value → fits (pair_with target.named value) d ≡ true
  written_fits profile name text offset target value is e =
      let known = subst (λ (o : Option Target). IfSome o IsKnownTarget) is (known_target profile name) in
      clean_fits (pair_with target.named value) (written_clean profile target text offset value known e)

  -- ---- requests

  named_clean : (offset : Option ℤ) (text : List ℕ) (o : Option Target) → IfSome o IsKnownTarget → IfSome (option_and_then (λ target. pair_written offset d target text) o) (λ p. is_clean_pair d p ≡ true)
  named_clean offset text None h = tt
  named_clean offset text (Some target) h = go (value_written Wider target text offset d) refl
    where
      go : (r : Result Value ValueFault) → value_written Wider target text offset d ≡ r → IfSome (option_map (pair_with target.named) (result_ok r)) (λ p. is_clean_pair d p ≡ true)
      go (Ok value) e = written_clean Wider target text offset value h e
      go (Err fault) e = tt

  pub assigned_clean : (offset : Option ℤ) (a : Assignment) → IfSome (pair_assigned (target_of Wider d) (pair_written offset d) a) (λ p. is_clean_pair d p ≡ true)
  assigned_clean offset a = named_clean offset a.text (target_of Wider d a.name) (known_target Wider a.name)

  pub pair_fits : (o : Option Pair) → IfSome o (λ p. is_clean_pair d p ≡ true) → IfSome o (λ p. fits p d ≡ true)
  pair_fits None h = tt
  pair_fits (Some pair) h = clean_fits pair h
