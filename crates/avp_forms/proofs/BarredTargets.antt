-- A target under which no value may be written is refused for that whatever the text, and no other target is.
use Rattle.std.proofs.Common.{◌≡◌, ◌↔◌, ℕ, ℤ, Bool, true, false, cond, nat_le, List, length, Option, Some, None, Result, Ok, Err, refl, ap, unwrap_or, IsTrue}
use Rattle.std.specs.Option.{option_map}
use Rattle.std.specs.Result.{result_err, result_ok}
use Rattle.std.proofs.lemmas.Bool.{cond_both}
use Rattle.avp_lists.specs.declared.pairs.AttrId.{AttrId}
use Rattle.avp_lists.specs.declared.pairs.Value.{Value}
use Rattle.avp_dict.specs.declared.value.faults.ValueFault.{ValueFault}
use Rattle.avp_dict.specs.declared.value.faults.ValueFault.TheVariants.{NotValue, NotWritable, TooLong}
use Rattle.avp_dict.specs.Dictionary.{Dictionary}
use Rattle.avp_dict.specs.Requests.{pair_with}
use Rattle.avp_dict.specs.Spellings as typed
use Rattle.avp_dict.specs.Spellings.{is_barred}
use Rattle.avp_dict.proofs.BarredNames.{barred_name}
use Rattle.avp_forms.specs.Requests.{pair_written, refusal_written}
use Rattle.avp_forms.specs.Texts.{unless_long, value_spelled}
use Rattle.avp_forms.specs.Values.{octets_of, value_of}
use Rattle.avp_forms.specs.Written.{as_pair_value, bars_text, is_read_by_type, value_written}
use Rattle.avp_forms.specs.declared.profiles.Profile.TheVariants.{Wider}
use Rattle.avp_forms.specs.declared.targets.Target.{Target}
use Rattle.avp_forms.specs.declared.values.FormValue.{FormValue}

abbrev IsOther : Result Value ValueFault → Type 0
IsOther r = result_err r ≡ Some NotWritable → ⊥

form_bars_none : (most : ℕ) (value : Option FormValue) → IsOther (as_pair_value (unless_long most value))
form_bars_none most None h = absurd (cc)
form_bars_none most (Some v) h = by (nat_le (length (octets_of v)) most) h
  where
    by : (b : Bool) → IsOther (as_pair_value (cond b (Ok v) (Err TooLong)))
    by true h = absurd (cc)
    by false h = absurd (cc)

spelled_bars_none : (id : AttrId) (tag : ℕ) (offset : Option ℤ) (text : List ℕ) (d : Dictionary) → IsOther (as_pair_value (value_spelled id tag offset text d))
unfolding value_spelled
spelled_bars_none id tag offset text d h = form_bars_none _ _ h

module _ (target : Target) (text : List ℕ) (offset : Option ℤ) (d : Dictionary) where
  otherwise : is_barred target.named d ≡ false
      → IsOther (cond (bars_text target.tag text) (Err NotValue) (cond (is_read_by_type target text d) (typed.value_spelled target.named text d) (as_pair_value (value_spelled target.named.id (unwrap_or target.tag 0) offset text d))))
  otherwise free =
      cond_both (bars_text target.tag text) _ _ IsOther (λ octets h. absurd (cc)) (λ plain.
      cond_both (is_read_by_type target text d) _ _ IsOther (λ by_type h. let barred = (barred_name target.named text d).1 h in absurd (cc))
      (λ by_form h. spelled_bars_none target.named.id (unwrap_or target.tag 0) offset text d h))

  pub barred_target : IsTrue (is_barred target.named d) ↔ (refusal_written offset d target text ≡ Some NotWritable)
  unfolding value_written
  barred_target = by (is_barred target.named d) refl
    where
      by : (b : Bool) → is_barred target.named d ≡ b
          → IsTrue b ↔ (result_err (cond b (Err NotWritable) (cond (bars_text target.tag text) (Err NotValue) (cond (is_read_by_type target text d) (typed.value_spelled target.named text d) (as_pair_value (value_spelled target.named.id (unwrap_or target.tag 0) offset text d))))) ≡ Some NotWritable)
      by true e = (λ h. refl, λ h. refl)
      by false e = (λ h. absurd (cc), λ h. absurd (otherwise e h))

  pub barred_target_pair : IsTrue (is_barred target.named d) → pair_written offset d target text ≡ None
  unfolding value_written
  barred_target_pair h =
      ap (λ b. option_map (pair_with target.named) (result_ok (cond b (Err NotWritable) (cond (bars_text target.tag text) (Err NotValue) (cond (is_read_by_type target text d) (typed.value_spelled target.named text d) (as_pair_value (value_spelled target.named.id (unwrap_or target.tag 0) offset text d))))))) h
