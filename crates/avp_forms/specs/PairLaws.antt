-- What is printed for a pair in the wider profile is read back.
use Rattle.std.specs.Prelude.{◌≡◌, true, ℕ, ℤ, List, Option, Some, None, Ok}
use Rattle.avp_lists.specs.declared.pairs.Pair.{Pair}
use Rattle.avp_lists.specs.declared.pairs.Value.TheVariants as values
use Rattle.avp_dict.specs.Dictionary.{Dictionary}
use Rattle.avp_dict.specs.Laws as typed
use Rattle.avp_dict.specs.Names.{form_of}
use Rattle.avp_dict.specs.Quotes.{between_quotes, double_quoted_octets}
use Rattle.avp_dict.specs.declared.forms.Form.{Form}
use Rattle.avp_forms.specs.Laws.{unquoted}
use Rattle.avp_forms.specs.Printing.{printed_meaning, printed_pair_name, printed_pair_text}
use Rattle.avp_forms.specs.Targets.{target_of}
use Rattle.avp_forms.specs.Values.{is_own, octets_of, value_of}
use Rattle.avp_forms.specs.Written.{value_written}
use Rattle.avp_forms.specs.declared.profiles.Profile.TheVariants.{Wider}
use Rattle.avp_forms.specs.declared.targets.Target.{Target}
use Rattle.avp_forms.specs.declared.values.FormValue.{FormValue}
use Rattle.avp_forms.specs.declared.values.FormValue.TheVariants.{Date}

-- what a printed text stands for on a request line: a date's and a text's what its quotes hold
abbrev pub unquoted_meant : FormValue → List ℕ → List ℕ
unquoted_meant (Date n) text = double_quoted_octets (between_quotes text)
unquoted_meant meant text = unquoted meant text

-- the printed name and text of a pair that is printed by what its value means are read as the attribute, with the tag,
-- and the value that is sent for this: a number's own, and the same octets where they are the form's own
pub record MeaningReadsBack (pair : Pair) (meant : FormValue) (dictionary : Dictionary) : Type 0 where
  pub target : Target
  pub targeted :
      target_of Wider dictionary (printed_pair_name Wider pair.id pair.value dictionary)
      ≡ Some target
  pub same : target.named.id ≡ pair.id
  pub written :
      (offset : Option ℤ)
      → value_written Wider target
      (unquoted_meant meant (printed_pair_text Wider pair.id pair.value dictionary)) offset
      dictionary
      ≡ Ok (value_of meant)
  pub number : (n : ℕ) → pair.value ≡ values.Int n → value_of meant ≡ values.Int n
  pub own :
      (os : List ℕ) → pair.value ≡ values.Bytes os
      → (form : Form) → form_of pair.id dictionary ≡ Some form → is_own form os ≡ true
      → octets_of meant ≡ os

-- those of another pair are read as its attribute and its value
pub record PlainReadsBack (pair : Pair) (dictionary : Dictionary) : Type 0 where
  pub target : Target
  pub targeted :
      target_of Wider dictionary (printed_pair_name Wider pair.id pair.value dictionary)
      ≡ Some target
  pub same : target.named.id ≡ pair.id
  pub written :
      (offset : Option ℤ)
      → value_written Wider target
      (typed.unquoted pair.value (printed_pair_text Wider pair.id pair.value dictionary)) offset
      dictionary
      ≡ Ok pair.value

pub record PairReadsBack (pair : Pair) (dictionary : Dictionary) : Type 0 where
  pub meaning :
      (meant : FormValue) → printed_meaning pair.id pair.value dictionary ≡ Some meant
      → MeaningReadsBack pair meant dictionary
  pub plain :
      printed_meaning pair.id pair.value dictionary ≡ None → PlainReadsBack pair dictionary
