-- What texts are refused for where they are read: never that a pattern is too large, which is found where it is compiled.
use Rattle.std.proofs.Common.{◌≡◌, ◌≢◌, ℕ, Bool, true, false, List, Option, Some, None, Result, Ok, Err, refl, sym, ◌∙◌}
use Rattle.std.specs.Prelude.{cond}
use Rattle.std.specs.Option.{option_and_then}
use Rattle.avp_lists.specs.declared.lists.List.{List as Name}
use Rattle.avp_lists.specs.declared.lists.List.TheVariants as lists
use Rattle.avp_lists.specs.declared.pairs.Value.{Value}
use Rattle.avp_dict.specs.Dictionary.{Dictionary}
use Rattle.avp_dict.specs.Limits.{fits}
use Rattle.avp_dict.specs.Quotes.{double_quoted_octets}
use Rattle.avp_dict.specs.Requests.{pair_with}
use Rattle.avp_dict.specs.Sent.{is_container}
use Rattle.avp_dict.specs.Spellings.{is_barred}
use Rattle.avp_dict.specs.declared.value.faults.ValueFault.{ValueFault}
use Rattle.avp_dict.specs.declared.value.faults.ValueFault.TheVariants as faults
use Rattle.avp_forms.specs.Written.{value_written}
use Rattle.avp_forms.specs.declared.profiles.Profile.{Profile}
use Rattle.avp_forms.specs.declared.profiles.Profile.TheVariants.{Wider}
use Rattle.avp_forms.specs.declared.targets.Target.{Target}
use Rattle.avp_patterns.specs.Patterns.{Written as Pattern}
use Rattle.avp_patterns.specs.declared.faults.PatternFault.TheVariants as pattern
use Rattle.avp_unlang.specs.Conditions.{has_expansion, meant_literal}
use Rattle.avp_unlang.specs.Parts.{after_opening, braced, group_named}
use Rattle.avp_unlang.specs.References.{reference_in}
use Rattle.avp_unlang.specs.RefusedConditions.{IsPatternFault, comparand_refusal, meant_refusal, own_refusal, unfit_meaning}
use Rattle.avp_unlang.specs.RefusedForms.{unfit}
use Rattle.avp_unlang.specs.RefusedLines.{any_word, expansion_refusal, target_refusal, unfit_braces, unfit_group, unknown_target, whole_refusal}
use Rattle.avp_unlang.specs.RefusedValues.{expansion_kind, literal_refusal, plain_refusal, reference_refusal, unfit_value, unreadable_target, value_kind, word_refusal}
use Rattle.avp_unlang.specs.declared.faults.PolicyKind.{PolicyKind}
use Rattle.avp_unlang.specs.declared.faults.PolicyKind.TheVariants as kinds
use Rattle.avp_unlang.specs.declared.text.references.Reference.{Reference}
use Rattle.avp_unlang.specs.declared.text.tokens.Token.{Token}
use Rattle.avp_unlang.specs.declared.text.tokens.Token.TheVariants.{Unreadable, Word}
use Rattle.avp_unlang.specs.declared.text.values.Written.{Written}
use Rattle.avp_unlang.specs.declared.text.values.Written.TheVariants as written
use Rattle.avp_unlang.specs.declared.tree.MeantComparand.{MeantComparand}
use Rattle.avp_unlang.proofs.Determined.{some_is}

abbrev pub IsSmall : PolicyKind → Type 0
IsSmall kind = kind ≢ kinds.Pattern pattern.TooLarge

abbrev pub AreSmall : Option PolicyKind → Type 0
AreSmall why = (kind : PolicyKind) → why ≡ Some kind → IsSmall kind

pub is_small : (kind why : PolicyKind) → IsSmall why → kind ≡ why → IsSmall kind
is_small kind why small is = λ large. small (sym is ∙ large)

none_small : AreSmall None
none_small kind h = cc

some_small : (why : PolicyKind) → IsSmall why → AreSmall (Some why)
some_small why small kind h = λ large. small (some_is why kind h ∙ large)

pub unknown_small : IsSmall kinds.Unknown
unknown_small e = cc

pub not_writable_small : IsSmall kinds.NotWritable
not_writable_small e = cc

not_value_small : IsSmall kinds.NotValue
not_value_small e = cc

pub other_type_small : IsSmall kinds.OtherType
other_type_small e = cc

pub not_expansion_small : IsSmall kinds.NotExpansion
not_expansion_small e = cc

pub too_deep_small : IsSmall kinds.TooDeep
too_deep_small e = cc

pub too_large_small : IsSmall kinds.TooLarge
too_large_small e = cc

too_long_small : IsSmall kinds.TooLong
too_long_small e = cc

memory_small : IsSmall kinds.Memory
memory_small e = cc

pub misplaced_small : IsSmall kinds.Misplaced
misplaced_small e = cc

unreadable_small : IsSmall kinds.Unreadable
unreadable_small e = cc

pub unfit_small : (t : Token) → IsSmall (unfit t)
unfit_small Unreadable = unreadable_small
unfit_small _ = misplaced_small

either_small : (b : Bool) (x y : Option PolicyKind) → AreSmall x → AreSmall y → AreSmall (cond b x y)
either_small true x y first second = first
either_small false x y first second = second

-- ---- references

pub word_small : (refusal : List ℕ → Option PolicyKind) → ((word : List ℕ) → AreSmall (refusal word)) → (t : Token) → AreSmall (word_refusal refusal t)
word_small refusal each (Word word) = each word
word_small refusal each Unreadable = some_small kinds.Unreadable unreadable_small
word_small refusal each _ = some_small kinds.Misplaced misplaced_small

module _ (profile : Profile) (dictionary : Dictionary) where
  target_small : (o : Option Reference) → AreSmall (unreadable_target o)
  target_small None = some_small kinds.Unknown unknown_small
  target_small (Some found) = either_small (is_container found.target.named.id) (Some kinds.NotWritable) None (some_small kinds.NotWritable not_writable_small) none_small

  pub reference_small : (word : List ℕ) → AreSmall (reference_refusal profile dictionary word)
  unfolding reference_refusal
  reference_small word = target_small (reference_in profile dictionary lists.Request word)

  unknown_target_small : (o : Option Reference) → AreSmall (unknown_target o)
  unknown_target_small None = some_small kinds.Unknown unknown_small
  unknown_target_small (Some found) = none_small

  pub target_refusal_small : (own : Name) (word : List ℕ) → AreSmall (target_refusal profile dictionary own word)
  target_refusal_small own word = unknown_target_small (reference_in profile dictionary own word)

  -- ---- values

  value_kind_small : (fault : ValueFault) → IsSmall (value_kind fault)
  value_kind_small faults.NotWritable = not_writable_small
  value_kind_small faults.NotValue = not_value_small
  value_kind_small faults.TooLong = too_long_small
  value_kind_small faults.Memory = memory_small

  value_small : (target : Target) (r : Result Value ValueFault) → AreSmall (unfit_value dictionary target r)
  value_small target (Ok value) = either_small (fits (pair_with target.named value) dictionary) None (Some kinds.NotValue) none_small (some_small kinds.NotValue not_value_small)
  value_small target (Err fault) = some_small (value_kind fault) (value_kind_small fault)

  pub literal_small : (target : Target) (text : List ℕ) → AreSmall (literal_refusal profile dictionary target text)
  unfolding literal_refusal
  literal_small target text = value_small target (value_written profile target text None dictionary)

  pub plain_small : (refusal : List ℕ → Option PolicyKind) → ((text : List ℕ) → AreSmall (refusal text)) → (target : Target) (text : List ℕ) → AreSmall (plain_refusal refusal dictionary target text)
  plain_small refusal each target text =
      either_small (has_expansion false text) (expansion_kind dictionary target) (refusal (double_quoted_octets text))
      (either_small (is_barred target.named dictionary) (Some kinds.NotWritable) (Some kinds.Unreadable) (some_small kinds.NotWritable not_writable_small) (some_small kinds.Unreadable unreadable_small))
      (each (double_quoted_octets text))

  pub comparand_small : (target : Target) (w : Written) → AreSmall (comparand_refusal profile dictionary target w)
  comparand_small target (written.Double text) = plain_small (literal_refusal profile dictionary target) (literal_small target) target text
  comparand_small target (written.Literal v) = none_small
  comparand_small target (written.Instance found) = none_small

  own_small : (why : Option PolicyKind) → AreSmall why → AreSmall (own_refusal why)
  own_small None small = some_small kinds.NotValue not_value_small
  own_small (Some why) small = some_small why (small why refl)

  meaning_small : (why : Option PolicyKind) → AreSmall why → (o : Option MeantComparand) → AreSmall (unfit_meaning why o)
  meaning_small why small None = own_small why small
  meaning_small why small (Some x) = none_small

  -- ---- texts between double quotes

  group_named_small : (why : Option PolicyKind) → AreSmall why → (o : Option ℕ) → AreSmall (unfit_group why o)
  group_named_small why small None = small
  group_named_small why small (Some group) = none_small

  braces_small : (o : Option (List ℕ × List ℕ)) → AreSmall (unfit_braces profile dictionary o)
  braces_small None = some_small kinds.Unreadable unreadable_small
  braces_small (Some found) = group_named_small (reference_refusal profile dictionary found.0) (reference_small found.0) (group_named profile found.0)

  pub expansion_small : (text : List ℕ) → AreSmall (expansion_refusal profile dictionary text)
  expansion_small text = braces_small (option_and_then braced (after_opening text))

  pub whole_small : (target : Target) (o : Option (List ℕ)) → AreSmall (whole_refusal (literal_refusal profile dictionary target) o)
  whole_small target None = none_small
  whole_small target (Some text) = literal_small target text

pub meant_small : (dictionary : Dictionary) (target : Target) (text : List ℕ) → AreSmall (meant_refusal dictionary target text)
unfolding meant_refusal
meant_small dictionary target text =
    meaning_small Wider dictionary (literal_refusal Wider dictionary target text) (literal_small Wider dictionary target text) (meant_literal dictionary target text)

pub any_word_small : (word : List ℕ) → AreSmall (any_word word)
any_word_small word = none_small

pub fault_small : (w : Pattern) (kind : PolicyKind) → IsPatternFault w kind → IsSmall kind
fault_small w (kinds.Pattern fault) h = λ large. h.0 (fault_is fault pattern.TooLarge large) where
  fault_is : (f g : _) → kinds.Pattern f ≡ kinds.Pattern g → f ≡ g
  fault_is f g e = cc
fault_small w _ h = absurd h
