-- Which value a text stands for under a target in a profile, and the text that an expansion puts in for a value.
use Rattle.std.specs.Prelude.{ℕ, ℤ, nat_lt, Bool, true, false, ◌||◌, if◌then◌else◌, List, Option, None, Some, Result, Err, Ok}
use Rattle.std.specs.Option.{option_and_then, option_map_or, unwrap_or}
use Rattle.avp_lists.specs.declared.pairs.AttrId.{AttrId}
use Rattle.avp_lists.specs.declared.pairs.Value.{Value}
use Rattle.avp_lists.specs.declared.pairs.Value.TheVariants as values
use Rattle.avp_dict.specs.Dictionary.{Dictionary}
use Rattle.avp_dict.specs.Names.{form_of}
use Rattle.avp_dict.specs.Octets.{keeps_octets}
use Rattle.avp_dict.specs.Printing.{printed_text}
use Rattle.avp_dict.specs.Spellings as typed
use Rattle.avp_dict.specs.Spellings.{is_barred}
use Rattle.avp_dict.specs.Types.{is_as_typed}
use Rattle.avp_dict.specs.Words.{is_hexadecimal}
use Rattle.avp_dict.specs.declared.value.faults.ValueFault.{ValueFault}
use Rattle.avp_dict.specs.declared.value.faults.ValueFault.TheVariants.{NotValue, NotWritable}
use Rattle.avp_forms.specs.Texts.{keeps_text, text_of, value_spelled}
use Rattle.avp_forms.specs.Values.{max_tag, meaning_of_value, value_of}
use Rattle.avp_forms.specs.declared.profiles.Profile.{Profile}
use Rattle.avp_forms.specs.declared.profiles.Profile.TheVariants.{Plain, Wider}
use Rattle.avp_forms.specs.declared.targets.Target.{Target}
use Rattle.avp_forms.specs.declared.values.FormValue.{FormValue}

-- ---- read

-- the values of the attribute stand for no more than their type says
abbrev pub has_typed_values : AttrId → Dictionary → Bool
has_typed_values id dictionary = option_map_or is_as_typed (form_of id dictionary) true

-- a text that is read by the type alone: under a name by number, or as octets
abbrev pub is_read_by_type : Target → List ℕ → Dictionary → Bool
is_read_by_type target text dictionary =
    target.named.raw || has_typed_values target.named.id dictionary || is_hexadecimal text

-- the value of a pair for one of a form
abbrev pub as_pair_value : Result FormValue ValueFault → Result Value ValueFault
as_pair_value (Ok value) = Ok (value_of value)
as_pair_value (Err fault) = Err fault

-- no text is a value beside a tag above the greatest one, and none of octets beside any tag, since octets have their
-- tag in them
abbrev pub bars_text : Option ℕ → List ℕ → Bool
bars_text None text = false
bars_text (Some tag) text = nat_lt max_tag tag || is_hexadecimal text

-- the value of a text under a target, or the first reason that there is none; offset is that of zones other than UTC,
-- as for `date_spelled`
unfoldable pub value_written : Profile → Target → List ℕ → Option ℤ → Dictionary
    → Result Value ValueFault
value_written Plain target text offset dictionary = typed.value_spelled target.named text dictionary
value_written Wider target text offset dictionary =
    if is_barred target.named dictionary then Err NotWritable
    else if bars_text target.tag text then Err NotValue
    else if is_read_by_type target text dictionary
    then typed.value_spelled target.named text dictionary
    else as_pair_value
    (value_spelled target.named.id (unwrap_or target.tag 0) offset text dictionary)

-- the octets of a value that is read are kept
abbrev pub is_kept : Result Value ValueFault → Bool
is_kept (Ok value) = keeps_octets value
is_kept (Err fault) = false

-- memory is taken for a text that is read by the attribute's form: for one that may have a tag, and for the octets of a
-- value
abbrev pub form_takes_memory : AttrId → ℕ → Option ℤ → List ℕ → Dictionary → Bool
form_takes_memory id tag offset text dictionary =
    keeps_text id dictionary
    || is_kept (as_pair_value (value_spelled id tag offset text dictionary))

-- Memory is taken for a text under a target. In the wider profile it is taken only where the name is writable and the
-- tag does not bar the text, and then as the text is read, by the attribute's type or by its form.
unfoldable pub takes_memory : Profile → Target → List ℕ → Option ℤ → Dictionary → Bool
takes_memory Plain target text offset dictionary = typed.takes_memory target.named text dictionary
takes_memory Wider target text offset dictionary =
    if is_barred target.named dictionary || bars_text target.tag text then false
    else if is_read_by_type target text dictionary
    then typed.takes_memory target.named text dictionary
    else form_takes_memory target.named.id (unwrap_or target.tag 0) offset text dictionary

-- ---- put in

-- a string is put in as its own octets, and another value as it is printed
abbrev pub typed_text_put : AttrId → Value → Dictionary → List ℕ
typed_text_put id (values.Text os) dictionary = os
typed_text_put id value dictionary = printed_text id value dictionary

-- what an attribute's value means beyond its type
unfoldable pub meant_value : AttrId → Value → Dictionary → Option FormValue
meant_value id value dictionary =
    option_and_then (λ form. meaning_of_value form value) (form_of id dictionary)

-- the text of a value, without a tag and without quotes; in the wider profile of what it means
unfoldable pub text_put : Profile → AttrId → Value → Dictionary → List ℕ
text_put Plain id value dictionary = typed_text_put id value dictionary
text_put Wider id value dictionary =
    option_map_or (λ meant. text_of id meant dictionary) (meant_value id value dictionary)
    (typed_text_put id value dictionary)
