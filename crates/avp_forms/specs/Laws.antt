-- What holds of all values and octets.
use Rattle.std.specs.Prelude.{◌≡◌, IsTrue, ℕ, ℤ, List, bytes_eq, Option, Some, None, Ok}
use Rattle.std.specs.Option.{option_map, unwrap_or}
use Rattle.avp_lists.specs.declared.pairs.AttrId.{AttrId}
use Rattle.avp_lists.specs.declared.pairs.Value.{Value}
use Rattle.avp_dict.specs.Dictionary.{Dictionary}
use Rattle.avp_dict.specs.Limits.{fits}
use Rattle.avp_dict.specs.Printing.{hexadecimal}
use Rattle.avp_dict.specs.Quotes.{between_quotes, double_quoted_octets}
use Rattle.avp_dict.specs.Requests.{pair_with}
use Rattle.avp_dict.specs.declared.forms.Form.{Form}
use Rattle.avp_dict.specs.declared.forms.Form.TheVariants as forms
use Rattle.avp_forms.specs.Targets.{target_of}
use Rattle.avp_forms.specs.Texts.{form_spelled, printed_octets, printed_text, text_of}
use Rattle.avp_forms.specs.Values.{is_own, meaning, octets_of, tag_of, with_tag}
use Rattle.avp_forms.specs.Written.{value_written}
use Rattle.avp_forms.specs.declared.profiles.Profile.{Profile}
use Rattle.avp_forms.specs.declared.targets.Target.{Target}
use Rattle.avp_forms.specs.declared.values.FormValue.{FormValue}
use Rattle.avp_forms.specs.declared.values.FormValue.TheVariants.{Date, InterfaceId, Ipv4Prefix, Ipv6Address, Ipv6Prefix, TaggedNumber, TaggedText}

abbrev pub form_of_value : FormValue → Form
form_of_value (Ipv6Address os) = forms.Ipv6Address
form_of_value (Ipv6Prefix os n) = forms.Ipv6Prefix
form_of_value (Ipv4Prefix os n) = forms.Ipv4Prefix
form_of_value (InterfaceId os) = forms.InterfaceId
form_of_value (Date n) = forms.Date
form_of_value (TaggedNumber tag n) = forms.TaggedInteger
form_of_value (TaggedText tag os) = forms.TaggedString

abbrev pub own_tag : FormValue → ℕ
own_tag value = unwrap_or (tag_of value) 0

-- what a printed text stands for: a text's what its quotes hold
abbrev pub unquoted : FormValue → List ℕ → List ℕ
unquoted (TaggedText tag os) text = double_quoted_octets (between_quotes text)
unquoted value text = text

-- a value's text and its printed text, read with its tag, are the value
pub record ReadsBack (value : FormValue) (id : AttrId) (dictionary : Dictionary) : Type 0 where
  pub text :
      (offset : Option ℤ)
      → option_map (with_tag (own_tag value))
      (form_spelled (form_of_value value) id offset (text_of id value dictionary) dictionary)
      ≡ Some value
  pub printed :
      (offset : Option ℤ)
      → option_map (with_tag (own_tag value))
      (form_spelled (form_of_value value) id offset
      (unquoted value (printed_text id value dictionary)) dictionary)
      ≡ Some value

-- the pair of a name and a text that stands for a value under it fits
abbrev pub WrittenValuesFit : Dictionary → Type 0
WrittenValuesFit dictionary =
    (profile : Profile) (name text : List ℕ) (offset : Option ℤ) (target : Target) (value : Value)
    → target_of profile dictionary name ≡ Some target
    → value_written profile target text offset dictionary ≡ Ok value
    → IsTrue (fits (pair_with target.named value) dictionary)

-- what is printed for octets: of those with a meaning a text that is read as the value they mean, whose octets are the
-- same ones exactly where they are the form's own; of those without one `0x` and the octets
pub record PrintsOctets (form : Form) (os : List ℕ) (id : AttrId) (dictionary : Dictionary) : Type 0 where
  pub read :
      (value : FormValue) → meaning form os ≡ Some value
      → (printed_octets form id os dictionary ≡ printed_text id value dictionary)
      × ReadsBack value id dictionary × (form_of_value value ≡ form)
      × (bytes_eq (octets_of value) os ≡ is_own form os)
  pub raw : meaning form os ≡ None → printed_octets form id os dictionary ≡ hexadecimal os
