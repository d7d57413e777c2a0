-- The texts that stand for values, and the texts that are printed.
use Rattle.std.specs.Prelude.{ℕ, ℤ, Bool, true, false, nat_le, if◌then◌else◌, List, decimal, length, Option, Some, None, Result, Ok, Err}
use Rattle.std.specs.Option.{option_and_then, option_map, option_map_or, option_or, unwrap_or}
use Rattle.avp_lists.specs.declared.pairs.AttrId.{AttrId}
use Rattle.avp_dict.specs.Dictionary.{Dictionary, number_named, tagged_name_numbered}
use Rattle.avp_dict.specs.Limits.{greatest_length}
use Rattle.avp_dict.specs.Names.{form_of}
use Rattle.avp_dict.specs.Printing.{hexadecimal}
use Rattle.avp_dict.specs.Quotes.{quoted}
use Rattle.avp_dict.specs.Spellings.{up_to}
use Rattle.avp_dict.specs.declared.forms.Form.{Form}
use Rattle.avp_dict.specs.declared.forms.Form.TheVariants as forms
use Rattle.avp_dict.specs.declared.value.faults.ValueFault.{ValueFault}
use Rattle.avp_dict.specs.declared.value.faults.ValueFault.TheVariants.{NotValue, TooLong}
use Rattle.avp_forms.specs.Dates.{date_spelled, date_text}
use Rattle.avp_forms.specs.InterfaceIds.{interface_id_spelled, interface_id_text}
use Rattle.avp_forms.specs.Ipv6Addresses.{ipv6_address_text, ipv6_spelled}
use Rattle.avp_forms.specs.Numerals.{number_up_to}
use Rattle.avp_forms.specs.Prefixes.{ipv4_prefix_spelled, ipv4_prefix_text, ipv6_prefix_spelled, ipv6_prefix_text}
use Rattle.avp_forms.specs.Values.{max_tagged_number, meaning, octets_of, with_tag}
use Rattle.avp_forms.specs.declared.values.FormValue.{FormValue}
use Rattle.avp_forms.specs.declared.values.FormValue.TheVariants.{Date, InterfaceId, Ipv4Prefix, Ipv6Address, Ipv6Prefix, TaggedNumber, TaggedText}

-- ---- read

abbrev pub ipv6_prefix_value : List ℕ × ℕ → FormValue
ipv6_prefix_value p = Ipv6Prefix p.0 p.1

abbrev pub ipv4_prefix_value : List ℕ × ℕ → FormValue
ipv4_prefix_value p = Ipv4Prefix p.0 p.1

abbrev pub untagged_number : ℕ → FormValue
untagged_number n = TaggedNumber 0 n

-- the number beside a tag: its digits, or a name that VALUE lines give to it
unfoldable pub tagged_number_spelled : AttrId → List ℕ → Dictionary → Option ℕ
tagged_number_spelled id text dictionary =
    option_or (number_up_to max_tagged_number text)
    (up_to max_tagged_number (number_named id text dictionary.tagged_values))

-- the value that a text stands for, with the tag 0; offset is that of zones other than UTC, as for `date_spelled`
unfoldable pub form_spelled : Form → AttrId → Option ℤ → List ℕ → Dictionary → Option FormValue
form_spelled forms.AsTyped id offset text dictionary = None
form_spelled forms.Ipv6Address id offset text dictionary = option_map Ipv6Address (ipv6_spelled text)
form_spelled forms.Ipv6Prefix id offset text dictionary =
    option_map ipv6_prefix_value (ipv6_prefix_spelled text)
form_spelled forms.Ipv4Prefix id offset text dictionary =
    option_map ipv4_prefix_value (ipv4_prefix_spelled text)
form_spelled forms.InterfaceId id offset text dictionary =
    option_map InterfaceId (interface_id_spelled text)
form_spelled forms.Date id offset text dictionary = option_map Date (date_spelled offset text)
form_spelled forms.TaggedInteger id offset text dictionary =
    option_map untagged_number (tagged_number_spelled id text dictionary)
form_spelled forms.TaggedString id offset text dictionary = Some (TaggedText 0 text)

abbrev pub unless_long : ℕ → Option FormValue → Result FormValue ValueFault
unless_long most None = Err NotValue
unless_long most (Some value) = if nat_le (length (octets_of value)) most then Ok value else Err TooLong

-- the value with a tag of a text, or the first reason that there is none: an attribute without a form has no such
-- values, and its octets are no more than the attribute may have
unfoldable pub value_spelled : AttrId → ℕ → Option ℤ → List ℕ → Dictionary
    → Result FormValue ValueFault
value_spelled id tag offset text dictionary =
    unless_long (greatest_length id dictionary)
    (option_map (with_tag tag)
    (option_and_then (λ form. form_spelled form id offset text dictionary) (form_of id dictionary)))

abbrev pub is_text_form : Form → Bool
is_text_form forms.TaggedString = true
is_text_form form = false

-- the attribute's values are texts with a tag: memory is taken for these alone when texts are read
abbrev pub keeps_text : AttrId → Dictionary → Bool
keeps_text id dictionary = option_map_or is_text_form (form_of id dictionary) false

-- ---- printed

-- a value's text, without its tag, and without quotes: the number beside a tag by the last name that a VALUE line gives
unfoldable pub text_of : AttrId → FormValue → Dictionary → List ℕ
text_of id (Ipv6Address os) dictionary = ipv6_address_text os
text_of id (Ipv6Prefix os n) dictionary = ipv6_prefix_text os n
text_of id (Ipv4Prefix os n) dictionary = ipv4_prefix_text os n
text_of id (InterfaceId os) dictionary = interface_id_text os
text_of id (Date n) dictionary = date_text n
text_of id (TaggedNumber tag n) dictionary =
    unwrap_or (tagged_name_numbered id n dictionary.tagged_values) (decimal n)
text_of id (TaggedText tag os) dictionary = os

-- the same with a text in double quotes
unfoldable pub printed_text : AttrId → FormValue → Dictionary → List ℕ
printed_text id (TaggedText tag os) dictionary = quoted os
printed_text id value dictionary = text_of id value dictionary

-- what is printed for octets: those without a meaning as `0x..`
unfoldable pub printed_octets : Form → AttrId → List ℕ → Dictionary → List ℕ
printed_octets form id os dictionary =
    option_map_or (λ value. printed_text id value dictionary) (meaning form os) (hexadecimal os)
