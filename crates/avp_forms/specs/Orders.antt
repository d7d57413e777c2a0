-- How octets compare by what they mean, each by its own form.
use Rattle.std.specs.Prelude.{ℕ, List, Option, Some, None}
use Rattle.std.specs.Option.{option_map}
use Rattle.std.specs.declared.cmp.Ordering.{Ordering}
use Rattle.avp_dict.specs.declared.forms.Form.{Form}
use Rattle.avp_dict.specs.declared.forms.Form.TheVariants as forms
use Rattle.avp_forms.specs.Comparisons.{compared, octet_order}
use Rattle.avp_forms.specs.Ipv6Addresses.{ipv6_spelled}
use Rattle.avp_forms.specs.Prefixes.{ipv6_prefix_spelled}
use Rattle.avp_forms.specs.Texts.{ipv6_prefix_value}
use Rattle.avp_forms.specs.Values.{meaning, octets_of}
use Rattle.avp_forms.specs.declared.values.FormValue.{FormValue}

-- the order of two values; where octets mean none, that of the octets
abbrev pub order_of_values : List ℕ → List ℕ → Option FormValue → Option FormValue → Option Ordering
order_of_values os ps (Some value) (Some other) = compared value other
order_of_values os ps _ _ = Some (octet_order os ps)

unfoldable pub order_by_meaning : Form → List ℕ → Form → List ℕ → Option Ordering
order_by_meaning form os other ps = order_of_values os ps (meaning form os) (meaning other ps)

-- An address compares with prefixes too, and a prefix with addresses: the octets that such a text stands for, and their
-- form.
abbrev pub prefix_octets : List ℕ × ℕ → Form × List ℕ
prefix_octets p = (forms.Ipv6Prefix, octets_of (ipv6_prefix_value p))

abbrev pub address_octets : List ℕ → Form × List ℕ
address_octets os = (forms.Ipv6Address, os)

unfoldable pub other_octets : Form → List ℕ → Option (Form × List ℕ)
other_octets forms.Ipv6Address text = option_map prefix_octets (ipv6_prefix_spelled text)
other_octets forms.Ipv6Prefix text = option_map address_octets (ipv6_spelled text)
other_octets form text = None
