-- The texts that are put in for values, and how long they are.
use Rattle.std.specs.Prelude.{ℕ, ◌+◌, ◌*◌, ◌≤◌, Bool, true, false, not, ◌&&◌, ◌||◌, nat_le, List, length, IfSome, is_some}
use Rattle.avp_lists.specs.declared.pairs.AttrId.{AttrId}
use Rattle.avp_lists.specs.declared.pairs.Value.{Value}
use Rattle.avp_lists.specs.declared.pairs.Value.TheVariants as values
use Rattle.avp_dict.specs.Dictionary.{Dictionary, name_numbered, tagged_name_numbered}
use Rattle.avp_dict.specs.Letters.{max_name}
use Rattle.avp_dict.specs.Limits.{max_long_octets}
use Rattle.avp_dict.specs.Octets.{kind_of}
use Rattle.avp_dict.specs.Printing.{hexadecimal}
use Rattle.avp_dict.specs.Sent.{is_container}
use Rattle.avp_forms.specs.declared.expansions.Expansion.{Expansion}
use Rattle.avp_forms.specs.declared.expansions.Expansion.TheVariants.{Digits, Octets, Short}

-- the text of what is put in
abbrev pub expanded : Expansion → List ℕ
expanded (Octets os) = os.now
expanded (Digits os) = hexadecimal os.now
expanded (Short text) = text.items

abbrev pub is_octets : Value → Bool
is_octets (values.Text os) = true
is_octets (values.Bytes os) = true
is_octets (values.Raw os) = true
is_octets _ = false

-- a value whose text its type gives: octets always; a number or an address where its attribute is no container and the
-- dictionary has its type
abbrev pub is_printed_by_type : AttrId → Value → Dictionary → Bool
is_printed_by_type id value dictionary =
    is_octets value || (not (is_container id) && is_some (kind_of id dictionary))

-- the most octets that are put in for a value: `0x`, and two digits for each octet of the longest one
abbrev pub max_expansion : ℕ
max_expansion = 2 + 2 * max_long_octets

-- octets that may be put in as digits (a text beside a tag is not) are no more than an attribute may have
abbrev pub has_few_digits : Value → Bool
has_few_digits (values.Bytes os) = nat_le (length os) max_long_octets
has_few_digits (values.Raw os) = nat_le (length os) max_long_octets
has_few_digits _ = true

abbrev pub AreFew : Expansion → Type 0
AreFew (Digits os) = length os.now ≤ max_long_octets
AreFew _ = Unit {0}

-- octets that are no more than an attribute may have; a number or an address is short
abbrev pub is_short_enough : Value → Bool
is_short_enough (values.Text os) = nat_le (length os) max_long_octets
is_short_enough (values.Bytes os) = nat_le (length os) max_long_octets
is_short_enough (values.Raw os) = nat_le (length os) max_long_octets
is_short_enough _ = true

abbrev pub IsShortName : List ℕ → Type 0
IsShortName name = length name ≤ max_name

-- no name that is printed for a number, alone or beside a tag, is longer than a name may be
abbrev pub HasShortNames : Dictionary → Type 0
HasShortNames dictionary =
    (id : AttrId) (number : ℕ) → IfSome (name_numbered id number dictionary.values) IsShortName
    × IfSome (tagged_name_numbered id number dictionary.tagged_values) IsShortName
