-- What the types of values keep their octets and numbers within.
use Rattle.std.specs.Prelude.{◌≡◌, ℕ, ◌<◌, ◌^◌, List, length, slice_index}
use Rattle.avp_lists.specs.declared.pairs.Value.{Value}
use Rattle.avp_lists.specs.declared.pairs.Value.TheVariants as values
use Rattle.avp_forms.specs.declared.values.FormValue.{FormValue}
use Rattle.avp_forms.specs.declared.values.FormValue.TheVariants.{Date, InterfaceId, Ipv4Prefix, Ipv6Address, Ipv6Prefix, TaggedNumber, TaggedText}

abbrev pub AreOctets : List ℕ → Type 0
AreOctets os = (i : ℕ) → slice_index os i < 256

abbrev pub AreSoMany : ℕ → List ℕ → Type 0
AreSoMany n os = (length os ≡ n) × AreOctets os

abbrev pub IsInRange : FormValue → Type 0
IsInRange (Ipv6Address os) = AreSoMany 16 os
IsInRange (Ipv6Prefix os n) = AreSoMany 16 os
IsInRange (Ipv4Prefix os n) = AreSoMany 4 os
IsInRange (InterfaceId os) = AreSoMany 8 os
IsInRange (Date n) = n < 2 ^ 32
IsInRange (TaggedNumber tag n) = n < 2 ^ 32
IsInRange (TaggedText tag os) = AreOctets os

-- the same of a pair's value that is octets
abbrev pub AreBytesInRange : Value → Type 0
AreBytesInRange (values.Bytes os) = AreOctets os
AreBytesInRange value = Unit {0}
