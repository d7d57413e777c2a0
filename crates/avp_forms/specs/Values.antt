-- What the octets of a form mean, and the octets of a value.
use Rattle.std.specs.Prelude.{ℕ, ◌-◌, Bool, true, false, not, ◌&&◌, ◌==◌, nat_le, if◌then◌else◌, List, [], ◌∷◌, ◌++◌, bytes_eq, drop, length, replicate, slice_index, Option, Some, None}
use Rattle.std.specs.Int.{to_be_bytes, w32}
use Rattle.std.specs.Int.Digits.{number_from_digits}
use Rattle.avp_lists.specs.declared.pairs.Value.{Value}
use Rattle.avp_lists.specs.declared.pairs.Value.TheVariants as values
use Rattle.avp_dict.specs.AttributeNumbers.{greatest_number}
use Rattle.avp_dict.specs.declared.forms.Form.{Form}
use Rattle.avp_dict.specs.declared.forms.Form.TheVariants as forms
use Rattle.avp_forms.specs.Prefixes.{masked}
use Rattle.avp_forms.specs.declared.values.FormValue.{FormValue}
use Rattle.avp_forms.specs.declared.values.FormValue.TheVariants.{Date, InterfaceId, Ipv4Prefix, Ipv6Address, Ipv6Prefix, TaggedNumber, TaggedText}

-- ---- tags (RFC 2868, section 3)

-- the greatest tag
abbrev pub max_tag : ℕ
max_tag = 31

-- the greatest number beside a tag, of three octets
abbrev pub max_tagged_number : ℕ
max_tagged_number = 16777215

-- the value with this tag, where its form has one
unfoldable pub with_tag : ℕ → FormValue → FormValue
with_tag tag (TaggedNumber other n) = TaggedNumber tag n
with_tag tag (TaggedText other os) = TaggedText tag os
with_tag tag value = value

unfoldable pub tag_of : FormValue → Option ℕ
tag_of (TaggedNumber tag n) = Some tag
tag_of (TaggedText tag os) = Some tag
tag_of value = None

-- ---- what octets mean

-- so many octets, and no other number of them
abbrev pub of_length : ℕ → (List ℕ → FormValue) → List ℕ → Option FormValue
of_length n value os = if length os == n then Some (value os) else None

-- the number whose digits in base 256 are the octets
abbrev pub date_of : List ℕ → FormValue
date_of os = Date (number_from_digits 256 os)

-- octets, and zeros up to so many
abbrev pub padded : ℕ → List ℕ → List ℕ
padded n os = os ++ replicate (n - length os) 0

-- an octet that is reserved, the prefix's length, and as many octets of the prefix as are there: those that are missing
-- are zeros, also where the length has bits in them (RFC 3162, section 2.3)
abbrev pub ipv6_prefix_meant : List ℕ → Option FormValue
ipv6_prefix_meant (reserved ∷ n ∷ os) =
    if nat_le n 128 && nat_le (length os) 16 then Some (Ipv6Prefix (masked n (padded 16 os)) n)
    else None
ipv6_prefix_meant _ = None

-- the same of all four octets (RFC 8044, section 3.11)
abbrev pub ipv4_prefix_meant : List ℕ → Option FormValue
ipv4_prefix_meant (reserved ∷ n ∷ os) =
    if nat_le n 32 && length os == 4 then Some (Ipv4Prefix (masked n os) n) else None
ipv4_prefix_meant _ = None

-- a tag, and a number of three octets (RFC 2868, section 3.1)
abbrev pub tagged_number_meant : List ℕ → Option FormValue
tagged_number_meant (tag ∷ os) =
    if nat_le tag max_tag && length os == 3 then Some (TaggedNumber tag (number_from_digits 256 os))
    else None
tagged_number_meant [] = None

-- a tag, where the first octet is one, and a text; else the whole text, with the tag 0 (RFC 2868, section 3.3)
abbrev pub tagged_text_meant : List ℕ → FormValue
tagged_text_meant [] = TaggedText 0 []
tagged_text_meant (tag ∷ os) = if nat_le tag max_tag then TaggedText tag os else TaggedText 0 (tag ∷ os)

-- the value that octets mean, by what the attribute's values stand for
unfoldable pub meaning : Form → List ℕ → Option FormValue
meaning forms.AsTyped os = None
meaning forms.Ipv6Address os = of_length 16 Ipv6Address os
meaning forms.Ipv6Prefix os = ipv6_prefix_meant os
meaning forms.Ipv4Prefix os = ipv4_prefix_meant os
meaning forms.InterfaceId os = of_length 8 InterfaceId os
meaning forms.Date os = of_length 4 date_of os
meaning forms.TaggedInteger os = tagged_number_meant os
meaning forms.TaggedString os = Some (tagged_text_meant os)

-- the same of a pair's value: a date is held as a number, and the others as octets
unfoldable pub meaning_of_value : Form → Value → Option FormValue
meaning_of_value form (values.Bytes os) = meaning form os
meaning_of_value forms.Date (values.Int n) = if nat_le n greatest_number then Some (Date n) else None
meaning_of_value form value = None

-- a text with a tag: the one value whose octets are kept in memory of their own
abbrev pub is_tagged_text : FormValue → Bool
is_tagged_text (TaggedText tag os) = true
is_tagged_text value = false

-- ---- the octets of a value

-- what is sent: of a prefix an octet 0, its length and the whole address; of a text with the tag 0 no tag
unfoldable pub octets_of : FormValue → List ℕ
octets_of (Ipv6Address os) = os
octets_of (Ipv6Prefix os n) = 0 ∷ n ∷ os
octets_of (Ipv4Prefix os n) = 0 ∷ n ∷ os
octets_of (InterfaceId os) = os
octets_of (Date n) = to_be_bytes w32 n
octets_of (TaggedNumber tag n) = tag ∷ drop 1 (to_be_bytes w32 n)
octets_of (TaggedText tag os) = if tag == 0 then os else tag ∷ os

-- the pair's value
unfoldable pub value_of : FormValue → Value
value_of (Date n) = values.Int n
value_of value = values.Bytes (octets_of value)

-- ---- own octets and bounds

abbrev pub is_untagged_or_nonzero : List ℕ → Bool
is_untagged_or_nonzero [] = true
is_untagged_or_nonzero (tag ∷ os) = not (tag == 0)

-- an octet 0 first, and no bit past the length
abbrev pub is_own_prefix : List ℕ → Bool
is_own_prefix os = slice_index os 0 == 0 && bytes_eq (masked (slice_index os 1) (drop 2 os)) (drop 2 os)

-- octets with a meaning that are those in which it is sent: the whole 18 of a prefix, with no bit past its length, and
-- no tag 0 before a text
unfoldable pub is_own : Form → List ℕ → Bool
is_own forms.Ipv6Prefix os = length os == 18 && is_own_prefix os
is_own forms.Ipv4Prefix os = is_own_prefix os
is_own forms.TaggedString os = is_untagged_or_nonzero os
is_own form os = true

-- a value within the bounds of its form
unfoldable pub is_proper : FormValue → Bool
is_proper (Ipv6Prefix os n) = nat_le n 128 && bytes_eq (masked n os) os
is_proper (Ipv4Prefix os n) = nat_le n 32 && bytes_eq (masked n os) os
is_proper (TaggedNumber tag n) = nat_le tag max_tag && nat_le n max_tagged_number
is_proper (TaggedText tag os) = nat_le tag max_tag
is_proper value = true
