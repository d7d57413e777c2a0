-- Which texts are read as IPv6 addresses, by a grammar.
use Rattle.std.specs.Prelude.{◌≡◌, ℕ, List, Some}
use Rattle.std.specs.Net.Addr.{octets_of}
use Rattle.std.specs.Net.Grammar.{IsColonHex}
use Rattle.avp_forms.specs.Ipv6Addresses.{ipv6_spelled}

-- each text of RFC 4291, section 2.2, is read as the address that it writes
abbrev pub ReadsEachAddress : Type 0
ReadsEachAddress =
    (text segments : List ℕ) → IsColonHex text segments
    → ipv6_spelled text ≡ Some (octets_of segments)

-- and no other text is read
abbrev pub ReadsNoOther : Type 0
ReadsNoOther =
    (text octets : List ℕ) → ipv6_spelled text ≡ Some octets
    → (segments : List ℕ) × IsColonHex text segments × (octets ≡ octets_of segments)
