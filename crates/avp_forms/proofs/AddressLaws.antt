-- What texts are read as addresses, and that printed ones are.
use Rattle.std.proofs.Common.{◌≡◌, ◌∙◌, ℕ, List, Some, option_map, ap, sym, length}
use Rattle.std.specs.Net.Addr.{octets_of, segments_of}
use Rattle.std.specs.Net.Reader.{read_ipv6, whole_value}
use Rattle.std.proofs.NetLemmas.Options.{map_some}
use Rattle.std.proofs.NetLemmas.Texts.{IsColonHex-ipv6_text}
use Rattle.avp_forms.specs.AddressLaws.{ReadsEachAddress, ReadsNoOther}
use Rattle.avp_forms.specs.Ipv6Addresses.{ipv6_address_text, ipv6_spelled}
use Rattle.avp_forms.proofs.AddressTexts.{ipv6_whole, whole_ipv6}
use Rattle.avp_forms.proofs.Segments.{AreOctets, length-segments_of, segments_back, segments_fit}

pub reads_each_address : ReadsEachAddress
unfolding ipv6_spelled
reads_each_address text segments is = ap (option_map octets_of) (whole_ipv6 text segments is)

pub reads_no_other : ReadsNoOther
unfolding ipv6_spelled
reads_no_other text octets e =
    map_some octets_of (whole_value (read_ipv6 text)) octets e
    (λ segments whole same. (segments, ipv6_whole text segments whole, sym same))

-- a printed address is read back
pub address_back : (os : List ℕ) → length os ≡ 16 → AreOctets os → ipv6_spelled (ipv6_address_text os) ≡ Some os
unfolding ipv6_address_text
address_back os e h =
    let is = IsColonHex-ipv6_text (segments_of os) (length-segments_of 8 os e) (segments_fit 8 os e h) in
    reads_each_address _ (segments_of os) is ∙ ap (λ (xs : List ℕ). Some xs) (segments_back 8 os e h)
