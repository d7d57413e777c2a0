-- The head of a request that is written.
use Rattle.std.proofs.Common.{◌≡◌, ℕ, ◌≤◌, List, length, refl, subst, sym, arith}
use Rattle.avp_lists.specs.declared.pairs.Pair.{Pair}
use Rattle.avp_dict.specs.Dictionary.{Dictionary}
use Rattle.avp_packet.specs.Packets.{packet, packet_head_octets, request, request_authenticator, zeros}
use Rattle.avp_packet.proofs.Assembled.{length-packet, length-request_authenticator}

packet_is_long : (code : ℕ) (attributes secret : List ℕ) → packet_head_octets ≤ length (packet code 0 (request_authenticator code 0 zeros attributes secret) attributes)
packet_is_long code attributes secret =
    let long = length-packet code 0 (request_authenticator code 0 zeros attributes secret) attributes (length-request_authenticator code 0 zeros attributes secret refl) in
    omega (arith, long)

request_is_long : (dictionary : Dictionary) (secret : List ℕ) (code : ℕ) (pairs : List Pair) → packet_head_octets ≤ length (request dictionary secret code 0 zeros pairs)
unfolding request
request_is_long dictionary secret code pairs = packet_is_long code _ secret

pub request_has_head : (dictionary : Dictionary) (secret octets : List ℕ) (code : ℕ) (pairs : List Pair) → octets ≡ request dictionary secret code 0 zeros pairs → packet_head_octets ≤ length octets
request_has_head dictionary secret octets code pairs same =
    subst (λ (o : List ℕ). packet_head_octets ≤ length o) (sym same) (request_is_long dictionary secret code pairs)
