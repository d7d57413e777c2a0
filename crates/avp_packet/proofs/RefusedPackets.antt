-- Where octets are refused as a packet.
use Rattle.std.proofs.Common.{◌≡◌, ◌∙◌, ℕ, ◌+◌, ◌-◌, ◌<◌, ◌≤◌, true, false, nat_lt, List, [], ◌∷◌, ◌++◌, length, Result, Err, refl, ap, arith}
use Rattle.avp_packet.specs.declared.faults.PacketFault.{PacketFault}
use Rattle.avp_packet.specs.declared.faults.PacketFault.TheVariants.{BadAttribute}
use Rattle.avp_packet.specs.declared.packets.Packet.{Packet}
use Rattle.avp_packet.specs.Decoded.{unless_broken, unless_left}
use Rattle.avp_packet.specs.Packets.{attributes_of, is_packet_length, length_of}
use Rattle.avp_packet.specs.Splitting.{Part, begins_whole, left, part_octets}
use Rattle.avp_packet.proofs.Splits.{left-none, left-octets, left_short}

bad_by : (end : ℕ) (rest : List ℕ) (read : Result Packet PacketFault) → 0 < length rest → unless_left end rest read ≡ Err (BadAttribute (end - length rest))
bad_by end [] read some = absurd (omega arith)
bad_by end (o ∷ os) read some = refl

-- the first attribute that is not whole
pub broken_bad : (os : List ℕ) (offset : ℕ) (read : Result Packet PacketFault) → nat_lt (length os) 20 ≡ false → is_packet_length (length_of os) ≡ true → nat_lt (length os) (length_of os) ≡ false
    → 0 < length (left (attributes_of os)) → offset ≡ length (attributes_of os) - length (left (attributes_of os)) → unless_broken os read ≡ Err (BadAttribute (20 + offset))
broken_bad os offset read a b d some e =
    let attributes : List ℕ = attributes_of os in
    let within : length (left attributes) ≤ length attributes = left_short attributes in
    let same : 20 + length attributes - length (left attributes) ≡ 20 + offset = omega arith in
    rw (a, b, d) (bad_by (20 + length attributes) (left attributes) read some ∙ ap (λ n. Err (BadAttribute n)) same)

-- after a whole attribute
pub left_more : (octets rest : List ℕ) (p : Part) → octets ≡ part_octets p ++ rest → left octets ≡ left rest
left_more octets rest p e = ap left e ∙ left-octets p rest

pub left_empty : (octets : List ℕ) → begins_whole octets ≡ false → length octets ≡ 0 → left octets ≡ []
left_empty octets h e = left-none octets h ∙ go octets e
  where
    go : (os : List ℕ) → length os ≡ 0 → os ≡ []
    go [] k = refl
    go (o ∷ os) k = absurd (omega arith)
