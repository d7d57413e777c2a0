-- Packets that are not too long.
use Rattle.std.proofs.Common.{◌≡◌, ◌≤◌, ◌<◌, ℕ, List, Some, None, length, arith}
use Rattle.std.proofs.lemmas.Grind.{common_steps}
use Rattle.avp_packet.specs.Packets.{max_packet_octets}
use Rattle.radpolicy.specs.Replies.{within_packet}

pub is_within : (octets : List ℕ) → length octets ≤ max_packet_octets → within_packet octets ≡ Some octets
is_within octets h = grind (arith, common_steps)

pub is_too_long : (octets : List ℕ) → max_packet_octets < length octets → within_packet octets ≡ None
is_too_long octets h = grind (arith, common_steps)
