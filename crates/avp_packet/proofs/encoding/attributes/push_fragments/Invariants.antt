use Rattle.std.proofs.Common.{◌≡◌, ◌++◌, ◌-◌, ◌/◌, length}
use Rattle.std.specs.List.{flat_map}
use Rattle.avp_packet.specs.AttributeOctets.{fragments}
use Rattle.avp_packet.specs.Splitting.{part_octets}
use Rattle.avp_packet.specs.ExtendedTypes.{piece_octets}
use Rattle.avp_packet.proofs.encoding.attributes.push_fragments.Given as goal

abbrev pub invariant-loop-rest : goal.invariant-loop-rest
invariant-loop-rest l =
    l.octets.items ++ flat_map part_octets (fragments ((length l.rest - 1) / piece_octets) l.t l.number l.rest) ≡ l.fn.octets.items ++ flat_map part_octets (fragments ((length l.value - 1) / piece_octets) l.t l.number l.value)

abbrev pub decreases-loop-rest : goal.decreases-loop-rest
decreases-loop-rest l = length l.rest
