use Rattle.std.proofs.Common.{append_assoc, ◌-◌, ◌/◌, length, arith, take, ◌∷◌}
use Rattle.std.specs.List.{flat_map}
use Rattle.avp_packet.specs.AttributeOctets.{fragments, part}
use Rattle.avp_packet.specs.Splitting.{part_octets}
use Rattle.avp_packet.specs.ExtendedTypes.{piece_octets, more_flag}
use Rattle.avp_packet.proofs.Written.{pieces_last, pieces_more}
use Rattle.avp_packet.proofs.encoding.attributes.push_fragments.Goals as goal

pub loop-rest-preserved : goal.loop-rest-preserved
loop-rest-preserved c =
    let rest = c.loop-rest.rest.now in
    let after = c.split_at.result.1.now in
    cc (
      c.loop-rest.invariant,
      c.in_ok-push_two_parts.ensures,
      c.split_at.ensures.front,
      c.split_at.ensures.back,
      pieces_more c.args.t c.args.number rest (omega arith),
      append_assoc c.loop-rest.octets.items (part_octets (part c.args.t (c.args.number ∷ more_flag ∷ take piece_octets rest))) (flat_map part_octets (fragments ((length after - 1) / piece_octets) c.args.t c.args.number after)),
    )

pub returns : goal.returns
returns c = cc (c.loop-rest.invariant, c.in_ok-push_two_parts-2.ensures, pieces_last c.args.t c.args.number c.loop-rest.rest.now (omega arith))
