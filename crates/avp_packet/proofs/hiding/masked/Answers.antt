use Rattle.std.proofs.Common.{arith}
use Rattle.avp_packet.proofs.Masks.{masked_more}
use Rattle.avp_packet.proofs.hiding.masked.Goals as goal

pub loop-place-preserved : goal.loop-place-preserved
loop-place-preserved g c =
    masked_more c.args.mask.now c.args.block.now c.loop-place.octets c.loop-place.place (omega arith) (omega arith) c.loop-place.invariant
