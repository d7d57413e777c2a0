use Rattle.avp_packet.proofs.Nuls.{popped_nul, without_no_nuls}
use Rattle.avp_packet.proofs.hiding.drop_last_nuls.Goals as goal

pub loop-octets-preserved : goal.loop-octets-preserved
loop-octets-preserved c =
    let last = popped_nul c.loop-octets.octets.items c.pop.new.self.items c.pop.result c.pop.ensures.items cc in
    cc (last, c.loop-octets.invariant)

pub returns : goal.returns
returns c = cc (without_no_nuls c.loop-octets.octets.items cc, c.loop-octets.invariant)
