use Rattle.std.proofs.Common.{◌≡◌, ◌+◌, ◌-◌, length, arith}
use Rattle.std.proofs.lemmas.Grind.{common_steps}
use Rattle.avp_packet.proofs.Filled.{put_in}
use Rattle.avp_packet.proofs.encoding.packets.fill_in.Goals as goal

pub returns : goal.returns
returns c =
    let os = c.args.octets.now.items in
    let place = c.args.place in
    let filling = c.args.filling.now in
    let long : c.args.octets.now.len ≡ length os = grind (arith, common_steps) in
    put_in os place filling c.requires c.args.octets.now.len (place + length filling - place) c.deref_mut.result.now c.copy_from_slice.new.self long (omega arith) c.deref_mut.ensures.value c.copy_from_slice.ensures.after
