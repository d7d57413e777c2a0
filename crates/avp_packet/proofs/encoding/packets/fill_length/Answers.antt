use Rattle.std.proofs.Common.{◌≡◌, length, arith}
use Rattle.std.proofs.lemmas.Grind.{common_steps}
use Rattle.std.specs.Int.{to_be_bytes, w16}
use Rattle.avp_packet.proofs.Filled.{length_in}
use Rattle.avp_packet.proofs.encoding.packets.fill_length.Goals as goal

pub returns : goal.returns
returns c = λ code id authenticator attributes long e.
    let told : c.to_be_bytes-length.result ≡ to_be_bytes w16 (length c.args.octets.now.items) = grind (arith, common_steps) in
    length_in code id authenticator attributes c.args.octets.now.items _ _ long e told c.fill_in.ensures
