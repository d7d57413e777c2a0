use Rattle.std.proofs.Common.{◌≡◌, ◌∙◌, ◌+◌, ◌≤◌, length, ap, arith}
use Rattle.avp_packet.proofs.Filled.{authenticator_in, length-put}
use Rattle.avp_packet.proofs.encoding.packets.fill_authenticator.Goals as goal

pub returns-clause-length : goal.returns-clause-length
returns-clause-length c =
    let long : length c.args.authenticator.now ≡ 16 = c.told-authenticator in
    let within : 4 + length c.args.authenticator.now ≤ length c.args.octets.now.items = omega (arith, long, c.requires) in
    ap length c.fill_in.ensures ∙ length-put c.args.octets.now.items 4 c.args.authenticator.now within

pub returns-clause-packet : goal.returns-clause-packet
returns-clause-packet c = λ code id others attributes same e.
    authenticator_in code id c.args.authenticator.now others attributes c.args.octets.now.items _ c.told-authenticator same e c.fill_in.ensures
