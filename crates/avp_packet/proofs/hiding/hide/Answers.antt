use Rattle.std.proofs.Common.{◌≡◌, true}
use Rattle.avp_dict.specs.Octets.{is_hideable}
use Rattle.avp_packet.proofs.Nuls.{shown-hidden}
use Rattle.avp_packet.proofs.hiding.hide.Goals as goal

pub returns-clause-shown : goal.returns-clause-shown
returns-clause-shown c =
    let good : is_hideable c.args.password.now ≡ true = cc (c.is_hideable.ensures.test, c.if-not-is_hideable.false) in
    rw c.in_ok-hidden.ensures (shown-hidden c.args.secret.now c.args.authenticator.now c.args.password.now good)
