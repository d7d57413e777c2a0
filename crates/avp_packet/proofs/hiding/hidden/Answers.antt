use Rattle.std.proofs.Common.{◌≡◌, ◌/◌, length}
use Rattle.std.proofs.lemmas.Result.{IfOk-weaker}
use Rattle.avp_packet.specs.Hiding.{hidden_blocks}
use Rattle.avp_packet.proofs.Nuls.{hidden_by}
use Rattle.avp_packet.proofs.hiding.hidden.Goals as goal

pub returns : goal.returns
returns c =
    let os = c.in_ok-padded.padded.items in
    IfOk-weaker c.hidden_blocks.result _ _
    (λ octets e.
    let h : octets.items ≡ hidden_blocks (length os / 16) c.args.secret.now c.args.authenticator.now os = cc (c.deref.ensures.value, e) in
    hidden_by c.args.secret.now c.args.authenticator.now c.args.password.now os octets.items c.in_ok-padded.ensures h)
    c.hidden_blocks.ensures
