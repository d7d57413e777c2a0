use Rattle.std.proofs.Common.{◌≡◌, ◌∙◌, List, ℕ, length, ap, arith}
use Rattle.avp_packet.specs.Packets.{attributes_signed, authenticator_of, request, request_authenticator, request_content}
use Rattle.avp_packet.proofs.Assembled.{length-packet, length-request_authenticator}
use Rattle.avp_packet.proofs.encoding.packets.encoded_authenticator.Goals as goal

pub copy_authenticator-requires : goal.copy_authenticator-requires
unfolding request
copy_authenticator-requires c =
    let attributes : List ℕ = attributes_signed c.args.dictionary.now c.args.secret.now c.args.code c.args.id c.args.authenticator.now (request_content c.args.code c.args.list.now) in
    let own : List ℕ = request_authenticator c.args.code c.args.id c.args.authenticator.now attributes c.args.secret.now in
    let long : length own ≡ 16 = length-request_authenticator c.args.code c.args.id c.args.authenticator.now attributes c.args.secret.now c.told-authenticator in
    omega (arith, ap length (c.deref.ensures.value ∙ c.in_ok-octets.ensures.octets), length-packet c.args.code c.args.id own attributes long)

pub returns-clause-authenticator : goal.returns-clause-authenticator
returns-clause-authenticator c = c.copy_authenticator.ensures ∙ ap authenticator_of (c.deref.ensures.value ∙ c.in_ok-octets.ensures.octets)
