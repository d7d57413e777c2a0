use Rattle.std.proofs.Common.{rules, ◌≡◌, ◌∙◌, true, List, [], ℕ, Err, length, refl, sym, ap, arith}
use Rattle.std.specs.List.{All}
use Rattle.avp_lists.specs.declared.pairs.Pair.{Pair}
use Rattle.avp_dict.specs.Limits.{fits}
use Rattle.avp_dict.specs.Sent.{is_clean}
use Rattle.avp_packet.specs.declared.faults.EncodeFault.TheVariants.{Memory, TooLong}
use Rattle.avp_packet.specs.Packets.{attributes_signed, packet, request, request_content}
use Rattle.avp_packet.specs.Sending.{Content}
use Rattle.avp_packet.specs.internal.Filling.{divided_signed}
use Rattle.avp_packet.proofs.Assembled.{length-packet, length-request_authenticator}
use Rattle.avp_packet.proofs.SentLists.{signed_octets}
use Rattle.avp_packet.proofs.SentPackets.{packet_fits, packet_means, packet_short, packet_signed, packet_too_long, packet_whole}
use Rattle.avp_packet.proofs.encoding.packets.encode_request.Goals as goal

pub signed_packet-requires-clause-list_fits : goal.signed_packet-requires-clause-list_fits
signed_packet-requires-clause-list_fits c = c.divide_request-division.ensures.kept (λ (p : Pair). fits p c.args.dictionary.now) c.requires.fits

pub returns-in_err-octets-clause-too_long : goal.returns-in_err-octets-clause-too_long
unfolding request
returns-in_err-octets-clause-too_long c = λ err.
    let refused : c.signed_packet.result ≡ Err TooLong = search rules in
    packet_too_long c.args.dictionary.now c.args.secret.now c.args.code c.args.id c.args.authenticator.now (request_content c.args.code c.args.list.now) _ (length-request_authenticator _ _ _ _ _ c.told-authenticator)
    c.divide_request-division.result c.divide_request-division.ensures.divided (c.in_err-octets.ensures.too_long (sym c.in_err-octets.was ∙ refused))

pub returns-in_err-octets-clause-memory : goal.returns-in_err-octets-clause-memory
unfolding request
returns-in_err-octets-clause-memory c = λ err.
    let refused : c.signed_packet.result ≡ Err Memory = search rules in
    packet_fits c.args.dictionary.now c.args.secret.now c.args.code c.args.id c.args.authenticator.now (request_content c.args.code c.args.list.now) _ (length-request_authenticator _ _ _ _ _ c.told-authenticator)
    c.divide_request-division.result c.divide_request-division.ensures.divided (c.in_err-octets.ensures.memory (sym c.in_err-octets.was ∙ refused))

pub fill_request_authenticator-requires : goal.fill_request_authenticator-requires
fill_request_authenticator-requires c =
    let authenticator = c.args.authenticator.now in
    let laid : List ℕ = divided_signed c.args.dictionary.now c.args.secret.now c.args.code c.args.id authenticator c.divide_request-division.result [] in
    omega (arith, ap length c.in_ok-octets.ensures.octets, length-packet c.args.code c.args.id authenticator laid c.told-authenticator)

pub returns-clause-octets : goal.returns-clause-octets
unfolding request
returns-clause-octets c =
    let content : Content = request_content c.args.code c.args.list.now in
    let authenticator = c.args.authenticator.now in
    let attributes : List ℕ = attributes_signed c.args.dictionary.now c.args.secret.now c.args.code c.args.id authenticator content in
    c.fill_request_authenticator.ensures c.args.id authenticator attributes c.told-authenticator
    (c.in_ok-octets.ensures.octets ∙ ap (packet c.args.code c.args.id authenticator) (sym (signed_octets c.args.dictionary.now c.args.secret.now c.args.code c.args.id authenticator content c.divide_request-division.result c.divide_request-division.ensures.divided)))

pub returns-clause-short : goal.returns-clause-short
unfolding request
returns-clause-short c =
    packet_short c.args.dictionary.now c.args.secret.now c.args.code c.args.id c.args.authenticator.now (request_content c.args.code c.args.list.now) _ (length-request_authenticator _ _ _ _ _ c.told-authenticator)
    c.divide_request-division.result c.divide_request-division.ensures.divided c.in_ok-octets.octets.items c.told-authenticator c.in_ok-octets.ensures.octets c.in_ok-octets.ensures.short

pub returns-clause-whole : goal.returns-clause-whole
unfolding request
returns-clause-whole c =
    packet_whole c.args.dictionary.now c.args.secret.now c.args.code c.args.id c.args.authenticator.now (request_content c.args.code c.args.list.now) c.fill_request_authenticator.new.octets.items _
    (returns-clause-octets c) (length-request_authenticator _ _ _ _ _ c.told-authenticator) (returns-clause-short c)

pub returns-clause-means : goal.returns-clause-means
unfolding request is_clean
returns-clause-means c = λ clean.
    packet_means c.args.dictionary.now c.args.secret.now c.args.code c.args.id c.args.authenticator.now (request_content c.args.code c.args.list.now) c.fill_request_authenticator.new.octets.items _
    (returns-clause-octets c) (length-request_authenticator _ _ _ _ _ c.told-authenticator) (returns-clause-short c)
    c.divide_request-division.result c.divide_request-division.ensures.divided c.divide_request-division.ensures.kept
    c.is_sound.ensures.sound c.is_sound.ensures.formats c.requires.secret clean refl
    c.in_ok-octets.ensures.ranged

pub returns-clause-signed : goal.returns-clause-signed
unfolding request
returns-clause-signed c = λ is.
    let division = c.divide_request-division in
    let signing = division.ensures.divided.signed ∙ is in
    let none : All (λ (p : Pair). fits p c.args.dictionary.now ≡ true) [] = search rules in
    packet_signed c.args.dictionary.now c.args.secret.now c.args.code c.args.id c.args.authenticator.now (request_content c.args.code c.args.list.now) c.fill_request_authenticator.new.octets.items _
    (returns-clause-octets c) (length-request_authenticator _ _ _ _ _ c.told-authenticator) (returns-clause-short c)
    division.result division.ensures.divided division.ensures.kept
    signing (division.ensures.unsigned signing) refl c.requires.fits none
