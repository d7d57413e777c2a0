use Rattle.std.proofs.Common.{rules, ◌≡◌, ◌∙◌, ◌++◌, List, ℕ, length, false, Err, refl, sym, ap, subst, arith}
use Rattle.md5.specs.Md5.{md5}
use Rattle.avp_lists.specs.declared.pairs.Pair.{Pair}
use Rattle.avp_dict.specs.Limits.{fits}
use Rattle.avp_packet.specs.declared.faults.EncodeFault.TheVariants.{Memory, TooLong}
use Rattle.avp_packet.specs.PacketMeaning.{OctetsMean}
use Rattle.avp_packet.specs.Packets.{IsReplyCode, attributes_signed, code_of, digest_over, id_of, packet, pairs_meant, reply, reply_content}
use Rattle.avp_packet.specs.Sending.{Content}
use Rattle.avp_packet.specs.internal.Filling.{divided_signed}
use Rattle.avp_packet.proofs.Assembled.{is_reply-packet, length-digest_over, length-packet}
use Rattle.avp_packet.proofs.RepliesReadBack.{read_again, rightly_signed}
use Rattle.avp_packet.proofs.SentLists.{proxies_unsigned, signed_octets}
use Rattle.avp_packet.proofs.SentPackets.{packet_fits, packet_means, packet_short, packet_signed, packet_too_long, packet_unsigned, packet_whole}
use Rattle.avp_packet.proofs.encoding.packets.encode_reply.Goals as goal

pub signed_packet-requires-clause-list_fits : goal.signed_packet-requires-clause-list_fits
signed_packet-requires-clause-list_fits c = c.divide_reply-division.ensures.kept (λ (p : Pair). fits p c.args.dictionary.now) c.requires.fits

pub returns-in_err-octets-clause-too_long : goal.returns-in_err-octets-clause-too_long
unfolding reply
returns-in_err-octets-clause-too_long c = λ err.
    let refused : c.signed_packet.result ≡ Err TooLong = search rules in
    packet_too_long c.args.dictionary.now c.args.secret.now c.args.code c.args.id c.args.request_authenticator.now (reply_content c.args.signed c.args.list.now c.args.proxy_states.now) _ (length-digest_over _ _ _ _ _)
    c.divide_reply-division.result c.divide_reply-division.ensures.divided (c.in_err-octets.ensures.too_long (sym c.in_err-octets.was ∙ refused))

pub returns-in_err-octets-clause-memory : goal.returns-in_err-octets-clause-memory
unfolding reply
returns-in_err-octets-clause-memory c = λ err.
    let refused : c.signed_packet.result ≡ Err Memory = search rules in
    packet_fits c.args.dictionary.now c.args.secret.now c.args.code c.args.id c.args.request_authenticator.now (reply_content c.args.signed c.args.list.now c.args.proxy_states.now) _ (length-digest_over _ _ _ _ _)
    c.divide_reply-division.result c.divide_reply-division.ensures.divided (c.in_err-octets.ensures.memory (sym c.in_err-octets.was ∙ refused))

pub fill_authenticator-requires : goal.fill_authenticator-requires
fill_authenticator-requires c =
    let authenticator = c.args.request_authenticator.now in
    let laid : List ℕ = divided_signed c.args.dictionary.now c.args.secret.now c.args.code c.args.id authenticator c.divide_reply-division.result c.args.proxy_states.now in
    omega (arith, ap length c.in_ok-octets.ensures.octets, length-packet c.args.code c.args.id authenticator laid c.told-request_authenticator)

pub returns-clause-octets : goal.returns-clause-octets
unfolding reply digest_over
returns-clause-octets c =
    let content : Content = reply_content c.args.signed c.args.list.now c.args.proxy_states.now in
    let authenticator = c.args.request_authenticator.now in
    let attributes : List ℕ = attributes_signed c.args.dictionary.now c.args.secret.now c.args.code c.args.id authenticator content in
    let laid : c.in_ok-octets.octets.items ≡ packet c.args.code c.args.id authenticator attributes =
    c.in_ok-octets.ensures.octets ∙ ap (packet c.args.code c.args.id authenticator) (sym (signed_octets c.args.dictionary.now c.args.secret.now c.args.code c.args.id authenticator content c.divide_reply-division.result c.divide_reply-division.ensures.divided)) in
    let digest : c.digest_under-digest.result ≡ digest_over c.args.code c.args.id authenticator attributes c.args.secret.now =
    c.digest_under-digest.ensures ∙ ap (λ (os : List ℕ). md5 (os ++ c.args.secret.now)) (c.deref.ensures.value ∙ laid) in
    c.fill_authenticator.ensures.packet c.args.code c.args.id authenticator attributes c.told-request_authenticator laid
    ∙ ap (λ (os : List ℕ). packet c.args.code c.args.id os attributes) digest

pub returns-clause-short : goal.returns-clause-short
unfolding reply
returns-clause-short c =
    packet_short c.args.dictionary.now c.args.secret.now c.args.code c.args.id c.args.request_authenticator.now (reply_content c.args.signed c.args.list.now c.args.proxy_states.now) _ (length-digest_over _ _ _ _ _)
    c.divide_reply-division.result c.divide_reply-division.ensures.divided c.in_ok-octets.octets.items c.told-request_authenticator c.in_ok-octets.ensures.octets c.in_ok-octets.ensures.short

pub returns-clause-accepted : goal.returns-clause-accepted
unfolding reply
returns-clause-accepted c =
    let attributes : List ℕ = attributes_signed c.args.dictionary.now c.args.secret.now c.args.code c.args.id c.args.request_authenticator.now (reply_content c.args.signed c.args.list.now c.args.proxy_states.now) in
    let size = length-packet c.args.code c.args.id (digest_over c.args.code c.args.id c.args.request_authenticator.now attributes c.args.secret.now) attributes (length-digest_over _ _ _ _ _) in
    rw (returns-clause-octets c) (is_reply-packet c.args.code c.args.id c.args.request_authenticator.now attributes c.args.secret.now (omega (arith, size, returns-clause-short c)))

pub returns-clause-whole : goal.returns-clause-whole
unfolding reply
returns-clause-whole c =
    packet_whole c.args.dictionary.now c.args.secret.now c.args.code c.args.id c.args.request_authenticator.now (reply_content c.args.signed c.args.list.now c.args.proxy_states.now) c.fill_authenticator.new.octets.items _
    (returns-clause-octets c) (length-digest_over _ _ _ _ _) (returns-clause-short c)

pub returns-clause-means : goal.returns-clause-means
unfolding reply
returns-clause-means c = λ clean proxies_clean.
    packet_means c.args.dictionary.now c.args.secret.now c.args.code c.args.id c.args.request_authenticator.now (reply_content c.args.signed c.args.list.now c.args.proxy_states.now) c.fill_authenticator.new.octets.items _
    (returns-clause-octets c) (length-digest_over _ _ _ _ _) (returns-clause-short c)
    c.divide_reply-division.result c.divide_reply-division.ensures.divided c.divide_reply-division.ensures.kept
    c.is_sound.ensures.sound c.is_sound.ensures.formats c.requires.secret clean proxies_clean
    c.in_ok-octets.ensures.ranged

pub returns-clause-signed : goal.returns-clause-signed
unfolding reply
returns-clause-signed c = λ is.
    let division = c.divide_reply-division in
    packet_signed c.args.dictionary.now c.args.secret.now c.args.code c.args.id c.args.request_authenticator.now (reply_content c.args.signed c.args.list.now c.args.proxy_states.now) c.fill_authenticator.new.octets.items _
    (returns-clause-octets c) (length-digest_over _ _ _ _ _) (returns-clause-short c)
    division.result division.ensures.divided division.ensures.kept
    (division.ensures.divided.signed ∙ is) division.ensures.unsigned (proxies_unsigned c.args.proxy_states.now c.requires.proxies) c.requires.fits c.requires.proxies_fit

pub returns-clause-decoded : goal.returns-clause-decoded
unfolding reply packet
returns-clause-decoded c = λ clean proxies_clean.
    let division = c.divide_reply-division in
    let os = c.fill_authenticator.new.octets.items in
    let content : Content = reply_content c.args.signed c.args.list.now c.args.proxy_states.now in
    let own : code_of os ≡ c.args.code = ap code_of (returns-clause-octets c) in
    let named : id_of os ≡ c.args.id = ap id_of (returns-clause-octets c) in
    let unsigned = λ (plain : c.args.signed ≡ false). packet_unsigned c.args.dictionary.now c.args.secret.now c.args.code c.args.id c.args.request_authenticator.now content os _
    (returns-clause-octets c) (length-digest_over _ _ _ _ _) (returns-clause-short c)
    division.result division.ensures.divided division.ensures.kept
    (division.ensures.divided.signed ∙ plain) division.ensures.unsigned (proxies_unsigned c.args.proxy_states.now c.requires.proxies) c.requires.fits c.requires.proxies_fit in
    let signed = rightly_signed os c.args.request_authenticator.now c.args.secret.now c.args.signed (λ e. c.requires.signed (sym own ∙ e)) (returns-clause-signed c) unsigned in
    let means = subst (λ code. OctetsMean c.args.dictionary.now c.args.secret.now code c.args.request_authenticator.now os (pairs_meant c.args.dictionary.now c.args.secret.now c.args.code c.args.id c.args.request_authenticator.now content)) (sym own) (returns-clause-means c clean proxies_clean) in
    let read = read_again c.args.dictionary.now c.args.secret.now c.args.request_authenticator.now os _ (returns-clause-accepted c) (returns-clause-whole c) (subst IsReplyCode (sym own) c.requires.code) signed means in
    read ∙ rw (own, named) refl
