use Rattle.std.proofs.Common.{rules, ◌≡◌, ◌∙◌, ℕ, List, Err, Ok, is_ok, sym, ap, subst}
use Rattle.avp_lists.specs.Meets.{Meets}
use Rattle.avp_packet.specs.declared.faults.PacketFault.TheVariants.{Memory}
use Rattle.avp_packet.specs.declared.packets.Packet.{Packet}
use Rattle.avp_packet.specs.Decoded.{packet_read}
use Rattle.avp_packet.specs.DecodedReply.{decoded_reply, reply_read}
use Rattle.avp_packet.specs.Meanings.{attribute_pairs}
use Rattle.avp_packet.specs.Outcomes.{is_memory}
use Rattle.avp_packet.specs.Packets.{attributes_of, hiding_authenticator}
use Rattle.avp_packet.specs.Splitting.{parts}
use Rattle.avp_packet.proofs.OneMeaning.{meant_by, only_by}
use Rattle.avp_packet.proofs.decoding.replies.decode_reply.Goals as goal

-- a fault of the octets is no want of memory
pub returns-in_err-count-clause-read : goal.returns-in_err-count-clause-read
unfolding decoded_reply
returns-in_err-count-clause-read c =
    let fault = c.in_err-count.field-0.0 in
    let refused : c.from_residual.result ≡ Err fault = search rules in
    let broken = c.in_err-count.ensures.broken (reply_read c.args.dictionary.now c.args.secret.now c.args.request_authenticator.now c.args.octets.now) in
    subst (λ result. Meets is_memory result (decoded_reply c.args.dictionary.now c.args.secret.now c.args.request_authenticator.now c.args.octets.now)) (sym refused) (rw c.in_err-count.ensures.certain broken)

pub returns-in_err-count-clause-memory : goal.returns-in_err-count-clause-memory
returns-in_err-count-clause-memory c =
    let fault = c.in_err-count.field-0.0 in
    let refused : c.from_residual.result ≡ Err fault = search rules in
    rw refused (λ memory. absurd (cc (memory, c.in_err-count.ensures.certain)))

pub returns-in-Some-clause-read : goal.returns-in-Some-clause-read
unfolding decoded_reply
returns-in-Some-clause-read c =
    rw c.in-Some.ensures.certain (c.in_ok-count.ensures.unbroken (reply_read c.args.dictionary.now c.args.secret.now c.args.request_authenticator.now c.args.octets.now) ∙ c.in-Some.ensures.some c.args.dictionary.now)

pub returns-in-Some-clause-memory : goal.returns-in-Some-clause-memory
returns-in-Some-clause-memory c = λ memory. absurd (cc (memory, c.in-Some.ensures.certain))

pub returns-in_err-read_packet-clause-memory : goal.returns-in_err-read_packet-clause-memory
unfolding decoded_reply
returns-in_err-read_packet-clause-memory c =
    let refused : c.from_residual-in_err-read_packet.result ≡ Err Memory = search rules in
    let read = c.in_ok-count.ensures.unbroken (reply_read c.args.dictionary.now c.args.secret.now c.args.request_authenticator.now c.args.octets.now) ∙ c.in_default.ensures.none c.args.dictionary.now in
    rw refused (λ _. ap is_ok read)

pub returns-clause-read : goal.returns-clause-read
unfolding decoded_reply
returns-clause-read c =
    let hide = c.hiding_authenticator.ensures in
    c.in_ok-count.ensures.unbroken (reply_read c.args.dictionary.now c.args.secret.now c.args.request_authenticator.now c.args.octets.now) ∙ c.in_default.ensures.none c.args.dictionary.now
    ∙ ap (λ (authenticator : List ℕ). Ok (packet_read c.args.dictionary.now c.args.secret.now authenticator c.args.octets.now)) (sym hide)
    ∙ ap Ok (sym c.in_ok-read_packet.ensures.packet)

pub returns-clause-means : goal.returns-clause-means
returns-clause-means c =
    let packet = c.in_ok-read_packet.ensures.packet in
    let same = c.hiding_authenticator.ensures ∙ ap (λ (code : ℕ). hiding_authenticator code c.args.request_authenticator.now) (sym (ap (λ (p : Packet). p.code) packet)) in
    let meant = c.in_ok-read_packet.ensures.means ∙ ap (λ (authenticator : List ℕ). attribute_pairs c.args.dictionary.now c.args.secret.now authenticator (parts (attributes_of c.args.octets.now))) same in
    meant_by c.args.dictionary.now c.args.secret.now _ (parts (attributes_of c.args.octets.now)) _ (sym meant)

pub returns-clause-only : goal.returns-clause-only
returns-clause-only c =
    let packet = c.in_ok-read_packet.ensures.packet in
    let same = c.hiding_authenticator.ensures ∙ ap (λ (code : ℕ). hiding_authenticator code c.args.request_authenticator.now) (sym (ap (λ (p : Packet). p.code) packet)) in
    let meant = c.in_ok-read_packet.ensures.means ∙ ap (λ (authenticator : List ℕ). attribute_pairs c.args.dictionary.now c.args.secret.now authenticator (parts (attributes_of c.args.octets.now))) same in
    only_by c.args.dictionary.now c.args.secret.now _ (parts (attributes_of c.args.octets.now)) _ meant
