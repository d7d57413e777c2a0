use Rattle.std.proofs.Common.{◌≡◌, ◌<◌, ◌≤◌, true, false, List, ℕ, length, sym, ap, ◌∙◌, arith}
use Rattle.avp_dict.specs.Sent.{is_internal}
use Rattle.avp_packet.specs.AttributeOctets.{sent_octets}
use Rattle.avp_packet.proofs.AttributeRoom.{empty_unsent, internal_unsent, sent_alone, sent_short}
use Rattle.avp_packet.proofs.encoding.lengths.attributes_length.Goals as goal

pub returns-then-is_internal : goal.returns-then-is_internal
returns-then-is_internal c =
    let internal : is_internal c.args.pair.now.id ≡ true = cc (c.is_internal.ensures.test, c.if-is_internal.true) in
    sym (ap length (internal_unsent c.args.keys.now.dictionary.now c.args.keys.now.secret.now c.args.keys.now.authenticator.now c.args.pair.now internal))

pub returns-then-count-lt1 : goal.returns-then-count-lt1
returns-then-count-lt1 c =
    let internal : is_internal c.args.pair.now.id ≡ false = cc (c.is_internal.ensures.test, c.if-is_internal.false) in
    let sent : List ℕ = sent_octets c.args.keys.now.dictionary.now c.args.keys.now.secret.now c.args.keys.now.authenticator.now c.args.pair.now in
    let same : c.sent_length-count.result ≡ length sent = c.sent_length-count.ensures in
    let none : length sent ≡ 0 = omega (arith, same, c.if-count-lt1.true) in
    sym (ap length (empty_unsent c.args.keys.now.dictionary.now c.args.keys.now.secret.now c.args.keys.now.authenticator.now c.args.pair.now internal none))

pub holding_length-requires : goal.holding_length-requires
holding_length-requires c =
    let sent : List ℕ = sent_octets c.args.keys.now.dictionary.now c.args.keys.now.secret.now c.args.keys.now.authenticator.now c.args.pair.now in
    let same : c.sent_length-count.result ≡ length sent = c.sent_length-count.ensures in
    let short : length sent ≤ 4096 = sent_short c.args.keys.now.dictionary.now c.args.keys.now.secret.now c.args.keys.now.authenticator.now c.args.pair.now c.requires in
    omega (arith, same, short)

pub returns : goal.returns
returns c =
    let internal : is_internal c.args.pair.now.id ≡ false = cc (c.is_internal.ensures.test, c.if-is_internal.false) in
    let sent : List ℕ = sent_octets c.args.keys.now.dictionary.now c.args.keys.now.secret.now c.args.keys.now.authenticator.now c.args.pair.now in
    let same : c.sent_length-count.result ≡ length sent = c.sent_length-count.ensures in
    let some : 0 < length sent = omega (arith, same, c.if-count-lt1.false) in
    c.holding_length.ensures sent (sym same)
    ∙ sym (ap length (sent_alone c.args.keys.now.dictionary.now c.args.keys.now.secret.now c.args.keys.now.authenticator.now c.args.pair.now internal some))
