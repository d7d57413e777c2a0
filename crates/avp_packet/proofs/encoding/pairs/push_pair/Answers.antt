use Rattle.std.proofs.Common.{◌≡◌, ◌<◌, true, false, length, sym, ap, ◌∙◌, append-nil, arith}
use Rattle.std.proofs.lemmas.Grind.{common_steps}
use Rattle.avp_dict.specs.Sent.{is_internal}
use Rattle.avp_packet.specs.AttributeOctets.{sent_octets}
use Rattle.avp_packet.proofs.AttributeRoom.{empty_unsent, internal_unsent, sent_alone, sent_held}
use Rattle.avp_packet.proofs.encoding.pairs.push_pair.Goals as goal

pub returns-then-is_internal-clause-octets : goal.returns-then-is_internal-clause-octets
returns-then-is_internal-clause-octets c =
    let internal : is_internal c.args.pair.now.id ≡ true = cc (c.is_internal.ensures.test, c.if-is_internal.true) in
    rw (internal_unsent c.args.keys.now.dictionary.now c.args.keys.now.secret.now c.args.keys.now.authenticator.now c.args.pair.now internal) (sym (append-nil c.args.octets.now.items))

pub returns-then-is_empty-clause-octets : goal.returns-then-is_empty-clause-octets
returns-then-is_empty-clause-octets c =
    let internal : is_internal c.args.pair.now.id ≡ false = cc (c.is_internal.ensures.test, c.if-is_internal.false) in
    let same : c.as_slice-value.result.now ≡ sent_octets c.args.keys.now.dictionary.now c.args.keys.now.secret.now c.args.keys.now.authenticator.now c.args.pair.now = c.as_slice-value.ensures.value ∙ c.in_ok-value.ensures in
    let none : length c.as_slice-value.result.now ≡ 0 = grind (arith, common_steps) in
    rw (empty_unsent c.args.keys.now.dictionary.now c.args.keys.now.secret.now c.args.keys.now.authenticator.now c.args.pair.now internal (sym (ap length same) ∙ none)) (sym (append-nil c.args.octets.now.items))

pub push_holding-requires : goal.push_holding-requires
push_holding-requires c =
    let internal : is_internal c.args.pair.now.id ≡ false = cc (c.is_internal.ensures.test, c.if-is_internal.false) in
    let same : c.as_slice-value.result.now ≡ sent_octets c.args.keys.now.dictionary.now c.args.keys.now.secret.now c.args.keys.now.authenticator.now c.args.pair.now = c.as_slice-value.ensures.value ∙ c.in_ok-value.ensures in
    rw same (sent_held c.args.keys.now.dictionary.now c.args.keys.now.secret.now c.args.keys.now.authenticator.now c.args.pair.now c.requires.fits internal)

pub returns-clause-octets : goal.returns-clause-octets
returns-clause-octets c =
    let internal : is_internal c.args.pair.now.id ≡ false = cc (c.is_internal.ensures.test, c.if-is_internal.false) in
    let same : c.as_slice-value.result.now ≡ sent_octets c.args.keys.now.dictionary.now c.args.keys.now.secret.now c.args.keys.now.authenticator.now c.args.pair.now = c.as_slice-value.ensures.value ∙ c.in_ok-value.ensures in
    let there : 0 < length c.as_slice-value.result.now = grind (arith, common_steps) in
    let long = ap length same in
    let some : 0 < length (sent_octets c.args.keys.now.dictionary.now c.args.keys.now.secret.now c.args.keys.now.authenticator.now c.args.pair.now) = omega arith in
    cc (sent_alone c.args.keys.now.dictionary.now c.args.keys.now.secret.now c.args.keys.now.authenticator.now c.args.pair.now internal some, same, c.in_ok-push_holding.ensures)
