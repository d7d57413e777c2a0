use Rattle.std.proofs.Common.{rules, ◌≡◌, ◌∙◌, ℕ, Err, ◌+◌, ◌++◌, ◌∷◌, [], List, drop, length, sym, ap, append-nil, arith}
use Rattle.std.proofs.lemmas.List.{drop_all, drop_more, length-append}
use Rattle.avp_lists.specs.declared.pairs.Pair.{Pair}
use Rattle.avp_dict.specs.Dictionary.{Dictionary}
use Rattle.avp_packet.specs.AttributeOctets.{attribute_octets}
use Rattle.avp_packet.specs.internal.Filling.{kept_pairs}
use Rattle.avp_packet.specs.declared.faults.EncodeFault.TheVariants.{TooLong}
use Rattle.avp_packet.proofs.Written.{kept-cons, kept-nil, ranged_more, written-more}
use Rattle.avp_packet.proofs.encoding.pairs.push_each.Goals as goal

-- keys that know more write the same
same_octets : (d e : Dictionary) (s t a b : List ℕ) (ps : List Pair) → d ≡ e → s ≡ t → a ≡ b → attribute_octets d s a ps ≡ attribute_octets e t b ps
same_octets d e s t a b ps dictionary secret authenticator = cc (dictionary, secret, authenticator)

pub loop-pair-preserved : goal.loop-pair-preserved
loop-pair-preserved c =
    let at = c.loop-pair.pair-index in
    let old = c.loop-pair.octets.items in
    let all = c.args.all in
    let k = c.know-typing.new.self in
    let dictionary : k.dictionary.now ≡ c.args.keys.now.dictionary.now = c.know-typing.ensures.dictionary ∙ c.loop-pair.invariant.dictionary in
    let secret : k.secret.now ≡ c.args.keys.now.secret.now = c.know-typing.ensures.secret ∙ c.loop-pair.invariant.secret in
    let authenticator : k.authenticator.now ≡ c.args.keys.now.authenticator.now = c.know-typing.ensures.authenticator ∙ c.loop-pair.invariant.authenticator in
    let same = same_octets k.dictionary.now c.args.keys.now.dictionary.now k.secret.now c.args.keys.now.secret.now k.authenticator.now c.args.keys.now.authenticator.now (kept_pairs all (c.pair-item.result ∷ [])) dictionary secret authenticator in
    let e = c.in_ok-push_kept.ensures.ok ∙ ap (λ (os : List ℕ). old ++ os) same ∙ ap (λ (p : Pair). old ++ attribute_octets c.args.keys.now.dictionary.now c.args.keys.now.secret.now c.args.keys.now.authenticator.now (kept_pairs all (p ∷ []))) c.pair-item.is in
    record {
      written = written-more c.args.keys.now.dictionary.now c.args.keys.now.secret.now c.args.keys.now.authenticator.now all old c.push_kept.new.octets.items c.args.list.now at c.pair-item.result (omega arith) e ∙ c.loop-pair.invariant.written;
      ranged = ranged_more at c.args.list.now c.pair-item.result c.pair-item.is (omega arith) c.in_ok-push_kept.ensures.ranged c.loop-pair.invariant.ranged;
      short = c.in_ok-push_kept.ensures.short;
      dictionary = dictionary;
      secret = secret;
      authenticator = authenticator;
    }

pub returns-clause-ok : goal.returns-clause-ok
returns-clause-ok c =
    let none : drop c.loop-pair.pair-index c.args.list.now ≡ [] = drop_all c.loop-pair.pair-index c.args.list.now (omega arith) in
    let end : attribute_octets c.args.keys.now.dictionary.now c.args.keys.now.secret.now c.args.keys.now.authenticator.now (kept_pairs c.args.all (drop c.loop-pair.pair-index c.args.list.now)) ≡ [] = rw none (kept-nil c.args.keys.now.dictionary.now c.args.keys.now.secret.now c.args.keys.now.authenticator.now c.args.all) in
    cc (end, append-nil c.loop-pair.octets.items, c.loop-pair.invariant.written)

pub returns-in_err-push_kept-clause-too_long : goal.returns-in_err-push_kept-clause-too_long
returns-in_err-push_kept-clause-too_long c = λ err.
    let at = c.loop-pair.pair-index in
    let old = c.loop-pair.octets.items in
    let written = λ (ps : List Pair). attribute_octets c.args.keys.now.dictionary.now c.args.keys.now.secret.now c.args.keys.now.authenticator.now (kept_pairs c.args.all ps) in
    let k = c.know-typing.new.self in
    let same = same_octets k.dictionary.now c.args.keys.now.dictionary.now k.secret.now c.args.keys.now.secret.now k.authenticator.now c.args.keys.now.authenticator.now (kept_pairs c.args.all (c.pair-item.result ∷ []))
    (c.know-typing.ensures.dictionary ∙ c.loop-pair.invariant.dictionary) (c.know-typing.ensures.secret ∙ c.loop-pair.invariant.secret) (c.know-typing.ensures.authenticator ∙ c.loop-pair.invariant.authenticator) in
    let alike = ap length same in
    let refused : c.push_kept.result ≡ Err TooLong = search rules in
    let here = c.in_err-push_kept.ensures.too_long (sym c.in_err-push_kept.was ∙ refused) in
    let first : written (drop at c.args.list.now) ≡ written (c.pair-item.result ∷ []) ++ written (drop (at + 1) c.args.list.now) =
    rw (drop_more c.args.list.now at c.pair-item.result c.loop-pair-test.true, ← c.pair-item.is) (kept-cons c.args.keys.now.dictionary.now c.args.keys.now.secret.now c.args.keys.now.authenticator.now c.args.all c.pair-item.result (drop (at + 1) c.args.list.now)) in
    let sizes = ap length first in
    let long = sym (length-append old (written (drop at c.args.list.now))) ∙ ap length c.loop-pair.invariant.written ∙ length-append c.args.octets.now.items (written c.args.list.now) in
    let both = length-append (written (c.pair-item.result ∷ [])) (written (drop (at + 1) c.args.list.now)) in
    omega arith
