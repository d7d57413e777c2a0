use Rattle.std.proofs.Common.{◌≡◌, ◌+◌, ◌++◌, ◌∷◌, [], List, drop, length, ap, arith}
use Rattle.std.proofs.lemmas.List.{drop_all, drop_more, length-append}
use Rattle.avp_lists.specs.declared.pairs.Pair.{Pair}
use Rattle.avp_packet.specs.AttributeOctets.{attribute_octets}
use Rattle.avp_packet.specs.internal.Filling.{kept_pairs}
use Rattle.avp_packet.proofs.Written.{kept-cons, kept-nil}
use Rattle.avp_packet.proofs.encoding.lengths.room_after.Goals as goal

pub loop-pair-preserved : goal.loop-pair-preserved
loop-pair-preserved c =
    let at = c.loop-pair.pair-index in
    let written = λ (ps : List Pair). attribute_octets c.args.keys.now.dictionary.now c.args.keys.now.secret.now c.args.keys.now.authenticator.now (kept_pairs c.args.all ps) in
    let first : written (drop at c.args.list.now) ≡ written (c.pair-item.result ∷ []) ++ written (drop (at + 1) c.args.list.now) =
    rw (drop_more c.args.list.now at c.pair-item.result c.loop-pair-test.true, ← c.pair-item.is) (kept-cons c.args.keys.now.dictionary.now c.args.keys.now.secret.now c.args.keys.now.authenticator.now c.args.all c.pair-item.result (drop (at + 1) c.args.list.now)) in
    let sizes = ap length first in
    let both = length-append (written (c.pair-item.result ∷ [])) (written (drop (at + 1) c.args.list.now)) in
    omega arith

pub returns-clause-some : goal.returns-clause-some
returns-clause-some c =
    let none : drop c.loop-pair.pair-index c.args.list.now ≡ [] = drop_all c.loop-pair.pair-index c.args.list.now (omega arith) in
    let end : attribute_octets c.args.keys.now.dictionary.now c.args.keys.now.secret.now c.args.keys.now.authenticator.now (kept_pairs c.args.all (drop c.loop-pair.pair-index c.args.list.now)) ≡ [] = rw none (kept-nil c.args.keys.now.dictionary.now c.args.keys.now.secret.now c.args.keys.now.authenticator.now c.args.all) in
    let gone = ap length end in
    omega arith

pub returns-then-length-rest-clause-none : goal.returns-then-length-rest-clause-none
returns-then-length-rest-clause-none c =
    let at = c.loop-pair.pair-index in
    let written = λ (ps : List Pair). attribute_octets c.args.keys.now.dictionary.now c.args.keys.now.secret.now c.args.keys.now.authenticator.now (kept_pairs c.args.all ps) in
    let first : written (drop at c.args.list.now) ≡ written (c.pair-item.result ∷ []) ++ written (drop (at + 1) c.args.list.now) =
    rw (drop_more c.args.list.now at c.pair-item.result c.loop-pair-test.true, ← c.pair-item.is) (kept-cons c.args.keys.now.dictionary.now c.args.keys.now.secret.now c.args.keys.now.authenticator.now c.args.all c.pair-item.result (drop (at + 1) c.args.list.now)) in
    let sizes = ap length first in
    let both = length-append (written (c.pair-item.result ∷ [])) (written (drop (at + 1) c.args.list.now)) in
    omega (arith, c.loop-pair.invariant, c.kept_length-length.ensures, c.if-length-rest.true, sizes, both)
