use Rattle.std.proofs.Common.{◌∙◌, not, sym, ap, arith}
use Rattle.std.proofs.lemmas.List.Sums.{prefix_len-drop_all, prefix_len-drop_no, prefix_len-drop_yes}
use Rattle.avp_lists.specs.Instances.{has_id}
use Rattle.avp_lists.specs.declared.pairs.Pair.{Pair}
use Rattle.avp_packet.specs.Sending.{message_authenticator_id}
use Rattle.avp_packet.proofs.encoding.dividing.signature_place.Goals as goal

pub loop-place-preserved : goal.loop-place-preserved
loop-place-preserved c =
    let f = λ (p : Pair). not (has_id message_authenticator_id p) in
    let p = c.index-list-place.result in
    let at = c.loop-place.place in
    let more = prefix_len-drop_yes f c.args.list.now at p c.loop-place-test.true (ap not (sym c.equals.ensures.test ∙ c.if-equals.false)) in
    c.loop-place.invariant ∙ omega (arith, more)

pub returns-then-equals-clause-place : goal.returns-then-equals-clause-place
returns-then-equals-clause-place c =
    let f = λ (p : Pair). not (has_id message_authenticator_id p) in
    let p = c.index-list-place.result in
    let at = c.loop-place.place in
    let none = prefix_len-drop_no f c.args.list.now at p c.loop-place-test.true (ap not (sym c.equals.ensures.test ∙ c.if-equals.true)) in
    sym (c.loop-place.invariant ∙ omega (arith, none))

pub returns-clause-place : goal.returns-clause-place
returns-clause-place c =
    let f = λ (p : Pair). not (has_id message_authenticator_id p) in
    let none = prefix_len-drop_all f c.args.list.now c.loop-place.place c.loop-place-test.false in
    sym (c.loop-place.invariant ∙ omega (arith, none))
