use Rattle.avp_lists.specs.History.{present}
use Rattle.std.proofs.Common.{[]}
use Rattle.radpolicy_c.proofs.Records.{grown}
use Rattle.radpolicy_c.proofs.pairs.CollectedPairs.of_lists.Goals as goal

pub returns-clause-pairs : goal.returns-clause-pairs
returns-clause-pairs g c =
    let p = c.args.profile in let d = c.args.dictionary.now in
    let state = present (g.S.Store.history c.args.store.now) in
    let a = grown p d [] state.request _ _ _ _ c.new-2.ensures.items c.new.ensures.items c.in_ok-push_list.ensures.octets c.in_ok-push_list.ensures.pairs in
    let b = grown p d state.request state.reply _ _ _ _ a.0 a.1 c.in_ok-push_list-2.ensures.octets c.in_ok-push_list-2.ensures.pairs in
    (grown p d _ state.control _ _ _ _ b.0 b.1 c.in_ok-push_list-3.ensures.octets c.in_ok-push_list-3.ensures.pairs).1
