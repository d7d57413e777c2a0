use Rattle.std.proofs.Common.{sym}
use Rattle.std.proofs.lemmas.Result.{on_ok_weaker}
use Rattle.radpolicy_traffic.proofs.Growing.{are_from_self, from_grown, place_within}
use Rattle.radpolicy_traffic.proofs.reader.Reader.add.Goals as goal

pub returns-in-Some-clause-held : goal.returns-in-Some-clause-held
returns-in-Some-clause-held c = λ line end.
    let records = c.args.self.now.records.items in
    on_ok_weaker c.add.result
    (λ grown. from_grown line records c.in-Some.place c.index_mut.result.now c.add.new.self
    (place_within records c.deref.result.now c.place_of.result c.in-Some.place c.deref.ensures.value c.place_of.ensures.bound c.in-Some.is)
    (sym c.index_mut.ensures.value) grown) (c.add.ensures line end)

pub returns-in-None-clause-held : goal.returns-in-None-clause-held
returns-in-None-clause-held c = λ line end. are_from_self line c.args.self.now.records.items
