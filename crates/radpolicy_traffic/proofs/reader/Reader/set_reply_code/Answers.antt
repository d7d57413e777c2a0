use Rattle.std.proofs.Common.{sym}
use Rattle.radpolicy_traffic.proofs.Growing.{from_changed, place_within}
use Rattle.radpolicy_traffic.proofs.reader.Reader.set_reply_code.Goals as goal

pub returns-in-Some-clause-held : goal.returns-in-Some-clause-held
returns-in-Some-clause-held c = λ line olds from.
    let records = c.args.self.now.records.items in
    from_changed line olds records c.in-Some.place c.index_mut.result.now c.set_reply_code.new.self
    (place_within records c.deref.result.now c.place_of.result c.in-Some.place c.deref.ensures.value c.place_of.ensures.bound c.in-Some.is)
    (sym c.index_mut.ensures.value) c.set_reply_code.ensures from
