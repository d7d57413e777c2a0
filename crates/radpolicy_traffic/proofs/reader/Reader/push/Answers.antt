use Rattle.std.proofs.Common.{List, subst, sym}
use Rattle.radpolicy_traffic.specs.Growth.{AreFrom}
use Rattle.radpolicy_traffic.specs.declared.open_records.OpenRecord.{OpenRecord}
use Rattle.radpolicy_traffic.proofs.Growing.{are_from_among, from_among, from_pushed}
use Rattle.radpolicy_traffic.proofs.reader.Reader.push.Goals as goal

pub returns-clause-held : goal.returns-clause-held
returns-clause-held c = λ line olds from given.
    let rest = c.take-record.new.self.records.items in
    let From : List OpenRecord → Type 0 = λ news. AreFrom line olds news in
    subst From (sym c.in_ok-push.ensures.items)
    (from_pushed line olds rest c.args.begun
    (are_from_among line olds c.args.self.now.records.items rest from c.take-record.ensures.held) given)

pub returns-clause-taken : goal.returns-clause-taken
returns-clause-taken c = λ line olds from.
    from_among line olds c.args.self.now.records.items c.take-record.result from c.take-record.ensures.taken
