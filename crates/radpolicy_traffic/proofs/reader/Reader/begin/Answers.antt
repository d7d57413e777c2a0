use Rattle.radpolicy_traffic.proofs.Growing.{are_from_among, from_among, from_new, grown_begun}
use Rattle.radpolicy_traffic.proofs.reader.Reader.begin.Goals as goal

pub returns-then-is_again-clause-held : goal.returns-then-is_again-clause-held
returns-then-is_again-clause-held c = λ line olds from.
    are_from_among line olds c.is_again.new.self.records.items c.take.new.self.records.items
    (c.is_again.ensures.held line olds from) c.take.ensures.held

pub returns-then-is_again-clause-taken : goal.returns-then-is_again-clause-taken
returns-then-is_again-clause-taken c = λ line olds from.
    from_among line olds c.is_again.new.self.records.items c.take.result
    (c.is_again.ensures.held line olds from) c.take.ensures.taken

pub returns-clause-held : goal.returns-clause-held
returns-clause-held c = λ line olds from.
    c.push.ensures.held line olds (c.is_again.ensures.held line olds from)
    (from_new line olds c.in_ok-begun.begun.record (grown_begun line c.in_ok-begun.begun c.in_ok-begun.ensures))
