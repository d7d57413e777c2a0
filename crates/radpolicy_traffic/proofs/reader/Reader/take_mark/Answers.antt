use Rattle.radpolicy_traffic.proofs.Growing.{are_from_self}
use Rattle.radpolicy_traffic.proofs.reader.Reader.take_mark.Goals as goal

pub returns-in-Reply-clause-held : goal.returns-in-Reply-clause-held
returns-in-Reply-clause-held c = λ line is.
    let records = c.args.self.now.records.items in
    c.answer.ensures.held line records (c.pause_current.ensures.held line records (are_from_self line records))

pub returns-in-Code-clause-held : goal.returns-in-Code-clause-held
returns-in-Code-clause-held c = λ line is.
    let records = c.args.self.now.records.items in c.set_code.ensures.held line records (are_from_self line records)

pub returns-in-Answered-clause-held : goal.returns-in-Answered-clause-held
returns-in-Answered-clause-held c = λ line is.
    let records = c.args.self.now.records.items in c.set_reply_code.ensures.held line records (are_from_self line records)

pub returns-in-Source-clause-held : goal.returns-in-Source-clause-held
returns-in-Source-clause-held c = λ line is.
    let records = c.args.self.now.records.items in c.set_source.ensures.held line records (are_from_self line records)

pub returns-in-Pause-clause-held : goal.returns-in-Pause-clause-held
returns-in-Pause-clause-held c = λ line is.
    let records = c.args.self.now.records.items in c.pause.ensures.held line records (are_from_self line records)

pub returns-in-End-clause-held : goal.returns-in-End-clause-held
returns-in-End-clause-held c = λ line is.
    let records = c.args.self.now.records.items in c.end_request.ensures.held line records (are_from_self line records)

pub returns-in-Request-clause-held : goal.returns-in-Request-clause-held
returns-in-Request-clause-held c = λ line is. are_from_self line c.args.self.now.records.items

pub returns-in-Request-2-clause-held : goal.returns-in-Request-2-clause-held
returns-in-Request-2-clause-held c = λ line is. are_from_self line c.args.self.now.records.items
