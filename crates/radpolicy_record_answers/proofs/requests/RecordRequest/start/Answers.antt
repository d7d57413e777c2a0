use Rattle.std.proofs.Common.{◌≡◌, ◌∙◌, ap, inr, rules}
use Rattle.std.specs.Option.{option_copied}
use Rattle.std.proofs.lemmas.Result.{err_from_is_err_and}
use Rattle.radpolicy.specs.Starts.{Start}
use Rattle.radpolicy_record_answers.proofs.RequestStarts.{both_taken, control_refused, packet_read, packet_unread, reply_refused}
use Rattle.radpolicy_record_answers.proofs.requests.RecordRequest.start.Goals as goal

pub returns-in_err-start-clause-refused : goal.returns-in_err-start-clause-refused
returns-in_err-start-clause-refused c =
    let p = err_from_is_err_and c.from_residual.result c.from_residual.ensures.1 in
    rw (p.1, p.2) (packet_unread c.args.policy.now (option_copied c.args.secret) c.args.self.now c.as_slice.result.now c.in_err-start.field-0.0 c.as_slice.ensures c.in_err-start.ensures.refused)

pub returns-in_err-replying-clause-refused : goal.returns-in_err-replying-clause-refused
returns-in_err-replying-clause-refused c =
    let p = err_from_is_err_and c.from_residual-in_err-replying.result c.from_residual-in_err-replying.ensures.1 in
    let copied : c.in_ok-reply.reply ≡ c.args.self.now.reply = search rules in
    rw (p.1, p.2) (inr (reply_refused c.args.policy.now (option_copied c.args.secret) c.args.self.now c.in_ok-start.start c.in_ok-reply.reply c.in_err-replying.field-0.0
    (packet_read c.args.policy.now (option_copied c.args.secret) c.args.self.now c.as_slice.result.now c.in_ok-start.start.request c.as_slice.ensures c.in_ok-start.ensures.read)
    c.in_ok-start.ensures.start copied c.in_err-replying.ensures.refused))

pub returns-in_err-begun-clause-refused : goal.returns-in_err-begun-clause-refused
returns-in_err-begun-clause-refused c =
    let p = err_from_is_err_and c.from_residual-in_err-begun.result c.from_residual-in_err-begun.ensures.1 in
    let copied : c.in_ok-reply.reply ≡ c.args.self.now.reply = search rules in
    let copied_too : c.in_ok-control.control ≡ c.args.self.now.control = search rules in
    rw (p.1, p.2) (inr (control_refused c.args.policy.now (option_copied c.args.secret) c.args.self.now c.in_ok-start.start c.in_ok-replying.replying c.in_ok-reply.reply c.in_ok-control.control c.in_err-begun.field-0.0
    (packet_read c.args.policy.now (option_copied c.args.secret) c.args.self.now c.as_slice.result.now c.in_ok-start.start.request c.as_slice.ensures c.in_ok-start.ensures.read)
    c.in_ok-start.ensures.start copied copied_too c.in_ok-replying.ensures.fits c.in_ok-replying.ensures.start c.in_err-begun.ensures.refused))

pub returns-clause-ok : goal.returns-clause-ok
returns-clause-ok c =
    let copied : c.in_ok-reply.reply ≡ c.args.self.now.reply = search rules in
    let copied_too : c.in_ok-control.control ≡ c.args.self.now.control = search rules in
    both_taken c.args.policy.now (option_copied c.args.secret) c.args.self.now c.in_ok-start.start c.in_ok-replying.replying c.in_ok-begun.begun c.in_ok-reply.reply c.in_ok-control.control
    (packet_read c.args.policy.now (option_copied c.args.secret) c.args.self.now c.as_slice.result.now c.in_ok-start.start.request c.as_slice.ensures c.in_ok-start.ensures.read)
    c.in_ok-start.ensures.start copied copied_too c.in_ok-replying.ensures.fits c.in_ok-replying.ensures.start c.in_ok-begun.ensures.fits c.in_ok-begun.ensures.start

pub returns-clause-own : goal.returns-clause-own
returns-clause-own c =
    ap (λ (s : Start). s.prepared) c.in_ok-begun.ensures.start ∙ ap (λ (s : Start). s.prepared) c.in_ok-replying.ensures.start ∙ ap (λ (s : Start). s.prepared) c.in_ok-start.ensures.start
