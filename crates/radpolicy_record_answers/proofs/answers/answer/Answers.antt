use Rattle.std.proofs.lemmas.Result.{IfErr-weaker, IfOk-weaker, err_from_is_err_and}
use Rattle.radpolicy_record_answers.proofs.Answering.{packet_refused, run_answered, run_refused}
use Rattle.radpolicy_record_answers.proofs.answers.answer.Goals as goal

pub returns-in_err-start-clause-refused : goal.returns-in_err-start-clause-refused
returns-in_err-start-clause-refused c =
    let p = err_from_is_err_and c.from_residual.result c.from_residual.ensures.1 in
    rw (p.1, p.2) (packet_refused c.args.policy.now c.args.secret.now c.args.octets.now c.in_err-start.field-0.0 c.in_err-start.ensures.refused)

pub returns-clause-ok : goal.returns-clause-ok
returns-clause-ok c =
    IfOk-weaker c.run.result _ _
    (run_answered c.args.policy.now c.args.secret.now c.args.octets.now c.in_ok-start.start c.in_ok-start.ensures.read c.in_ok-start.ensures.start)
    c.run.ensures.ok

pub returns-clause-refused : goal.returns-clause-refused
returns-clause-refused c =
    IfErr-weaker c.run.result _ _
    (run_refused c.args.policy.now c.args.secret.now c.args.octets.now c.in_ok-start.start c.in_ok-start.ensures.read c.in_ok-start.ensures.start)
    c.run.ensures.refused
