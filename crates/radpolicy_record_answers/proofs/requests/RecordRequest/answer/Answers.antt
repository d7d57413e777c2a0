use Rattle.std.proofs.Common.{◌∙◌, ap}
use Rattle.std.specs.Option.{option_copied}
use Rattle.std.proofs.lemmas.Result.{IfErr-weaker, IfOk-weaker, err_from_is_err_and}
use Rattle.radpolicy.specs.Starts.{Prepared}
use Rattle.radpolicy_record_answers.proofs.RequestStarts.{start_answered, start_refused, start_too_long}
use Rattle.radpolicy_record_answers.proofs.requests.RecordRequest.answer.Goals as goal

pub returns-in_err-start-clause-refused : goal.returns-in_err-start-clause-refused
returns-in_err-start-clause-refused c =
    let p = err_from_is_err_and c.from_residual.result c.from_residual.ensures.1 in
    rw (p.1, p.2) (start_refused c.args.runner.now (option_copied c.args.secret) c.args.self.now c.in_err-start.field-0.0 (rw c.prepared.ensures at c.in_err-start.ensures.refused))

pub run-requires : goal.run-requires
run-requires c = record { policy = ap (λ (p : Prepared). p.statements) (c.in_ok-start.ensures.own ∙ c.prepared.ensures) }

pub returns-clause-ok : goal.returns-clause-ok
returns-clause-ok c =
    IfOk-weaker c.run.result _ _
    (start_answered c.args.runner.now (option_copied c.args.secret) c.args.self.now c.in_ok-start.start (rw c.prepared.ensures at c.in_ok-start.ensures.ok))
    c.run.ensures.ok

pub returns-clause-refused : goal.returns-clause-refused
returns-clause-refused c =
    IfErr-weaker c.run.result _ _
    (start_too_long c.args.runner.now (option_copied c.args.secret) c.args.self.now c.in_ok-start.start (rw c.prepared.ensures at c.in_ok-start.ensures.ok))
    c.run.ensures.refused
