use Rattle.std.specs.Option.{option_copied}
use Rattle.std.proofs.lemmas.Result.{IfErr-weaker, IfOk-weaker, err_from_is_err_and}
use Rattle.radpolicy.specs.ReplyMeaning.{IsRunRead}
use Rattle.radpolicy.proofs.JobRuns.{run_read, run_refused, run_reported, run_request_refused}
use Rattle.radpolicy.proofs.Replying.{ok_map}
use Rattle.radpolicy.proofs.answers.run_report_of.Goals as goal

pub returns-in_err-start-clause-refused : goal.returns-in_err-start-clause-refused
returns-in_err-start-clause-refused c =
    let p = err_from_is_err_and c.from_residual-in_err-start.result c.from_residual-in_err-start.ensures.1 in
    rw (p.1, p.2) (run_request_refused c.args.job.now c.args.dictionary.now (option_copied c.args.secret) c.requires.opened c.in_ok-policy.policy c.in_ok-policy.ensures.dictionary c.in_ok-policy.ensures.ok c.in_err-start.field-0.0 c.in_err-start.ensures.refused)

pub returns-clause-ok : goal.returns-clause-ok
returns-clause-ok c =
    IfOk-weaker c.report_of_run.result _ _
    (run_reported c.args.job.now c.args.dictionary.now (option_copied c.args.secret) c.requires.opened c.in_ok-policy.policy c.in_ok-policy.ensures.dictionary c.in_ok-policy.ensures.ok c.in_ok-start.start c.in_ok-start.ensures.start c.in_ok-start.ensures.received c.in_ok-policy.ensures.profile)
    c.report_of_run.ensures.ok

pub returns-clause-refused : goal.returns-clause-refused
returns-clause-refused c =
    IfErr-weaker c.report_of_run.result _ _
    (run_refused c.args.job.now c.args.dictionary.now (option_copied c.args.secret) c.requires.opened c.in_ok-policy.policy c.in_ok-policy.ensures.dictionary c.in_ok-policy.ensures.ok c.in_ok-start.start c.in_ok-start.ensures.start c.in_ok-start.ensures.received c.in_ok-policy.ensures.profile)
    c.report_of_run.ensures.refused

pub returns-clause-read : goal.returns-clause-read
returns-clause-read c =
    ok_map _ (IsRunRead c.args.job.now) c.report_of_run.result
    (run_read c.args.job.now c.args.dictionary.now (option_copied c.args.secret) c.requires.opened c.in_ok-policy.policy c.in_ok-policy.ensures.dictionary c.in_ok-policy.ensures.ok c.in_ok-start.start c.in_ok-start.ensures.start c.in_ok-start.ensures.received c.in_ok-policy.ensures.profile c.in_ok-start.ensures.proxies)
    c.report_of_run.ensures.read
