use Rattle.std.specs.Option.{option_copied}
use Rattle.std.proofs.lemmas.Result.{err_from_is_err_and}
use Rattle.radpolicy.proofs.JobRuns.{script_refused, walk_reported, walk_request_refused}
use Rattle.radpolicy.proofs.answers.step_report_of.Goals as goal

pub returns-in_err-script-clause-refused : goal.returns-in_err-script-clause-refused
returns-in_err-script-clause-refused c =
    let p = err_from_is_err_and c.from_residual-in_err-script.result c.from_residual-in_err-script.ensures.1 in
    rw (p.1, p.2) (script_refused c.args.job.now c.args.dictionary.now (option_copied c.args.secret) c.requires.opened c.in_ok-policy.policy c.in_ok-policy.ensures.dictionary c.in_ok-policy.ensures.ok c.in_err-script.field-0.0 c.in_err-script.ensures.refused)

pub returns-in_err-start-clause-refused : goal.returns-in_err-start-clause-refused
returns-in_err-start-clause-refused c =
    let p = err_from_is_err_and c.from_residual-in_err-start.result c.from_residual-in_err-start.ensures.1 in
    rw (p.1, p.2) (walk_request_refused c.args.job.now c.args.dictionary.now (option_copied c.args.secret) c.requires.opened c.in_ok-policy.policy c.in_ok-policy.ensures.dictionary c.in_ok-policy.ensures.ok c.in_ok-script.script.items c.in_ok-script.ensures.ok c.in_err-start.field-0.0 c.in_err-start.ensures.refused)

pub returns-clause-ok : goal.returns-clause-ok
returns-clause-ok c =
    walk_reported c.args.job.now c.args.dictionary.now (option_copied c.args.secret) c.requires.opened c.in_ok-policy.policy c.in_ok-policy.ensures.dictionary c.in_ok-policy.ensures.ok c.in_ok-start.start c.in_ok-start.ensures.start c.in_ok-start.ensures.received c.in_ok-policy.ensures.profile c.in_ok-script.script.items c.in_ok-script.ensures.ok _
    (rw c.deref.ensures.value at c.in_ok-report_of_walk.ensures)
