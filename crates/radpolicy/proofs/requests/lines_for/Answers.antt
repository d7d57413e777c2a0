use Rattle.std.proofs.lemmas.Result.{err_from_is_err_and}
use Rattle.radpolicy.proofs.RefusedLines.{job_lines}
use Rattle.radpolicy.proofs.requests.lines_for.Goals as goal

pub returns-in_err-list-clause-refused : goal.returns-in_err-list-clause-refused
returns-in_err-list-clause-refused c =
    let p = err_from_is_err_and c.from_residual.result c.from_residual.ensures.1 in
    rw (p.1, p.2) (job_lines c.args.job.now c.args.dictionary.now c.args.code c.in_err-list.field-0.0 (rw (c.profile_of.ensures, c.as_slice-text.ensures) at c.in_err-list.ensures.refused))

pub returns-clause-few : goal.returns-clause-few
returns-clause-few c = c.in_ok-list.ensures.list.few

pub returns-clause-fit : goal.returns-clause-fit
returns-clause-fit c = c.in_ok-list.ensures.list.fit
