use Rattle.std.proofs.Common.{inr, subst, sym}
use Rattle.radpolicy.proofs.OneFault.{one_fault}
use Rattle.radpolicy.proofs.OnePolicyFault.{one_policy_fault}
use Rattle.radpolicy.proofs.OneReport.{not_both, one_report}
use Rattle.radpolicy.specs.JobReports.{RefusalOf}
use Rattle.radpolicy.specs.declared.jobs.Command.{Command}
use Rattle.radpolicy.proofs.PreparedRuns.{made_of_lines, outcome_is_refused, outcome_is_report, report_is_of_outcome}
use Rattle.radpolicy.proofs.answers.answer.Goals as goal

pub returns-in_err-report-clause-one : goal.returns-in_err-report-clause-one
returns-in_err-report-clause-one g c = one_report c.args.job.now

pub returns-in_err-report-clause-either : goal.returns-in_err-report-clause-either
returns-in_err-report-clause-either g c = not_both c.args.job.now

pub returns-in-Ok-clause-one : goal.returns-in-Ok-clause-one
returns-in-Ok-clause-one g c = one_report c.args.job.now

pub returns-in-Ok-clause-either : goal.returns-in-Ok-clause-either
returns-in-Ok-clause-either g c = not_both c.args.job.now

pub returns-clause-one : goal.returns-clause-one
returns-clause-one g c = one_report c.args.job.now

pub returns-clause-either : goal.returns-clause-either
returns-clause-either g c = not_both c.args.job.now

pub returns-in_err-report-clause-ran : goal.returns-in_err-report-clause-ran
returns-in_err-report-clause-ran g c = λ is report.
    let made = made_of_lines c.args.job.now c.requires.sound is in
    (report_is_of_outcome c.args.job.now made report, outcome_is_report c.args.job.now made report)

pub returns-in_err-report-clause-too_long : goal.returns-in_err-report-clause-too_long
returns-in_err-report-clause-too_long g c = λ is f none.
    let refused = outcome_is_refused c.args.job.now (made_of_lines c.args.job.now c.requires.sound is) f none in
    subst (λ (own : Command). RefusalOf own c.args.job.now f) (sym is) (inr (inr refused))

pub returns-in-Ok-clause-ran : goal.returns-in-Ok-clause-ran
returns-in-Ok-clause-ran g c = λ is report.
    let made = made_of_lines c.args.job.now c.requires.sound is in
    (report_is_of_outcome c.args.job.now made report, outcome_is_report c.args.job.now made report)

pub returns-in-Ok-clause-too_long : goal.returns-in-Ok-clause-too_long
returns-in-Ok-clause-too_long g c = λ is f none.
    let refused = outcome_is_refused c.args.job.now (made_of_lines c.args.job.now c.requires.sound is) f none in
    subst (λ (own : Command). RefusalOf own c.args.job.now f) (sym is) (inr (inr refused))

pub returns-clause-ran : goal.returns-clause-ran
returns-clause-ran g c = λ is report.
    let made = made_of_lines c.args.job.now c.requires.sound is in
    (report_is_of_outcome c.args.job.now made report, outcome_is_report c.args.job.now made report)

pub returns-clause-too_long : goal.returns-clause-too_long
returns-clause-too_long g c = λ is f none.
    let refused = outcome_is_refused c.args.job.now (made_of_lines c.args.job.now c.requires.sound is) f none in
    subst (λ (own : Command). RefusalOf own c.args.job.now f) (sym is) (inr (inr refused))

pub returns-in_err-report-clause-first : goal.returns-in_err-report-clause-first
returns-in_err-report-clause-first g c = one_fault c.args.job.now

pub returns-in-Ok-clause-first : goal.returns-in-Ok-clause-first
returns-in-Ok-clause-first g c = one_fault c.args.job.now

pub returns-clause-first : goal.returns-clause-first
returns-clause-first g c = one_fault c.args.job.now

pub returns-in_err-report-clause-first_of_policy : goal.returns-in_err-report-clause-first_of_policy
returns-in_err-report-clause-first_of_policy g c = one_policy_fault c.args.job.now

pub returns-in-Ok-clause-first_of_policy : goal.returns-in-Ok-clause-first_of_policy
returns-in-Ok-clause-first_of_policy g c = one_policy_fault c.args.job.now

pub returns-clause-first_of_policy : goal.returns-clause-first_of_policy
returns-clause-first_of_policy g c = one_policy_fault c.args.job.now
