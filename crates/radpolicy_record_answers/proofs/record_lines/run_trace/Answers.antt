use Rattle.std.specs.Option.{option_copied}
use Rattle.radpolicy_record_answers.proofs.RequestRuns.{ran}
use Rattle.radpolicy_record_answers.proofs.record_lines.run_trace.Goals as goal

pub returns-in_ok-stepper-in-Ok : goal.returns-in_ok-stepper-in-Ok
returns-in_ok-stepper-in-Ok c =
    ran c.args.policy.now (option_copied c.args.secret) c.args.request.now c.in-Ok.start c.in_ok-stepper-in-Ok.field-0 c.in-Ok.ensures.ok c.in_ok-stepper-in-Ok.ensures.start
