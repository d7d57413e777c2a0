use Rattle.radpolicy_record_answers.proofs.Answering.{answer_is_over}
use Rattle.radpolicy_record_answers.proofs.entries.answer_over.Goals as goal

pub returns-clause-over : goal.returns-clause-over
returns-clause-over c =
    answer_is_over c.args.runner.now c.args.secret.now c.args.entry.now.request c.in_ok-answer.answer c.in_ok-answer.ensures.answer
