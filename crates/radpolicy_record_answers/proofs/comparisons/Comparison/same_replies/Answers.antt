use Rattle.radpolicy_record_answers.proofs.Replying.{replies_law}
use Rattle.radpolicy_record_answers.proofs.comparisons.Comparison.same_replies.Goals as goal

pub returns-clause-same : goal.returns-clause-same
returns-clause-same c =
    replies_law c.in_ok-same.same c.args.self.now c.args.captured.now c.args.own.now c.in_ok-same.ensures
