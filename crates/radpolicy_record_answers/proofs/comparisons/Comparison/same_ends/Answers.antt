use Rattle.radpolicy_record_answers.proofs.SameLists.{ends_law}
use Rattle.radpolicy_record_answers.proofs.comparisons.Comparison.same_ends.Goals as goal

pub returns-clause-same : goal.returns-clause-same
returns-clause-same c =
    ends_law c.in_ok-same.same c.args.self.now c.args.old.now.end c.args.new.now.end c.in_ok-same.ensures
