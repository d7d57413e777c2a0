use Rattle.radpolicy_record_answers.specs.Comparisons.{pairs_of}
use Rattle.radpolicy_record_answers.proofs.SameLists.{lists_law}
use Rattle.radpolicy_record_answers.proofs.comparisons.same_lists.Goals as goal

pub returns-clause-same : goal.returns-clause-same
returns-clause-same c =
    lists_law c.in_ok-same.same c.args.order (pairs_of c.args.a.now) (pairs_of c.args.b.now) c.in_ok-same.ensures
