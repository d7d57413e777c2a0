use Rattle.std.proofs.Common.{◌≡◌, length}
use Rattle.std.specs.List.{list_all}
use Rattle.radpolicy_record_answers.specs.Comparisons.{pairs_of, same_instances}
use Rattle.radpolicy_record_answers.proofs.comparisons.same_at_ids.Given as goal

abbrev pub invariant-loop-rest : goal.invariant-loop-rest
invariant-loop-rest l = list_all (same_instances (pairs_of l.a) (pairs_of l.b)) l.rest ≡ list_all (same_instances (pairs_of l.a) (pairs_of l.b)) l.ids

abbrev pub decreases-loop-rest : goal.decreases-loop-rest
decreases-loop-rest l = length l.rest
