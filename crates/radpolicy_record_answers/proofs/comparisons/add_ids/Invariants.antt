use Rattle.std.proofs.Common.{◌≡◌, length}
use Rattle.std.specs.List.{fold}
use Rattle.radpolicy_record_answers.specs.Comparisons.{pairs_of, with_id}
use Rattle.radpolicy_record_answers.proofs.comparisons.add_ids.Given as goal

abbrev pub invariant-loop-rest : goal.invariant-loop-rest
invariant-loop-rest l = fold with_id l.ids.items (pairs_of l.rest) ≡ fold with_id l.fn.ids.items (pairs_of l.pairs)

abbrev pub decreases-loop-rest : goal.decreases-loop-rest
decreases-loop-rest l = length l.rest
