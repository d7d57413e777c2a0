use Rattle.std.proofs.Common.{◌≡◌, length}
use Rattle.radpolicy_record_answers.specs.Comparisons.{pairs_eq, pairs_of}
use Rattle.radpolicy_record_answers.proofs.comparisons.same_pairs.Given as goal

abbrev pub invariant-loop-a : goal.invariant-loop-a
invariant-loop-a l = pairs_eq (pairs_of l.a) (pairs_of l.b) ≡ pairs_eq (pairs_of l.fn.a) (pairs_of l.fn.b)

abbrev pub decreases-loop-a : goal.decreases-loop-a
decreases-loop-a l = length l.a
