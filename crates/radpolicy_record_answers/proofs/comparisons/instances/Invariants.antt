use Rattle.std.proofs.Common.{◌≡◌, ◌++◌, length}
use Rattle.avp_lists.specs.Instances.{instances}
use Rattle.radpolicy_record_answers.specs.Comparisons.{pairs_of}
use Rattle.radpolicy_record_answers.proofs.comparisons.instances.Given as goal

abbrev pub invariant-loop-rest : goal.invariant-loop-rest
invariant-loop-rest l = pairs_of l.found.items ++ instances l.id (pairs_of l.rest) ≡ instances l.id (pairs_of l.pairs)

abbrev pub decreases-loop-rest : goal.decreases-loop-rest
decreases-loop-rest l = length l.rest
