use Rattle.std.proofs.Common.{◌≡◌, length}
use Rattle.policy_warnings.specs.Groupings.{regroups}
use Rattle.policy_warnings.proofs.groupings.has_or_after_and.Given as goal

abbrev pub invariant-loop-rest : goal.invariant-loop-rest
invariant-loop-rest l = regroups l.rest ≡ regroups l.joints

abbrev pub decreases-loop-rest : goal.decreases-loop-rest
decreases-loop-rest l = length l.rest
