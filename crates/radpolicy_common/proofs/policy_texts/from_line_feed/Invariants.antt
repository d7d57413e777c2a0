use Rattle.std.proofs.Common.{◌≡◌, length}
use Rattle.radpolicy_common.specs.PolicyTexts.{from_line_feed}
use Rattle.radpolicy_common.proofs.policy_texts.from_line_feed.Given as goal

abbrev pub invariant-loop-rest : goal.invariant-loop-rest
invariant-loop-rest l = from_line_feed l.rest ≡ from_line_feed l.octets

abbrev pub decreases-loop-rest : goal.decreases-loop-rest
decreases-loop-rest l = length l.rest
