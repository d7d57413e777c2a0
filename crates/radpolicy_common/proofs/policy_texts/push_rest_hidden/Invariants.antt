use Rattle.std.proofs.Common.{◌≡◌, ◌++◌, length, false}
use Rattle.radpolicy_common.specs.PolicyTexts.{rest_hidden}
use Rattle.radpolicy_common.proofs.policy_texts.push_rest_hidden.Given as goal

abbrev pub invariant-loop-rest : goal.invariant-loop-rest
invariant-loop-rest l = l.text.items ++ rest_hidden l.redaction l.named l.rest ≡ l.fn.text.items ++ rest_hidden l.redaction false l.pieces

abbrev pub decreases-loop-rest : goal.decreases-loop-rest
decreases-loop-rest l = length l.rest
