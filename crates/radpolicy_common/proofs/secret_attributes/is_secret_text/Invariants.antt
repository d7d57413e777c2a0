use Rattle.std.proofs.Common.{◌≡◌, length}
use Rattle.std.specs.List.{slice_split}
use Rattle.radpolicy_common.specs.SecretAttributes.{is_equals_sign, is_secret_text}
use Rattle.radpolicy_common.proofs.secret_attributes.is_secret_text.Given as goal

abbrev pub invariant-loop-part : goal.invariant-loop-part
invariant-loop-part l = is_secret_text l.rest ≡ is_secret_text l.text

abbrev pub decreases-loop-part : goal.decreases-loop-part
decreases-loop-part l = length (slice_split is_equals_sign l.rest)
