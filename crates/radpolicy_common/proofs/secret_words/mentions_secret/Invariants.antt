use Rattle.std.proofs.Common.{◌≡◌, length}
use Rattle.radpolicy_common.specs.SecretWords.{mentions_from, mentions_secret}
use Rattle.radpolicy_common.proofs.secret_words.mentions_secret.Given as goal

abbrev pub invariant-loop-rest : goal.invariant-loop-rest
invariant-loop-rest l = mentions_from l.redaction l.within l.rest ≡ mentions_secret l.redaction l.text

abbrev pub decreases-loop-rest : goal.decreases-loop-rest
decreases-loop-rest l = length l.rest
