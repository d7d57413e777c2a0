use Rattle.std.proofs.Common.{◌≡◌, length}
use Rattle.radpolicy_common.specs.SecretWords.{puts_in_secret}
use Rattle.radpolicy_common.proofs.secret_words.puts_in_secret.Given as goal

abbrev pub invariant-loop-rest : goal.invariant-loop-rest
invariant-loop-rest l = puts_in_secret l.redaction l.captured l.rest ≡ puts_in_secret l.redaction l.captured l.text

abbrev pub decreases-loop-rest : goal.decreases-loop-rest
decreases-loop-rest l = length l.rest
