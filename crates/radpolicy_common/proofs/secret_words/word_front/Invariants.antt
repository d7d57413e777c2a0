use Rattle.std.proofs.Common.{◌≡◌, ◌++◌, drop, take}
use Rattle.radpolicy_common.specs.SecretWords.{word_front}
use Rattle.radpolicy_common.proofs.secret_words.word_front.Given as goal

abbrev pub invariant-loop-place : goal.invariant-loop-place
invariant-loop-place l = take l.place l.text ++ word_front (drop l.place l.text) ≡ word_front l.text
