use Rattle.std.proofs.Common.{◌≡◌, ◌++◌, drop, take}
use Rattle.radpolicy_common.specs.SecretWords.{name_front}
use Rattle.radpolicy_common.proofs.secret_words.name_front.Given as goal

abbrev pub invariant-loop-place : goal.invariant-loop-place
invariant-loop-place l = take l.place l.text ++ name_front (drop l.place l.text) ≡ name_front l.text
