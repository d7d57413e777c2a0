use Rattle.std.proofs.Common.{◌≡◌, drop, map}
use Rattle.radpolicy.specs.Scripts.{words_named}
use Rattle.radpolicy.specs.internal.ScriptReading.{after_named}
use Rattle.radpolicy.proofs.scripts.words_named.Given as goal

abbrev pub invariant-loop-text : goal.invariant-loop-text
invariant-loop-text l = after_named l.words.items (words_named (map (λ text. text.now) (drop l.text-index l.texts))) ≡ words_named (map (λ text. text.now) l.texts)
