use Rattle.std.proofs.Common.{◌≡◌, drop, map}
use Rattle.policy_warnings.specs.BareNames.{after_one_of}
use Rattle.policy_warnings.proofs.bare_words.after_one_of.Given as goal

abbrev pub invariant-loop-front : goal.invariant-loop-front
invariant-loop-front l =
    after_one_of (map (λ front. front.now) (drop l.front-index l.fronts)) l.word ≡ after_one_of (map (λ front. front.now) l.fronts) l.word
