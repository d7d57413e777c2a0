use Rattle.std.proofs.Common.{◌≡◌, ◌+◌, ◌-◌, ◌≤◌, length, option_map}
use Rattle.avp_patterns.specs.Patterns.{expansion_at}
use Rattle.avp_patterns.proofs.patterns.expansion_at.Given as goal

abbrev pub invariant-loop-rest : goal.invariant-loop-rest
invariant-loop-rest l =
    (length l.rest ≤ length l.text)
    × (expansion_at l.text ≡ option_map (λ n. n + (length l.text - length l.rest)) (expansion_at l.rest))

abbrev pub decreases-loop-rest : goal.decreases-loop-rest
decreases-loop-rest l = length l.rest
