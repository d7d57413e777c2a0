use Rattle.std.proofs.Common.{◌≡◌, ◌+◌, ◌-◌, ◌≤◌, false, length, option_map}
use Rattle.avp_patterns.specs.Patterns.{unicode_at}
use Rattle.avp_patterns.proofs.patterns.unicode_at.Given as goal

abbrev pub invariant-loop-rest : goal.invariant-loop-rest
invariant-loop-rest l =
    (length l.rest ≤ length l.text)
    × (unicode_at false l.text ≡ option_map (λ n. n + (length l.text - length l.rest)) (unicode_at l.escaped l.rest))

abbrev pub decreases-loop-rest : goal.decreases-loop-rest
decreases-loop-rest l = length l.rest
