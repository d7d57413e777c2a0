use Rattle.std.proofs.Common.{◌≡◌, ◌++◌, length}
use Rattle.avp_unlang.specs.Conditions.{unslashed}
use Rattle.avp_unlang.proofs.text.patterns.unslashed.Given as goal

abbrev pub invariant-loop-some : goal.invariant-loop-some
invariant-loop-some l = l.octets.items ++ unslashed l.rest ≡ unslashed l.text

abbrev pub decreases-loop-some : goal.decreases-loop-some
decreases-loop-some l = length l.rest
