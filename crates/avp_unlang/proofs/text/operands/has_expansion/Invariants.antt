use Rattle.std.proofs.Common.{◌≡◌, length, false}
use Rattle.avp_unlang.specs.Conditions.{has_expansion}
use Rattle.avp_unlang.proofs.text.operands.has_expansion.Given as goal

abbrev pub invariant-loop-octet : goal.invariant-loop-octet
invariant-loop-octet l = has_expansion l.escaped l.rest ≡ has_expansion false l.text

abbrev pub decreases-loop-octet : goal.decreases-loop-octet
decreases-loop-octet l = length l.rest
