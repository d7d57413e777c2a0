use Rattle.std.proofs.Common.{◌≡◌, false, length}
use Rattle.radpolicy_help.specs.OneLine.{are_digits}
use Rattle.radpolicy_help.proofs.one_line.are_digits.Given as goal

abbrev pub invariant-loop-rest : goal.invariant-loop-rest
invariant-loop-rest l = are_digits l.some l.rest ≡ are_digits false l.octets

abbrev pub decreases-loop-rest : goal.decreases-loop-rest
decreases-loop-rest l = length l.rest
