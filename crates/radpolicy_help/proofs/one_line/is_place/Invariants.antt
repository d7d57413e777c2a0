use Rattle.std.proofs.Common.{◌≡◌, length}
use Rattle.radpolicy_help.specs.OneLine.{is_place}
use Rattle.radpolicy_help.proofs.one_line.is_place.Given as goal

abbrev pub invariant-loop-rest : goal.invariant-loop-rest
invariant-loop-rest l = is_place l.rest ≡ is_place l.line

abbrev pub decreases-loop-rest : goal.decreases-loop-rest
decreases-loop-rest l = length l.rest
