use Rattle.std.proofs.Common.{◌≡◌, ◌++◌, length}
use Rattle.radpolicy_common.specs.DigitRuns.{spelled_from, spelled_octets}
use Rattle.radpolicy_common.proofs.digit_runs.spelled_octets.Given as goal

abbrev pub invariant-loop-rest : goal.invariant-loop-rest
invariant-loop-rest l = l.octets.items ++ spelled_from l.within l.rest ≡ spelled_octets l.text

abbrev pub decreases-loop-rest : goal.decreases-loop-rest
decreases-loop-rest l = length l.rest
