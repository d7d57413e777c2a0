use Rattle.std.proofs.Common.{◌≡◌, ◌++◌, length}
use Rattle.radpolicy_common.specs.DigitRuns.{pairs_line}
use Rattle.radpolicy_common.proofs.digit_runs.push_pairs.Given as goal

abbrev pub invariant-loop-octet : goal.invariant-loop-octet
invariant-loop-octet l = l.octets.items ++ pairs_line l.rest ≡ l.fn.octets.items ++ pairs_line l.text

abbrev pub decreases-loop-octet : goal.decreases-loop-octet
decreases-loop-octet l = length l.rest
