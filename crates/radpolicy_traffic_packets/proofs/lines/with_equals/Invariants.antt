use Rattle.std.proofs.Common.{◌≡◌, ◌++◌, false, length}
use Rattle.radpolicy_traffic_packets.specs.Packets.{with_equals}
use Rattle.radpolicy_traffic_packets.proofs.lines.with_equals.Given as goal

abbrev pub invariant-loop-rest : goal.invariant-loop-rest
invariant-loop-rest l =
    l.text.items ++ with_equals l.within l.rest ≡ with_equals false l.lines

abbrev pub decreases-loop-rest : goal.decreases-loop-rest
decreases-loop-rest l = length l.rest
