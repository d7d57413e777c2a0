use Rattle.std.proofs.Common.{◌≡◌, ◌≤◌, ◌+◌, length}
use Rattle.avp_packet.specs.Splitting.{left, parts}
use Rattle.avp_packet.proofs.attribute.walking.count_attributes.Given as goal

abbrev pub invariant-loop-front : goal.invariant-loop-front
invariant-loop-front l = record {
  left_so_far : left l.rest ≡ left l.octets;
  counted : l.count + length (parts l.rest) ≡ length (parts l.octets);
  within : l.count + length l.rest ≤ length l.octets;
}

abbrev pub decreases-loop-front : goal.decreases-loop-front
decreases-loop-front l = length l.rest
