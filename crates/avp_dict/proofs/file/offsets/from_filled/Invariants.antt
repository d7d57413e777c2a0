use Rattle.std.proofs.Common.{◌≡◌, ◌≤◌, length}
use Rattle.avp_dict.specs.WordPlaces.{from_filled}
use Rattle.avp_dict.proofs.file.offsets.from_filled.Given as goal

abbrev pub invariant-loop-rest : goal.invariant-loop-rest
invariant-loop-rest l = record {
  same : from_filled l.rest ≡ from_filled l.octets;
  shorter : length l.rest ≤ length l.octets;
}

abbrev pub decreases-loop-rest : goal.decreases-loop-rest
decreases-loop-rest l = length l.rest
