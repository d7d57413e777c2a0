use Rattle.std.proofs.Common.{◌≡◌, ◌≤◌, length}
use Rattle.std.specs.Option.{option_map}
use Rattle.avp_packet.specs.Meanings.{joined, run}
use Rattle.avp_packet.specs.Splitting.{parts}
use Rattle.avp_packet.proofs.decoding.fragments.join_run.Given as goal

abbrev pub invariant-loop-piece : goal.invariant-loop-piece
invariant-loop-piece l = record {
  run_so_far : option_map (joined l.joined.items) (run l.t l.number (parts l.rest)) ≡ run l.t l.number (parts l.octets);
  shorter : length l.rest ≤ length l.octets;
}

abbrev pub decreases-loop-piece : goal.decreases-loop-piece
decreases-loop-piece l = length l.rest
