use Rattle.std.proofs.Common.{◌≡◌, ◌≤◌, length}
use Rattle.avp_lists.specs.States.{max_pairs}
use Rattle.avp_dict.specs.Lines.{texts_of}
use Rattle.avp_dict.specs.RequestLines.{is_idle_line, without_front}
use Rattle.avp_dict.specs.Requests.{pair_assigned}
use Rattle.avp_dict.specs.internal.LineEnds.{IsPacketRead}
use Rattle.avp_dict.specs.internal.LineReading.{after_pairs, packet_pairs}
use Rattle.avp_dict.proofs.request.lines.read_pairs.Given as goal

abbrev pub invariant-loop-line : goal.invariant-loop-line
invariant-loop-line g l = record {
  read : after_pairs l.pairs.items (packet_pairs (pair_assigned (g.R.PairReader.target_of l.reader) (g.R.PairReader.pair_of l.reader)) (texts_of l.rest)) ≡ packet_pairs (pair_assigned (g.R.PairReader.target_of l.reader) (g.R.PairReader.pair_of l.reader)) (without_front is_idle_line (texts_of l.text));
  few : length l.pairs.items ≤ max_pairs;
  packet : IsPacketRead (g.R.PairReader.target_of l.reader) (g.R.PairReader.pair_of l.reader) l.text l.pairs.items l.rest;
}

abbrev pub decreases-loop-line : goal.decreases-loop-line
decreases-loop-line g l = length l.rest
