use Rattle.std.proofs.Common.{◌≡◌, ◌<◌, ◌≤◌, length}
use Rattle.avp_lists.specs.States.{max_pairs}
use Rattle.avp_dict.specs.declared.request.tokens.Side.TheVariants.{Name}
use Rattle.avp_dict.specs.RequestLines.{tokens_at}
use Rattle.avp_dict.specs.Requests.{pair_assigned}
use Rattle.avp_dict.specs.internal.LineEnds.{IsPairsRead}
use Rattle.avp_dict.specs.internal.LineReading.{after_pairs, pairs_at}
use Rattle.avp_dict.proofs.request.lines.read_line.Given as goal

abbrev pub invariant-loop-first : goal.invariant-loop-first
invariant-loop-first g l = record {
  read : after_pairs l.pairs.items (pairs_at (pair_assigned (g.R.PairReader.target_of l.reader) (g.R.PairReader.pair_of l.reader)) (tokens_at Name l.rest)) ≡ after_pairs l.fn.pairs.items (pairs_at (pair_assigned (g.R.PairReader.target_of l.reader) (g.R.PairReader.pair_of l.reader)) (tokens_at Name l.line));
  few : length l.pairs.items ≤ max_pairs;
  shorter : length l.rest ≤ length l.line;
  pairs : 0 < length l.rest → IsPairsRead (g.R.PairReader.target_of l.reader) (g.R.PairReader.pair_of l.reader) l.fn.pairs.items l.line l.pairs.items l.rest;
}

abbrev pub decreases-loop-first : goal.decreases-loop-first
decreases-loop-first g l = length l.rest
