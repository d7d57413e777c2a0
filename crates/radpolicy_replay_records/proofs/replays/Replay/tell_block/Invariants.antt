use Rattle.std.proofs.Common.{◌≡◌, ◌≤◌, ◌+◌, ◌++◌, length}
use Rattle.radpolicy_record_answers.specs.declared.records.TheConstants.{MAX_LINE_OCTETS}
use Rattle.radpolicy_replay_records.specs.internal.Positions.{CountsWithin, HasNoEnd, Writes}
use Rattle.radpolicy_replay_records.proofs.replays.Replay.tell_block.Given as goal

abbrev pub invariant-loop-end : goal.invariant-loop-end
invariant-loop-end g l = record {
  runners : l.runners ≡ l.fn.runners;
  no_end : HasNoEnd l.line.items;
  short : length l.line.items ≤ MAX_LINE_OCTETS + 1;
  within : CountsWithin l.after;
  told : Writes l.self l.fn.summary (l.fn.line.items ++ l.block) l.after (l.line.items ++ l.rest)
      (g.W.Write.contents l.fn.out) (g.W.Write.contents l.out);
}

abbrev pub decreases-loop-end : goal.decreases-loop-end
decreases-loop-end g l = length l.rest
