use Rattle.std.proofs.Common.{◌≤◌, ◌<◌, ◌+◌, length}
use Rattle.radpolicy_record_answers.specs.declared.records.TheConstants.{MAX_LINE_OCTETS}
use Rattle.radpolicy_replay_records.specs.internal.Positions.{CountsWithin, HasCome, HasNoEnd}
use Rattle.radpolicy_replay_records.specs.internal.Running.{AreOf}
use Rattle.radpolicy_replay_records.proofs.replays.Replay.run.Given as goal

abbrev pub invariant-loop : goal.invariant-loop
invariant-loop g l = record {
  runners : AreOf l.self l.runners;
  room : 0 < length l.block.items;
  no_end : HasNoEnd l.line.items;
  short : length l.line.items ≤ MAX_LINE_OCTETS + 1;
  within : CountsWithin l.summary;
  come : HasCome l.self (g.R.Read.remaining l.fn.input) (g.R.Read.remaining l.input) l.summary
      l.line.items (g.W.Write.contents l.fn.out) (g.W.Write.contents l.out);
}
