use Rattle.radpolicy_replay_records.specs.internal.Positions.{CountsWithin}
use Rattle.radpolicy_replay_records.specs.internal.Running.{AreOf}
use Rattle.radpolicy_replay_records.specs.internal.Tellings.{HasTold}
use Rattle.radpolicy_replay_records.proofs.replays.Replay.run_records.Given as goal

abbrev pub invariant-loop : goal.invariant-loop
invariant-loop g l = record {
  runners : AreOf l.self l.runners;
  within : CountsWithin l.summary;
  so_far : HasTold l.self l.zone (g.R.Records.remaining l.fn.records) (g.R.Records.remaining l.records)
      l.summary (g.W.Write.contents l.fn.out) (g.W.Write.contents l.out);
}
