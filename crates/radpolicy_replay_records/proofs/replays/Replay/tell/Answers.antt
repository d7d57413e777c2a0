use Rattle.std.proofs.Common.{◌≡◌, List, ℕ, OnErr, subst, rules, true}
use Rattle.radpolicy_replay_records.specs.Lines.{is_record}
use Rattle.radpolicy_replay_records.specs.Replays.{AppendsFront}
use Rattle.radpolicy_replay_records.proofs.Telling.{line_told}
use Rattle.radpolicy_replay_records.proofs.replays.Replay.tell.Goals as goal

pub returns-clause-front : goal.returns-clause-front
returns-clause-front g c =
    let is : is_record c.args.line.now ≡ true = search rules in
    subst (λ (text : List ℕ). OnErr c.tell_entry.result (AppendsFront (g.W.Write.contents c.args.out.now) (g.W.Write.contents c.tell_entry.new.out) text))
    (line_told c.args.self.now c.args.summary c.args.line.now c.in_ok-secret.secret c.in_ok-entry.entry is c.in_ok-secret.ensures c.in_ok-entry.ensures) c.tell_entry.ensures.front
