use Rattle.std.proofs.Common.{◌≡◌, ◌+◌, sym, subst}
use Rattle.std.specs.Io.KnownBytes.{Appends}
use Rattle.std.proofs.lemmas.Result.{err_from_is_err_and}
use Rattle.radpolicy_replay_records.specs.Headings.{name_of}
use Rattle.radpolicy_replay_records.specs.Replays.{AppendsFront, entry_counted, entry_difference, entry_lines, entry_text, entry_verdict}
use Rattle.radpolicy_record_answers.specs.TextEntries.{IsEntryOf}
use Rattle.radpolicy_replay_records.specs.TextReplays.{Gives, lines_secret, text_secret}
use Rattle.radpolicy_replay_records.specs.internal.Positions.{CountsWithin}
use Rattle.radpolicy_replay_records.specs.internal.Running.{AreOf}
use Rattle.radpolicy_replay_records.proofs.Progress.{record_within}
use Rattle.radpolicy_replay_records.proofs.Telling.{broken_front, entry_reason, told_front, told_further}
use Rattle.radpolicy_replay_records.proofs.replays.Replay.run_records.Goals as goal

pub returns-in_err-entry-clause-front : goal.returns-in_err-entry-clause-front
returns-in_err-entry-clause-front g c =
    let p = err_from_is_err_and c.from_residual-in_err-entry.result c.from_residual-in_err-entry.ensures.1 in
    rw p.1 (told_front c.args.self.now c.args.zone c.loop.summary
    (g.R.Records.remaining c.args.records.now) (g.R.Records.remaining c.loop.records)
    (g.W.Write.contents c.args.out.now) (g.W.Write.contents c.loop.out) c.loop.invariant.so_far)

pub returns-in_err-summary-clause-front : goal.returns-in_err-summary-clause-front
returns-in_err-summary-clause-front g c =
    let p = err_from_is_err_and c.from_residual-in_err-summary.result c.from_residual-in_err-summary.ensures.1 in
    let gives : Gives (g.R.Records.remaining c.loop.records) (g.R.Records.remaining c.next_record.new.self) c.in-Some.record =
    rw c.in-Some.is at c.in_ok-record.ensures.given in
    let says : IsEntryOf c.args.self.now.policy.now.dictionary c.args.zone (text_secret c.args.self.now.shared c.in-Some.record) c.in-Some.record c.in_ok-entry.entry =
    rw (c.dictionary-dictionary.ensures, c.of_text-secret.ensures) at c.in_ok-entry.ensures in
    let puts : AppendsFront (g.W.Write.contents c.loop.out) (g.W.Write.contents c.tell_entry.new.out) (entry_text c.args.self.now (c.loop.summary.read + 1) (lines_secret c.args.self.now.shared c.in-Some.record) c.in_ok-entry.entry) =
    rw (c.or_missing-read_by.ensures, c.of_text-secret.ensures) at c.in_err-summary.ensures.front in
    rw p.1 (broken_front c.args.self.now c.args.zone c.loop.summary c.in-Some.record c.in_ok-entry.entry
    (g.R.Records.remaining c.args.records.now) (g.R.Records.remaining c.loop.records) (g.R.Records.remaining c.next_record.new.self)
    (g.W.Write.contents c.args.out.now) (g.W.Write.contents c.loop.out) (g.W.Write.contents c.tell_entry.new.out) gives says puts c.loop.invariant.so_far)

pub returns-in_err-summary-clause-reason : goal.returns-in_err-summary-clause-reason
returns-in_err-summary-clause-reason g c =
    let p = err_from_is_err_and c.from_residual-in_err-summary.result c.from_residual-in_err-summary.ensures.1 in
    let gives : Gives (g.R.Records.remaining c.loop.records) (g.R.Records.remaining c.next_record.new.self) c.in-Some.record =
    rw c.in-Some.is at c.in_ok-record.ensures.given in
    rw (p.1, p.2) (entry_reason c.args.self.now c.args.zone c.loop.summary c.in-Some.record c.in_err-summary.field-0.0
    (g.R.Records.remaining c.args.records.now) (g.R.Records.remaining c.loop.records) (g.R.Records.remaining c.next_record.new.self)
    (g.W.Write.contents c.args.out.now) (g.W.Write.contents c.loop.out) (g.W.Write.contents c.tell_entry.new.out) gives c.in_err-summary.ensures.reason c.loop.invariant.so_far)

pub returns-in_err-flush-clause-front : goal.returns-in_err-flush-clause-front
returns-in_err-flush-clause-front g c =
    let p = err_from_is_err_and c.from_residual-in_err-flush.result c.from_residual-in_err-flush.ensures.1 in
    let gives : Gives (g.R.Records.remaining c.loop.records) (g.R.Records.remaining c.next_record.new.self) c.in-Some.record =
    rw c.in-Some.is at c.in_ok-record.ensures.given in
    let says : IsEntryOf c.args.self.now.policy.now.dictionary c.args.zone (text_secret c.args.self.now.shared c.in-Some.record) c.in-Some.record c.in_ok-entry.entry =
    rw (c.dictionary-dictionary.ensures, c.of_text-secret.ensures) at c.in_ok-entry.ensures in
    let puts : Appends (g.W.Write.contents c.loop.out) (g.W.Write.contents c.tell_entry.new.out) (entry_text c.args.self.now (c.loop.summary.read + 1) (lines_secret c.args.self.now.shared c.in-Some.record) c.in_ok-entry.entry) =
    rw (c.or_missing-read_by.ensures, c.of_text-secret.ensures) at c.in_ok-summary.ensures.text in
    let counts : c.in_ok-summary.summary ≡ entry_counted c.args.self.now c.loop.summary (lines_secret c.args.self.now.shared c.in-Some.record) c.in_ok-entry.entry =
    rw (c.or_missing-read_by.ensures, c.of_text-secret.ensures) at c.in_ok-summary.ensures.summary in
    rw p.1 (told_front c.args.self.now c.args.zone c.in_ok-summary.summary
    (g.R.Records.remaining c.args.records.now) (g.R.Records.remaining c.next_record.new.self) (g.W.Write.contents c.args.out.now) (g.W.Write.contents c.flush.new.out)
    (told_further c.args.self.now c.args.zone c.loop.summary c.in_ok-summary.summary c.in-Some.record c.in_ok-entry.entry
    (g.R.Records.remaining c.args.records.now) (g.R.Records.remaining c.loop.records) (g.R.Records.remaining c.next_record.new.self)
    (g.W.Write.contents c.args.out.now) (g.W.Write.contents c.loop.out) (g.W.Write.contents c.tell_entry.new.out) (g.W.Write.contents c.flush.new.out)
    gives says counts puts c.in_err-flush.ensures.kept c.loop.invariant.so_far))

pub loop-preserved : goal.loop-preserved
loop-preserved g c =
    let gives : Gives (g.R.Records.remaining c.loop.records) (g.R.Records.remaining c.next_record.new.self) c.in-Some.record =
    rw c.in-Some.is at c.in_ok-record.ensures.given in
    let says : IsEntryOf c.args.self.now.policy.now.dictionary c.args.zone (text_secret c.args.self.now.shared c.in-Some.record) c.in-Some.record c.in_ok-entry.entry =
    rw (c.dictionary-dictionary.ensures, c.of_text-secret.ensures) at c.in_ok-entry.ensures in
    let puts : Appends (g.W.Write.contents c.loop.out) (g.W.Write.contents c.tell_entry.new.out) (entry_text c.args.self.now (c.loop.summary.read + 1) (lines_secret c.args.self.now.shared c.in-Some.record) c.in_ok-entry.entry) =
    rw (c.or_missing-read_by.ensures, c.of_text-secret.ensures) at c.in_ok-summary.ensures.text in
    let counts : c.in_ok-summary.summary ≡ entry_counted c.args.self.now c.loop.summary (lines_secret c.args.self.now.shared c.in-Some.record) c.in_ok-entry.entry =
    rw (c.or_missing-read_by.ensures, c.of_text-secret.ensures) at c.in_ok-summary.ensures.summary in
    record {
      runners = subst (AreOf c.args.self.now) (sym c.tell_entry.ensures.kept) c.loop.invariant.runners;
      within = subst CountsWithin (sym counts) (record_within c.loop.summary (entry_verdict c.args.self.now (lines_secret c.args.self.now.shared c.in-Some.record) c.in_ok-entry.entry)
          (entry_lines c.args.self.now (lines_secret c.args.self.now.shared c.in-Some.record) c.in_ok-entry.entry)
          (name_of (c.loop.summary.read + 1) c.in_ok-entry.entry)
          (entry_difference c.args.self.now (lines_secret c.args.self.now.shared c.in-Some.record) c.in_ok-entry.entry) c.loop.invariant.within);
      so_far = told_further c.args.self.now c.args.zone c.loop.summary c.in_ok-summary.summary c.in-Some.record c.in_ok-entry.entry
          (g.R.Records.remaining c.args.records.now) (g.R.Records.remaining c.loop.records) (g.R.Records.remaining c.next_record.new.self)
          (g.W.Write.contents c.args.out.now) (g.W.Write.contents c.loop.out) (g.W.Write.contents c.tell_entry.new.out) (g.W.Write.contents c.flush.new.out)
          gives says counts puts c.in_ok-flush.ensures.kept c.loop.invariant.so_far;
    }
