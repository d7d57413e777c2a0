use Rattle.std.proofs.Common.{◌≡◌, ◌∙◌, ◌++◌, ◌∷◌, [], sym, subst, arith, rules}
use Rattle.std.specs.List.{slice_split}
use Rattle.std.specs.Io.KnownBytes.{Appends}
use Rattle.std.proofs.lemmas.List.Elements.{All-nil}
use Rattle.std.proofs.lemmas.Result.{err_from_is_err_and}
use Rattle.avp_dict.specs.Lines.{is_line_end}
use Rattle.radpolicy_replay_records.specs.Lines.{cut}
use Rattle.radpolicy_replay_records.specs.Replays.{AppendsFront}
use Rattle.radpolicy_replay_records.specs.internal.Positions.{CountsWithin, HasNoEnd, IsLineReason, line_counted, line_text}
use Rattle.radpolicy_replay_records.proofs.Cutting.{NoEnd, cut_is_short, first_clean}
use Rattle.radpolicy_replay_records.proofs.Progress.{cut_is_clean, front_of_writes, line_broken, line_counted_within, line_kept, next_line, octets_reason}
use Rattle.radpolicy_replay_records.proofs.replays.Replay.tell_block.Goals as goal

pub loop-end-preserved : goal.loop-end-preserved
loop-end-preserved g c =
    let split : slice_split is_line_end c.loop-end.rest.now ≡ c.in-Some.end.now ∷ slice_split is_line_end c.in-Some.later.now = search rules in
    let held : c.keep.new.line.items ≡ cut (c.loop-end.line.items ++ c.in-Some.end.now) = search rules in
    let puts : Appends (g.W.Write.contents c.loop-end.out) (g.W.Write.contents c.tell.new.out) (line_text c.args.self.now c.loop-end.after c.keep.new.line.items) =
    rw c.deref.ensures.value at c.in_ok-after.ensures.text in
    let counts : c.in_ok-after.after ≡ line_counted c.args.self.now c.loop-end.after c.keep.new.line.items =
    rw c.deref.ensures.value at c.in_ok-after.ensures.summary in
    record {
      runners = c.tell.ensures.kept ∙ c.loop-end.invariant.runners;
      no_end = subst HasNoEnd (sym c.clear.ensures.items) (All-nil NoEnd);
      short = rw c.clear.ensures.items (omega arith);
      within = subst CountsWithin (sym counts) (line_counted_within c.args.self.now c.loop-end.after c.keep.new.line.items c.loop-end.invariant.within);
      told = next_line c.args.self.now c.args.summary c.loop-end.after c.in_ok-after.after (c.args.line.now.items ++ c.args.block.now) c.loop-end.line.items c.loop-end.rest.now c.in-Some.end.now c.in-Some.later.now c.keep.new.line.items c.clear.new.self.items
          (g.W.Write.contents c.args.out.now) (g.W.Write.contents c.loop-end.out) (g.W.Write.contents c.tell.new.out)
          c.loop-end.invariant.no_end split held puts counts c.clear.ensures.items c.loop-end.invariant.told;
    }

pub returns-clause-no_end : goal.returns-clause-no_end
returns-clause-no_end g c =
    let whole : slice_split is_line_end c.loop-end.rest.now ≡ c.loop-end.rest.now ∷ [] = search rules in
    let held : c.keep-2.new.line.items ≡ cut (c.loop-end.line.items ++ c.loop-end.rest.now) = search rules in
    cut_is_clean c.loop-end.line.items c.loop-end.rest.now c.keep-2.new.line.items c.loop-end.invariant.no_end (first_clean c.loop-end.rest.now c.loop-end.rest.now [] whole) held

pub returns-clause-short : goal.returns-clause-short
returns-clause-short g c =
    let held : c.keep-2.new.line.items ≡ cut (c.loop-end.line.items ++ c.loop-end.rest.now) = search rules in
    cut_is_short (c.loop-end.line.items ++ c.loop-end.rest.now) c.keep-2.new.line.items held

pub returns-clause-told : goal.returns-clause-told
returns-clause-told g c =
    let whole : slice_split is_line_end c.loop-end.rest.now ≡ c.loop-end.rest.now ∷ [] = search rules in
    let held : c.keep-2.new.line.items ≡ cut (c.loop-end.line.items ++ c.loop-end.rest.now) = search rules in
    line_kept c.args.self.now c.args.summary c.loop-end.after (c.args.line.now.items ++ c.args.block.now) c.loop-end.line.items c.loop-end.rest.now c.keep-2.new.line.items
    (g.W.Write.contents c.args.out.now) (g.W.Write.contents c.loop-end.out) c.loop-end.invariant.no_end whole held c.loop-end.invariant.told

pub returns-in_err-keep-clause-front : goal.returns-in_err-keep-clause-front
returns-in_err-keep-clause-front g c =
    let p = err_from_is_err_and c.from_residual.result c.from_residual.ensures.1 in
    rw p.1 (front_of_writes c.args.self.now c.args.summary c.loop-end.after (c.args.line.now.items ++ c.args.block.now) (c.loop-end.line.items ++ c.loop-end.rest.now)
    (g.W.Write.contents c.args.out.now) (g.W.Write.contents c.loop-end.out) c.loop-end.invariant.told)

pub returns-in_err-keep-2-clause-front : goal.returns-in_err-keep-2-clause-front
returns-in_err-keep-2-clause-front g c =
    let p = err_from_is_err_and c.from_residual-in_err-keep-2.result c.from_residual-in_err-keep-2.ensures.1 in
    rw p.1 (front_of_writes c.args.self.now c.args.summary c.loop-end.after (c.args.line.now.items ++ c.args.block.now) (c.loop-end.line.items ++ c.loop-end.rest.now)
    (g.W.Write.contents c.args.out.now) (g.W.Write.contents c.loop-end.out) c.loop-end.invariant.told)

pub returns-in_err-after-clause-front : goal.returns-in_err-after-clause-front
returns-in_err-after-clause-front g c =
    let p = err_from_is_err_and c.from_residual-in_err-after.result c.from_residual-in_err-after.ensures.1 in
    let split : slice_split is_line_end c.loop-end.rest.now ≡ c.in-Some.end.now ∷ slice_split is_line_end c.in-Some.later.now = search rules in
    let held : c.keep.new.line.items ≡ cut (c.loop-end.line.items ++ c.in-Some.end.now) = search rules in
    let puts : AppendsFront (g.W.Write.contents c.loop-end.out) (g.W.Write.contents c.tell.new.out) (line_text c.args.self.now c.loop-end.after c.keep.new.line.items) =
    rw c.deref.ensures.value at c.in_err-after.ensures.front in
    rw p.1 (line_broken c.args.self.now c.args.summary c.loop-end.after (c.args.line.now.items ++ c.args.block.now) c.loop-end.line.items c.loop-end.rest.now c.in-Some.end.now c.in-Some.later.now c.keep.new.line.items
    (g.W.Write.contents c.args.out.now) (g.W.Write.contents c.loop-end.out) (g.W.Write.contents c.tell.new.out)
    c.loop-end.invariant.no_end split held puts c.loop-end.invariant.told)

pub returns-in_err-after-clause-reason : goal.returns-in_err-after-clause-reason
returns-in_err-after-clause-reason g c =
    let p = err_from_is_err_and c.from_residual-in_err-after.result c.from_residual-in_err-after.ensures.1 in
    let split : slice_split is_line_end c.loop-end.rest.now ≡ c.in-Some.end.now ∷ slice_split is_line_end c.in-Some.later.now = search rules in
    let held : c.keep.new.line.items ≡ cut (c.loop-end.line.items ++ c.in-Some.end.now) = search rules in
    let reason : IsLineReason c.loop-end.after c.keep.new.line.items c.in_err-after.field-0.0 =
    rw c.deref.ensures.value at c.in_err-after.ensures.reason in
    rw (p.1, p.2) (octets_reason c.args.self.now c.args.summary c.loop-end.after (c.args.line.now.items ++ c.args.block.now) c.loop-end.line.items c.loop-end.rest.now c.in-Some.end.now c.in-Some.later.now c.keep.new.line.items
    (g.W.Write.contents c.args.out.now) (g.W.Write.contents c.loop-end.out) c.in_err-after.field-0.0
    c.loop-end.invariant.no_end split held c.loop-end.invariant.told reason)
