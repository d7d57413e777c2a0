use Rattle.std.proofs.Common.{◌∙◌, ◌+◌, drop, sym, ap, arith}
use Rattle.std.proofs.lemmas.Result.{err_from_is_err_and}
use Rattle.avp_dict.specs.Values.{resolve}
use Rattle.avp_dict.specs.internal.Contents.{contents_view}
use Rattle.avp_dict.specs.internal.Meanings.{reading_views}
use Rattle.avp_dict.proofs.Resolving.{next_readings, no_readings, resolve_fails, resolve_none, resolve_ok, some_reading}
use Rattle.avp_dict.proofs.contents.Contents.add_lines.Goals as goal

pub returns-in_err-target-clause-refused : goal.returns-in_err-target-clause-refused
returns-in_err-target-clause-refused c =
    let p = err_from_is_err_and c.from_residual.result c.from_residual.ensures.1 in
    let i = c.loop-reading.reading-index in
    let readings = c.args.readings.now in
    let next = next_readings readings i some_reading (omega arith) in
    rw (p.1, p.2) (rw (ap (resolve c.args.skipped.now (contents_view c.loop-reading.self)) (sym next) ∙ c.loop-reading.invariant.0) at (resolve_fails c.args.skipped.now (contents_view c.loop-reading.self) _ (reading_views (drop (i + 1) readings)) c.in_err-target.field-0.0 c.in_err-target.ensures.refused))

pub loop-reading-preserved : goal.loop-reading-preserved
loop-reading-preserved c =
    let i = c.loop-reading.reading-index in
    let readings = c.args.readings.now in
    let next = next_readings readings i some_reading (omega arith) in (
      sym (resolve_ok c.args.skipped.now (contents_view c.loop-reading.self) (contents_view c.add_line.new.self) _ (reading_views (drop (i + 1) readings)) c.in_ok-target.ensures.step)
          ∙ (ap (resolve c.args.skipped.now (contents_view c.loop-reading.self)) (sym next) ∙ c.loop-reading.invariant.0),
      c.in_ok-target.ensures.target,
      c.in_ok-target.ensures.agreeing,
      c.in_ok-target.ensures.format,
    )

pub returns-clause-ok : goal.returns-clause-ok
returns-clause-ok c =
    sym c.loop-reading.invariant.0 ∙ (ap (resolve c.args.skipped.now (contents_view c.loop-reading.self)) (no_readings c.args.readings.now c.loop-reading.reading-index (omega arith)) ∙ resolve_none c.args.skipped.now (contents_view c.loop-reading.self))
