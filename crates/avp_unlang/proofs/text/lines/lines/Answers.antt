use Rattle.std.proofs.Common.{sym, subst, arith}
use Rattle.avp_unlang.specs.Forms.{While}
use Rattle.avp_unlang.specs.Lines.{LineIs, begins_line}
use Rattle.avp_unlang.specs.RefusedForms.{Tells, WhileFails}
use Rattle.avp_unlang.specs.RefusedLines.{LineFails}
use Rattle.avp_unlang.proofs.RefusedReads.{tells}
use Rattle.avp_unlang.proofs.Determined.{exits}
use Rattle.avp_unlang.proofs.LinesOne.{line_one}
use Rattle.avp_unlang.proofs.ValueRuns.{run_more, run_done, run_stops}
use Rattle.avp_unlang.proofs.text.lines.lines.Goals as goal

pub returns-in_err-found-clause-read : goal.returns-in_err-found-clause-read
returns-in_err-found-clause-read c =
    exits (While begins_line (LineIs c.args.profile c.args.dictionary.now c.args.own) c.args.at) _ _ c.from_residual.ensures.1
    (run_stops begins_line (LineIs c.args.profile c.args.dictionary.now c.args.own) c.args.at c.loop-alloc.lines.items c.loop-alloc.rest c.loop-alloc.invariant.run (sym c.loop-alloc-test.ensures) c.in_err-found.field-0.0 c.in_err-found.ensures.read)

pub returns-in_err-found-clause-refused : goal.returns-in_err-found-clause-refused
returns-in_err-found-clause-refused c =
    tells (Tells (WhileFails begins_line (LineIs c.args.profile c.args.dictionary.now c.args.own) (LineFails c.args.profile c.args.dictionary.now c.args.own) c.args.at)) _ _ c.from_residual.ensures.1
    (λ some. c.loop-alloc.invariant.refused c.in_err-found.field-0.0.left c.in_err-found.field-0.0.kind (WhileFails.here (sym c.loop-alloc-test.ensures) (c.in_err-found.ensures.refused some)))

pub loop-alloc-preserved : goal.loop-alloc-preserved
loop-alloc-preserved c = record {
  run =
      run_more begins_line (LineIs c.args.profile c.args.dictionary.now c.args.own) (line_one c.args.profile c.args.dictionary.now c.args.own) c.args.at c.loop-alloc.lines.items c.loop-alloc.rest c.in_ok-found.found c.in_ok-found.end
      c.loop-alloc.invariant.run (sym c.loop-alloc-test.ensures) c.in_ok-found.ensures.read c.push.new.self.items c.in_ok-push.ensures.items;
  within = omega (arith, c.in_ok-found.ensures.shorter);
  refused = λ left kind h. c.loop-alloc.invariant.refused left kind (WhileFails.later c.in_ok-found.found c.in_ok-found.end (sym c.loop-alloc-test.ensures) c.in_ok-found.ensures.read h);
}

pub returns-clause-read : goal.returns-clause-read
returns-clause-read c =
    subst (λ found. While begins_line (LineIs c.args.profile c.args.dictionary.now c.args.own) c.args.at found c.loop-alloc.rest) (sym c.from_vec.ensures)
    (run_done begins_line (LineIs c.args.profile c.args.dictionary.now c.args.own) c.args.at c.loop-alloc.lines.items c.loop-alloc.rest c.loop-alloc.invariant.run (sym c.loop-alloc-test.ensures))
