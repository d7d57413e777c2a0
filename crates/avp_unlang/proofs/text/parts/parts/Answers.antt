use Rattle.std.proofs.Common.{sym, subst}
use Rattle.avp_unlang.specs.Parts.{is_left, PartIs, PartsAre}
use Rattle.avp_unlang.specs.RefusedForms.{Tells, WhileFails}
use Rattle.avp_unlang.specs.RefusedLines.{PartFails}
use Rattle.avp_unlang.proofs.RefusedReads.{tells}
use Rattle.avp_unlang.proofs.PartsOne.{part_one}
use Rattle.avp_unlang.proofs.ValueRuns.{run_more, run_done, run_exits}
use Rattle.avp_unlang.proofs.text.parts.parts.Goals as goal

pub returns-in_err-found-clause-read : goal.returns-in_err-found-clause-read
returns-in_err-found-clause-read c =
    run_exits is_left (PartIs c.args.profile c.args.dictionary.now) c.args.text c.loop-rest.parts.items c.loop-rest.rest _ _ c.from_residual.ensures.1 c.loop-rest.invariant.run (sym c.loop-rest-test.ensures) c.in_err-found.ensures.read

pub returns-in_err-found-clause-refused : goal.returns-in_err-found-clause-refused
returns-in_err-found-clause-refused c =
    tells (Tells (WhileFails is_left (PartIs c.args.profile c.args.dictionary.now) (PartFails c.args.profile c.args.dictionary.now c.args.quoted.left) c.args.text)) _ _ c.from_residual.ensures.1
    (λ some. c.loop-rest.invariant.refused c.in_err-found.field-0.0.left c.in_err-found.field-0.0.kind (WhileFails.here (sym c.loop-rest-test.ensures) (c.in_err-found.ensures.refused some)))

pub loop-rest-preserved : goal.loop-rest-preserved
loop-rest-preserved c = record {
  run =
      run_more is_left (PartIs c.args.profile c.args.dictionary.now) (part_one c.args.profile c.args.dictionary.now) c.args.text c.loop-rest.parts.items c.loop-rest.rest c.in_ok-found.found c.in_ok-found.end
      c.loop-rest.invariant.run (sym c.loop-rest-test.ensures) c.in_ok-found.ensures.read c.push.new.self.items c.in_ok-push.ensures.items;
  refused = λ left kind h. c.loop-rest.invariant.refused left kind (WhileFails.later c.in_ok-found.found c.in_ok-found.end (sym c.loop-rest-test.ensures) c.in_ok-found.ensures.read h);
}

pub returns-clause-read : goal.returns-clause-read
returns-clause-read c =
    subst (λ found. PartsAre c.args.profile c.args.dictionary.now c.args.text found) (sym c.from_vec.ensures)
    (c.loop-rest.rest, run_done is_left (PartIs c.args.profile c.args.dictionary.now) c.args.text c.loop-rest.parts.items c.loop-rest.rest c.loop-rest.invariant.run (sym c.loop-rest-test.ensures))
