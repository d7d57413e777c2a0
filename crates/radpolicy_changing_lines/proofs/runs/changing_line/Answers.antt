use Rattle.std.proofs.Common.{◌≡◌, ◌∙◌, ◌+◌, Option, Some, None, ℕ, take, sym, ap, subst, arith}
use Rattle.std.specs.Option.{option_or}
use Rattle.radpolicy_changing_lines.specs.ChangingLines.{changing_line, line_made}
use Rattle.radpolicy_changing_lines.proofs.LastSteps.{step_back}
use Rattle.radpolicy_changing_lines.proofs.runs.changing_line.Goals as goal

pub returns-in-Some-clause-line : goal.returns-in-Some-clause-line
returns-in-Some-clause-line g c =
    let back = step_back c.args.list c.args.id c.run_to_end.new.self.trace c.steps.run c.back.new.self c.as_slice.result.now c.as_slice-in-steps.result.now c.label-label.result
    c.steps.invariant.trace (omega (arith, c.steps-test.true)) c.steps.invariant.within c.back.ensures.after (c.as_slice.ensures ∙ c.in_ok-before.ensures) (c.as_slice-in-steps.ensures ∙ c.steps.invariant.after) c.label-label.ensures in
    let made : line_made c.as_slice.result.now c.as_slice-in-steps.result.now c.label-label.result ≡ Some c.in-Some.line = sym c.line_made.ensures ∙ c.in-Some.is in
    let whole : Some c.in-Some.line ≡ changing_line c.args.list c.args.id c.run_to_end.new.self.trace =
    sym (ap (λ (x : Option ℕ). option_or x (changing_line c.args.list c.args.id (take (c.back.new.self.position + 1) c.run_to_end.new.self.trace))) made) ∙ sym back ∙ c.steps.invariant.told in
    rw c.in_ok-run_to_end.ensures.end at whole

pub steps-preserved : goal.steps-preserved
steps-preserved g c =
    let back = step_back c.args.list c.args.id c.run_to_end.new.self.trace c.steps.run c.back.new.self c.as_slice.result.now c.as_slice-in-steps.result.now c.label-label.result
    c.steps.invariant.trace (omega (arith, c.steps-test.true)) c.steps.invariant.within c.back.ensures.after (c.as_slice.ensures ∙ c.in_ok-before.ensures) (c.as_slice-in-steps.ensures ∙ c.steps.invariant.after) c.label-label.ensures in
    let made : line_made c.as_slice.result.now c.as_slice-in-steps.result.now c.label-label.result ≡ None = sym c.line_made.ensures ∙ c.in_default.is in
    record {
      trace = rw c.back.ensures.after c.steps.invariant.trace;
      within = rw c.back.ensures.after (omega (arith, c.steps.invariant.within.0), c.steps.invariant.within.1);
      after = c.in_ok-before.ensures;
      told = sym (ap (λ (x : Option ℕ). option_or x (changing_line c.args.list c.args.id (take (c.back.new.self.position + 1) c.run_to_end.new.self.trace))) made) ∙ sym back ∙ c.steps.invariant.told;
    }
