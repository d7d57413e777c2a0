use Rattle.std.proofs.Common.{◌≡◌, ◌<◌, ◌+◌, ◌++◌, ◌∙◌, ap, arith, length}
use Rattle.radpolicy_walk_commands.specs.Sessions.{Session, last_position, entry_of}
use Rattle.radpolicy_walk_commands.specs.Histories.{step_told}
use Rattle.radpolicy_walk_commands.specs.Steps.{step_of}
use Rattle.radpolicy_walk_commands.proofs.Followings.{following_after, following_before, position_on, told_on}
use Rattle.radpolicy_walk_commands.proofs.histories.history.Goals as goal

pub follow-requires-clause-before : goal.follow-requires-clause-before
follow-requires-clause-before c =
    let first = c.make.new.self in
    let here = c.steps.session in
    let same : first.trace ≡ c.args.session.now.trace = ap (λ (x : Session). x.trace) c.in_ok-make.ensures in
    let length_same : length first.trace ≡ length c.args.session.now.trace = ap length same in
    let within : c.position-place.result < length first.trace = omega (arith, length_same, c.position-place.ensures.position, c.position-place.ensures.within) in
    let early : here.position < c.position-place.result = omega (arith, c.steps-test.true, c.position.ensures.position) in
    following_before here c.make-in-steps.new.self first.trace c.position-place.result c.in_ok-make-2.ensures c.steps.invariant.trace early within first.redaction c.steps.invariant.redaction c.args.id
    c.steps.followers c.steps.invariant.following

pub steps-preserved : goal.steps-preserved
steps-preserved c =
    let first = c.make.new.self in
    let here = c.steps.session in
    let next = c.make-in-steps.new.self in
    let place = c.position-place.result in
    let same : first.trace ≡ c.args.session.now.trace = ap (λ (x : Session). x.trace) c.in_ok-make.ensures in
    let length_same : length first.trace ≡ length c.args.session.now.trace = ap length same in
    let within : place < length first.trace = omega (arith, length_same, c.position-place.ensures.position, c.position-place.ensures.within) in
    let early : here.position < place = omega (arith, c.steps-test.true, c.position.ensures.position) in
    let on : next.position ≡ here.position + 1 = position_on here next first.trace place c.in_ok-make-2.ensures c.steps.invariant.trace early within in
    record {
      redaction = ap (λ (x : Session). x.redaction) c.in_ok-make-2.ensures ∙ c.steps.invariant.redaction;
      trace = ap (λ (x : Session). x.trace) c.in_ok-make-2.ensures ∙ c.steps.invariant.trace;
      breaks = ap (λ (x : Session). x.breaks) c.in_ok-make-2.ensures ∙ c.steps.invariant.breaks;
      short = omega (arith, on, early);
      following = following_after here next first.trace place c.in_ok-make-2.ensures c.steps.invariant.trace early within first.redaction c.steps.invariant.redaction c.args.id c.follow.new.self c.in_ok-lines.ensures.after;
      told = told_on here next first.trace place c.in_ok-make-2.ensures c.steps.invariant.trace early within first.redaction c.steps.invariant.redaction c.args.id c.steps.text.items c.in_ok-lines.lines.items
          c.push_told.new.text.items c.steps.invariant.told c.in_ok-lines.ensures.lines
          (c.in_ok-push_told.ensures ∙ ap (λ lines. c.steps.text.items ++ step_told next.position (last_position next) (step_of (entry_of next)) lines) c.deref.ensures.value);
    }
