use Rattle.std.proofs.Common.{arith, ap, ◌∙◌, Ok, ◌≡◌, ◌+◌, length, ◌<◌, subst}
use Rattle.avp_step.specs.Walk.{IsBeforeNewLine, moved_forward, answer_of_forward}
use Rattle.avp_step.proofs.HeldMoves.{held_ready, made_answer, made_held, made_walk, mark_room, over_after, passed_held, redone_answer, redone_walk, refused_line}
use Rattle.avp_step.proofs.steppers.Stepper.forward.Goals as goal

pub returns-then-self-len-clause-after : goal.returns-then-self-len-clause-after
returns-then-self-len-clause-after g c =
    let known : c.self.inside.position + 1 < length c.self.inside.marks.items = omega (arith, c.if-self-len.true, c.len.ensures, c.self.inside.marks.ok.0) in (
      redone_walk _ _ _ _ _ c.self.invariant known _ _ c.ahead.ensures ∙ ap moved_forward c.self.view_is,
      redone_answer _ _ _ _ _ c.self.invariant known _ c.index.ensures ∙ ap answer_of_forward c.self.view_is,
    )

pub step-requires : goal.step-requires
step-requires g c = record { ready = held_ready _ _ _ _ _ c.self.invariant _ c.index-last.ensures (omega (arith, c.self.invariant.within, c.self.inside.marks.ok.0)) }

pub invariant_of-self-in-Ok-None : goal.invariant_of-self-in-Ok-None
invariant_of-self-in-Ok-None g c =
    let end' : c.self.inside.position + 1 ≡ length c.self.inside.marks.items = omega (arith, c.self.invariant.within, c.self.inside.marks.ok.0) in
    passed_held _ _ _ _ _ c.self.invariant _ c.index-last.ensures end' _ (rw c.in-Ok-None.field-0-is at c.in-Ok-None.ensures.step)

pub returns-in-Ok-None-clause-after : goal.returns-in-Ok-None-clause-after
returns-in-Ok-None-clause-after g c =
    let end' : c.self.inside.position + 1 ≡ length c.self.inside.marks.items = omega (arith, c.self.invariant.within, c.self.inside.marks.ok.0) in
    let r = over_after _ _ _ _ _ c.self.invariant _ c.index-last.ensures end' c.step.new.self (rw c.in-Ok-None.field-0-is at c.in-Ok-None.ensures.step) (c.step.ensures.over (c.in-Ok-None.is ∙ ap Ok c.in-Ok-None.field-0-is)) in
    (r.0 ∙ ap moved_forward c.self.view_is, r.1 ∙ ap answer_of_forward c.self.view_is)

pub put_mark-requires : goal.put_mark-requires
put_mark-requires g c =
    let end' : c.self.inside.position + 1 ≡ length c.self.inside.marks.items = omega (arith, c.self.invariant.within, c.self.inside.marks.ok.0) in
    omega (arith, c.self.inside.marks.ok.0, mark_room _ _ _ _ _ c.self.invariant _ c.index-last.ensures end' _ c.step.new.self (rw c.in-Ok-Some.field-0-is at c.in-Ok-Some.ensures.step))

pub invariant_of-self-in-Ok-Some : goal.invariant_of-self-in-Ok-Some
invariant_of-self-in-Ok-Some g c =
    let end' : c.self.inside.position + 1 ≡ length c.self.inside.marks.items = omega (arith, c.self.invariant.within, c.self.inside.marks.ok.0) in
    made_held _ _ _ _ _ c.self.invariant _ c.index-last.ensures end' _ _ (rw c.in-Ok-Some.field-0-is at c.in-Ok-Some.ensures.step) _ _ c.put_mark.ensures.items c.put_mark.ensures.capacity

pub returns-in-Ok-Some-clause-after : goal.returns-in-Ok-Some-clause-after
returns-in-Ok-Some-clause-after g c =
    let end' : c.self.inside.position + 1 ≡ length c.self.inside.marks.items = omega (arith, c.self.invariant.within, c.self.inside.marks.ok.0) in
    let made = rw c.in-Ok-Some.field-0-is at c.in-Ok-Some.ensures.step in (
      made_walk _ _ _ _ _ c.self.invariant _ c.index-last.ensures end' _ c.step.new.self made ∙ ap moved_forward c.self.view_is,
      made_answer _ _ _ _ _ c.self.invariant _ c.index-last.ensures end' _ c.step.new.self made ∙ ap answer_of_forward c.self.view_is,
    )

pub invariant_of-self-in-Err : goal.invariant_of-self-in-Err
invariant_of-self-in-Err g c =
    let end' : c.self.inside.position + 1 ≡ length c.self.inside.marks.items = omega (arith, c.self.invariant.within, c.self.inside.marks.ok.0) in
    passed_held _ _ _ _ _ c.self.invariant _ c.index-last.ensures end' _ c.in-Err.ensures.step.0

pub returns-in-Err-clause-line : goal.returns-in-Err-clause-line
returns-in-Err-clause-line g c =
    let end' : c.self.inside.position + 1 ≡ length c.self.inside.marks.items = omega (arith, c.self.invariant.within, c.self.inside.marks.ok.0) in
    subst IsBeforeNewLine c.self.view_is (refused_line _ _ _ _ _ c.self.invariant _ c.index-last.ensures end' c.in-Err.ensures.step.1)
