use Rattle.std.proofs.Common.{sym, subst}
use Rattle.std.proofs.lemmas.List.{take_more}
use Rattle.avp_step.specs.declared.labels.Move.TheVariants as move
use Rattle.avp_step.specs.Walk.{MovesMay}
use Rattle.avp_step.proofs.Walks.{moves_push}
use Rattle.avp_step.proofs.steppers.Stepper.follow.Goals as goal

pub loop-step-preserved : goal.loop-step-preserved
loop-step-preserved g c =
    subst (λ ms. MovesMay c.args.self.now ms c.make.new.self) (sym (take_more c.args.moves.now c.loop-step.step-index move.Forward c.loop-step-test.true))
    (moves_push c.args.self.now c.loop-step.self c.make.new.self _ _ c.loop-step.invariant c.make.ensures)
