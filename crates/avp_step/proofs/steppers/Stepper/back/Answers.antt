use Rattle.avp_step.proofs.HeldMoves.{back_held}
use Rattle.avp_step.proofs.steppers.Stepper.back.Goals as goal

pub invariant_of-self : goal.invariant_of-self
invariant_of-self g c = back_held _ _ _ _ _ c.self.invariant _ c.back.ensures
