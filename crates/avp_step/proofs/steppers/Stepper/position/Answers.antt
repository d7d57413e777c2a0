use Rattle.std.proofs.Common.{subst}
use Rattle.avp_step.specs.Walk.{IsWithin}
use Rattle.avp_step.proofs.HeldMoves.{held_within}
use Rattle.avp_step.proofs.steppers.Stepper.position.Goals as goal

pub returns-clause-within : goal.returns-clause-within
returns-clause-within g c =
    subst IsWithin c.self.view_is (held_within _ _ _ _ _ c.self.invariant)
