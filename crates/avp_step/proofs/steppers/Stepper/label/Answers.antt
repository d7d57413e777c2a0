use Rattle.std.proofs.Common.{ap, ◌∙◌}
use Rattle.avp_step.specs.Trace.{Entry}
use Rattle.avp_step.specs.Walk.{entry}
use Rattle.avp_step.proofs.HeldMoves.{held_mark}
use Rattle.avp_step.proofs.steppers.Stepper.label.Goals as goal

pub returns : goal.returns
returns g c =
    ap (λ (e : Entry). e.label) (held_mark _ _ _ _ _ c.self.invariant _ c.index.ensures)
    ∙ ap (λ w. (entry w).label) c.self.view_is
