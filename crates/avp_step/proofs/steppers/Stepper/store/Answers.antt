use Rattle.std.proofs.Common.{ap, ◌∙◌}
use Rattle.avp_lists.specs.History.{present}
use Rattle.avp_step.proofs.HeldMoves.{shown_state}
use Rattle.avp_step.proofs.steppers.Stepper.store.Goals as goal

pub returns-clause-lists : goal.returns-clause-lists
returns-clause-lists g c = ap present c.store.ensures.history ∙ shown_state _ _ _ _ _ c.self.invariant _ c.self.view_is
