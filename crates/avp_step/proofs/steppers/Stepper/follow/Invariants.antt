use Rattle.std.proofs.Common.{take}
use Rattle.avp_step.specs.Walk.{MovesMay}
use Rattle.avp_step.proofs.steppers.Stepper.follow.Given as goal

abbrev pub invariant-loop-step : goal.invariant-loop-step
invariant-loop-step g l = MovesMay l.initial.self (take l.step-index l.moves) l.self
