use Rattle.avp_step.specs.internal.Courses.{IsPassed}
use Rattle.avp_step.specs.internal.Frames.{all_skips}
use Rattle.avp_step.proofs.machines.Machine.step.Given as goal

abbrev pub invariant-loop-frame : goal.invariant-loop-frame
invariant-loop-frame g l = IsPassed l.last l.initial.self l.self

abbrev pub decreases-loop-frame : goal.decreases-loop-frame
decreases-loop-frame g l = all_skips l.self.frames
