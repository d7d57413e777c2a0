use Rattle.std.proofs.Common.{◌≡◌, length}
use Rattle.avp_step.specs.internal.Courses.{IsAlike, IsReady, coming, ending, standing}
use Rattle.avp_step.proofs.machines.Machine.run_to_end.Given as goal

abbrev pub invariant-loop-mark : goal.invariant-loop-mark
invariant-loop-mark g l = record {
  ready : IsReady l.last l.self;
  end : ending l.last l.self ≡ ending l.fn.first l.initial.self;
  alike : IsAlike l.initial.self l.self;
}

abbrev pub decreases-loop-mark : goal.decreases-loop-mark
decreases-loop-mark g l = length (coming l.self (standing l.last l.self))
