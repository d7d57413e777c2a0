use Rattle.std.proofs.Common.{◌≡◌}
use Rattle.avp_step.proofs.steppers.Stepper.to_start.Given as goal

abbrev pub invariant-loop : goal.invariant-loop
invariant-loop g l = record {
  dictionary : l.self.dictionary ≡ l.initial.self.dictionary;
  trace : l.self.trace ≡ l.initial.self.trace;
  made : l.self.made ≡ l.initial.self.made;
}

abbrev pub decreases-loop : goal.decreases-loop
decreases-loop g l = l.self.position
