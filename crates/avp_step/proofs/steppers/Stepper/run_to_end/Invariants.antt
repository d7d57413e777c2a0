use Rattle.std.proofs.Common.{◌≡◌, ◌≤◌, ◌-◌, length}
use Rattle.avp_step.specs.Walk.{IsWithin}
use Rattle.avp_step.proofs.steppers.Stepper.run_to_end.Given as goal

abbrev pub invariant-loop : goal.invariant-loop
invariant-loop g l = record {
  dictionary : l.self.dictionary ≡ l.initial.self.dictionary;
  trace : l.self.trace ≡ l.initial.self.trace;
  onward : l.initial.self.made ≤ l.self.made;
  within : IsWithin l.self;
}

abbrev pub decreases-loop : goal.decreases-loop
decreases-loop g l = length l.self.trace - l.self.position
