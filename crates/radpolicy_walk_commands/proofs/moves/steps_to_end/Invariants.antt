use Rattle.std.proofs.Common.{◌≡◌, ◌-◌, ◌+◌, length, map, take}
use Rattle.avp_step.specs.Walk.{IsWithin}
use Rattle.radpolicy_walk_commands.specs.Steps.{step_of}
use Rattle.radpolicy_walk_commands.proofs.moves.steps_to_end.Given as goal

abbrev pub invariant-steps : goal.invariant-steps
invariant-steps g l = record {
  dictionary : l.stepper.dictionary ≡ l.initial.stepper.dictionary;
  trace : l.stepper.trace ≡ l.initial.stepper.trace;
  within : IsWithin l.stepper;
  told : l.steps.items ≡ map step_of (take (l.stepper.position + 1) l.initial.stepper.trace);
}

abbrev pub decreases-steps : goal.decreases-steps
decreases-steps g l = length l.stepper.trace - l.stepper.position
