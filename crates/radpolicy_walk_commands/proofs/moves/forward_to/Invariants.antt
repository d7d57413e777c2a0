use Rattle.std.proofs.Common.{◌≡◌, ◌≤◌, ◌-◌, max}
use Rattle.radpolicy_walk_commands.proofs.moves.forward_to.Given as goal

abbrev pub invariant-steps : goal.invariant-steps
invariant-steps g l = record {
  dictionary : l.stepper.dictionary ≡ l.initial.stepper.dictionary;
  trace : l.stepper.trace ≡ l.initial.stepper.trace;
  onward : l.initial.stepper.position ≤ l.stepper.position;
  short : l.stepper.position ≤ max l.initial.stepper.position l.position;
}

abbrev pub decreases-steps : goal.decreases-steps
decreases-steps g l = l.position - l.stepper.position
