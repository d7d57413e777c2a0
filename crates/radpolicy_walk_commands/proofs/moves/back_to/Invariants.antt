use Rattle.std.proofs.Common.{◌≡◌, ◌≤◌, min}
use Rattle.radpolicy_walk_commands.proofs.moves.back_to.Given as goal

abbrev pub invariant-steps : goal.invariant-steps
invariant-steps g l = record {
  dictionary : l.stepper.dictionary ≡ l.initial.stepper.dictionary;
  trace : l.stepper.trace ≡ l.initial.stepper.trace;
  back : l.stepper.position ≤ l.initial.stepper.position;
  short : min l.initial.stepper.position l.position ≤ l.stepper.position;
}

abbrev pub decreases-steps : goal.decreases-steps
decreases-steps g l = l.stepper.position
