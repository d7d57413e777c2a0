use Rattle.std.proofs.Common.{◌≡◌, ◌+◌, ◌-◌, length}
use Rattle.avp_step.specs.Walk.{IsWithin}
use Rattle.radpolicy_page_data.specs.internal.Writing.{IsWritten}
use Rattle.radpolicy_page_data.proofs.positions.positions_text.Given as goal

abbrev pub invariant-steps : goal.invariant-steps
invariant-steps l = record {
  dictionary : l.stepper.dictionary ≡ l.initial.stepper.dictionary;
  trace : l.stepper.trace ≡ l.initial.stepper.trace;
  within : IsWithin l.stepper;
  written : IsWritten l.redaction l.stepper.trace (l.stepper.position + 1) l.written;
}

abbrev pub decreases-steps : goal.decreases-steps
decreases-steps l = length l.stepper.trace - l.stepper.position
