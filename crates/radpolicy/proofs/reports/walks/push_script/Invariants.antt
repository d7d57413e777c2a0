use Rattle.std.proofs.Common.{◌≡◌, ◌++◌, length}
use Rattle.radpolicy.specs.Scripts.{after_script, script_text}
use Rattle.radpolicy.proofs.reports.walks.push_script.Given as goal

abbrev pub invariant-loop-word : goal.invariant-loop-word
invariant-loop-word g l = record {
  text : l.text.items ++ script_text l.profile l.rest l.stepper ≡ l.initial.text.items ++ script_text l.profile l.script l.initial.stepper;
  after : after_script l.rest l.stepper ≡ after_script l.script l.initial.stepper;
  dictionary : l.stepper.dictionary ≡ l.dictionary;
}

abbrev pub decreases-loop-word : goal.decreases-loop-word
decreases-loop-word g l = length l.rest
