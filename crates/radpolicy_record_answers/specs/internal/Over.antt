-- Whose dictionary an answer is over.
use Rattle.std.specs.Prelude.{◌≡◌, Result, IfOk}
use Rattle.avp_dict.specs.Dictionary.{Dictionary}
use Rattle.radpolicy.specs.RunOutcomes.{RunOutcome}
use Rattle.radpolicy_record_answers.specs.declared.answers.RecordFault.{RecordFault}

-- a run that an answer is of was over this dictionary
abbrev pub IsOver : Dictionary → Result RunOutcome RecordFault → Type 0
IsOver dictionary answer = IfOk answer (λ outcome. outcome.dictionary ≡ dictionary)
