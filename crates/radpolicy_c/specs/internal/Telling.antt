-- How a fault is told: by its line, unless memory is short.
use Rattle.std.specs.Prelude.{◌≡◌, ◌≢◌, ℕ, List, []}
use Rattle.avp_dict.specs.declared.file.files.NamedFile.{NamedFile}
use Rattle.radpolicy.specs.Faults.{fault_line}
use Rattle.radpolicy.specs.declared.faults.Fault.{Fault}
use Rattle.radpolicy.specs.declared.faults.Fault.TheVariants as fault
use Rattle.radpolicy_c.specs.Runs.{only_told}
use Rattle.radpolicy_c.specs.declared.runs.Ran.{Ran}
use Rattle.radpolicy_c.specs.declared.statuses.Status.{Status}
use Rattle.radpolicy_c.specs.declared.statuses.Status.TheVariants.{NoMemory, Refused}

abbrev pub TellsFault : List NamedFile → Fault → Status → List ℕ → Type 0
TellsFault files f Refused line = (f ≢ fault.Memory) × (line ≡ fault_line files f)
TellsFault files f NoMemory line = line ≡ []
TellsFault files f _ line = ⊥

-- the same of a run
abbrev pub TellsRunFault : Fault → Status → Ran → Type 0
TellsRunFault f Refused ran = (f ≢ fault.Memory) × (ran ≡ only_told Refused (fault_line [] f))
TellsRunFault f NoMemory ran = ran ≡ only_told NoMemory []
TellsRunFault f _ ran = ⊥

-- the same of the answer to a job, whose report is written in memory
abbrev pub TellsAnswerFault : List NamedFile → Fault → Status → List ℕ → Type 0
TellsAnswerFault files f Refused text =
    (f ≢ fault.Memory) × (f ≢ fault.Write) × (text ≡ fault_line files f)
TellsAnswerFault files f NoMemory text = text ≡ []
TellsAnswerFault files f _ text = ⊥
