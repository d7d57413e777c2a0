-- The report of a job that runs a policy, by the outcome of a prepared policy's run.
use Rattle.std.specs.Prelude.{◌≡◌, ℕ, List, Option, None, Some}
use Rattle.avp_packet.specs.declared.packets.Packet.{Packet}
use Rattle.avp_unlang.specs.declared.tree.Statement.{Statement}
use Rattle.radpolicy.specs.JobReports.{IsOpened, IsPolicy, IsReceived, Opened, profile_for}
use Rattle.radpolicy.specs.Reports.{Report}
use Rattle.radpolicy.specs.RunOutcomes.{RunOutcome, outcome_of, outcome_report}
use Rattle.radpolicy.specs.Starts.{Prepared, Start, start_of, start_with}
use Rattle.radpolicy.specs.declared.faults.Fault.{Fault}
use Rattle.radpolicy.specs.declared.faults.Fault.TheVariants as fault
use Rattle.radpolicy.specs.declared.heads.RequestHead.{RequestHead}
use Rattle.radpolicy.specs.declared.heads.RequestKind.{RequestKind}
use Rattle.radpolicy.specs.declared.heads.RequestKind.TheVariants as kind
use Rattle.radpolicy.specs.declared.jobs.Form.{Form}
use Rattle.radpolicy.specs.declared.jobs.Form.TheVariants as form
use Rattle.radpolicy.specs.declared.jobs.Job.{Job}

-- the head of a job's request of lines
abbrev pub head_of : RequestKind → Job → RequestHead
head_of kind job =
    record { kind = kind; id = job.identifier; authenticator = job.authenticator }

-- what a run of the job's request begins with: the start that is made of its packet, or of its lines
abbrev pub start_by : Form → Job → Prepared → Option (List ℕ) → Packet → Start
start_by form.Hex job prepared secret request = start_of prepared secret form.Hex request
start_by form.Access job prepared secret request =
    start_with prepared secret (head_of kind.Access job) request.list
start_by form.Accounting job prepared secret request =
    start_with prepared secret (head_of kind.Accounting job) request.list

abbrev pub prepared_for : Job → Opened → List Statement → Prepared
prepared_for job opened statements = record {
  dictionary = opened.dictionary;
  profile = profile_for job;
  statements = statements;
}

abbrev pub start_for : Job → Opened → List Statement → Packet → Start
start_for job opened statements request =
    start_by job.form job (prepared_for job opened statements) opened.secret request

-- the report is the text of what the run of the job's policy over the job's request comes to
pub record IsOutcomeReport (job : Job) (report : Report) : Type 0 where
  pub opened : Opened
  pub statements : List Statement
  pub request : Packet
  pub outcome : RunOutcome
  pub opens : IsOpened job opened
  pub policy : IsPolicy job opened.dictionary statements
  pub received : IsReceived job opened request
  pub ran : outcome_of (start_for job opened statements request) ≡ Some outcome
  pub made : report ≡ outcome_report outcome

-- the run of the job's policy over the job's request comes to nothing, since a packet is too long
pub record IsOutcomeRefusal (job : Job) (f : Fault) : Type 0 where
  pub opened : Opened
  pub statements : List Statement
  pub request : Packet
  pub opens : IsOpened job opened
  pub policy : IsPolicy job opened.dictionary statements
  pub received : IsReceived job opened request
  pub none : outcome_of (start_for job opened statements request) ≡ None
  pub fault : f ≡ fault.PacketTooLong
