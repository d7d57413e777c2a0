-- What is told of a whole job.
use Rattle.std.specs.Prelude.{◌≡◌, ◌⊎◌, ℕ, List, [], Option, None, Some}
use Rattle.radpolicy.specs.Faults.{fault_line}
use Rattle.radpolicy.specs.JobReports.{IsRefused, IsReport}
use Rattle.radpolicy.specs.Plans.{IsSound, asked_by_job}
use Rattle.radpolicy.specs.Reports.{Report}
use Rattle.radpolicy.specs.declared.faults.Fault.{Fault}
use Rattle.radpolicy.specs.declared.faults.Fault.TheVariants as fault
use Rattle.radpolicy.specs.declared.jobs.Job.{Job}
use Rattle.radpolicy_c.specs.Jobs.{job_given}
use Rattle.radpolicy_c.specs.declared.answers.Answered.{Answered}
use Rattle.radpolicy_c.specs.declared.jobs.RadpolicyJob.{RadpolicyJob}
use Rattle.radpolicy_c.specs.declared.statuses.Status.{Status}
use Rattle.radpolicy_c.specs.declared.statuses.Status.TheVariants.{Done, NoMemory, Refused}

-- the parts of the job do not go together, or it is refused
abbrev pub IsJobRefusal : Job → Fault → Type 0
IsJobRefusal job f =
    ((IsSound (asked_by_job job) → ⊥) × (f ≡ fault.OptionValue))
    ⊎ (IsSound (asked_by_job job) × IsRefused job f)

-- what is told of a job, where it is one, by the status
abbrev pub AnswersBy : Status → Option Job → List ℕ → Type 0
AnswersBy Done (Some job) text =
    IsSound (asked_by_job job) × ((report : Report) × IsReport job report × (text ≡ report.text))
AnswersBy Refused (Some job) text =
    (f : Fault) × IsJobRefusal job f × (text ≡ fault_line job.files f)
AnswersBy Refused None text = text ≡ fault_line [] fault.OptionValue
AnswersBy NoMemory job text = text ≡ []
AnswersBy _ job text = ⊥

abbrev pub Answers : RadpolicyJob → Answered → Type 0
Answers asked answered = AnswersBy answered.status (job_given asked) answered.text
