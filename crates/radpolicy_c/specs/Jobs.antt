-- A whole job, as C gives it.
use Rattle.std.specs.Prelude.{ℕ, Bool, ◌==◌, if◌then◌else◌, List, Option, None, Some, map}
use Rattle.std.specs.Option.{option_map}
use Rattle.avp_dict.specs.declared.file.files.NamedFile.{NamedFile}
use Rattle.radpolicy.specs.declared.jobs.Command.{Command}
use Rattle.radpolicy.specs.declared.jobs.Command.TheVariants.{Check, Decode, Encode, Run, Step}
use Rattle.radpolicy.specs.declared.jobs.Form.{Form}
use Rattle.radpolicy.specs.declared.jobs.Job.{Job}
use Rattle.radpolicy_c.specs.Files.{file_given}
use Rattle.radpolicy_c.specs.Requests.{form_given}
use Rattle.radpolicy_c.specs.declared.jobs.RadpolicyJob.{RadpolicyJob}

abbrev pub command_given : ℕ → Option Command
command_given n =
    if n == 0 then Some Run
    else if n == 1 then Some Step
    else if n == 2 then Some Encode
    else if n == 3 then Some Decode
    else if n == 4 then Some Check
    else None

abbrev pub part_given : Bool → List ℕ → Option (List ℕ)
part_given is_there octets = if is_there then Some octets else None

abbrev pub files_given : RadpolicyJob → List NamedFile
files_given asked = map file_given asked.files.now

abbrev pub job_with : RadpolicyJob → Command → Form → Job
job_with asked command form = record {
  command = command;
  files = files_given asked;
  request = asked.request.now;
  form = form;
  identifier = asked.identifier;
  authenticator = if asked.has_authenticator then Some asked.authenticator else None;
  secret = part_given asked.has_secret asked.secret.now;
  policy = part_given asked.has_policy asked.policy.now;
  script = part_given asked.has_script asked.script.now;
}

-- the job, where its command and its form are known
abbrev pub job_given : RadpolicyJob → Option Job
job_given asked =
    elim (command_given asked.command) [
      | None ↦ None
      | Some command ↦ option_map (job_with asked command) (form_given asked.form)
    ]
