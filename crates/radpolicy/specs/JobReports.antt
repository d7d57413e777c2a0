-- The report of a job, and the faults for which a job is refused.
use Rattle.std.specs.Prelude.{◌≡◌, ◌≢◌, ◌⊎◌, ℕ, List, [], Option, None, Some, Result, Ok, Err}
use Rattle.std.specs.Option.{option_map, unwrap_or}
use Rattle.avp_lists.specs.declared.pairs.Pair.{Pair}
use Rattle.avp_lists.specs.declared.lists.State.{State}
use Rattle.avp_dict.specs.declared.faults.DictFault.{DictFault}
use Rattle.avp_dict.specs.Dictionary.{Dictionary}
use Rattle.avp_dict.specs.DictionaryReading.{dictionary_of, max_lines}
use Rattle.avp_forms.specs.Profiles.{profile_of}
use Rattle.avp_forms.specs.declared.profiles.Profile.{Profile}
use Rattle.avp_forms.specs.declared.profiles.Profile.TheVariants.{Wider}
use Rattle.avp_patterns.specs.declared.faults.PatternFault.TheVariants as pattern
use Rattle.avp_packet.specs.declared.packets.Packet.{Packet}
use Rattle.radpolicy.specs.declared.faults.Fault.{Fault}
use Rattle.radpolicy.specs.declared.faults.Fault.TheVariants as fault
use Rattle.avp_unlang.specs.declared.faults.PolicyKind.TheVariants as policy
use Rattle.radpolicy.specs.declared.jobs.Command.{Command}
use Rattle.radpolicy.specs.declared.jobs.Command.TheVariants.{Check, Decode, Encode, Run, Step}
use Rattle.radpolicy.specs.declared.jobs.Form.{Form}
use Rattle.radpolicy.specs.declared.jobs.Job.{Job}
use Rattle.avp_unlang.specs.declared.tree.Statement.{Statement}
use Rattle.avp_unlang.specs.Policies.{SpellsPolicy}
use Rattle.avp_unlang.specs.Meaning.{Outcome as End, meaning_of}
use Rattle.avp_unlang.specs.declared.codes.Code.TheVariants as Code
use Rattle.avp_step.specs.Walk.{Walk, entry, walk_from}
use Rattle.avp_unlang.specs.Sizes.{size_of}
use Rattle.radpolicy.specs.Received.{IsUnreadRequest, request_for}
use Rattle.radpolicy.specs.RefusedPolicies.{IsRefusedWith}
use Rattle.radpolicy.specs.Replies.{answer_of, request_packet}
use Rattle.radpolicy.specs.Reports.{Report, answer_line, check_report, packet_line, packet_text, plain_report, run_report}
use Rattle.radpolicy.specs.Scripts.{IsUnknownWord, after_script, script_spelled, script_text}
use Rattle.radpolicy.specs.Secrets.{secret_for}
use Rattle.radpolicy.specs.declared.scripts.ScriptWord.{ScriptWord}

-- ---- what a job is made from

-- the dictionary of the job's files, or the first refusal
abbrev pub dictionary_for : Job → Result Dictionary DictFault
dictionary_for job = dictionary_of max_lines job.files

-- the dictionary and the secret of a job
pub record Opened : Type 0 where
  pub dictionary : Dictionary
  pub secret : Option (List ℕ)

abbrev pub opened : Dictionary → Option (List ℕ) → Opened
opened dictionary secret = record { dictionary = dictionary; secret = secret }

pub record IsOpened (job : Job) (opened : Opened) : Type 0 where
  pub dictionary : dictionary_for job ≡ Ok opened.dictionary
  pub secret : secret_for job ≡ Some opened.secret

-- the secret, and no octets where there is none
abbrev pub key : Opened → List ℕ
key opened = unwrap_or opened.secret []

-- the job's request is this one
abbrev pub IsReceived : Job → Opened → Packet → Type 0
IsReceived job opened request = request_for opened.dictionary opened.secret job ≡ Ok request

-- the policy's text
abbrev pub policy_of : Job → List ℕ
policy_of job = unwrap_or job.policy []

-- the profile that the comments before the policy's first statement ask for
abbrev pub profile_for : Job → Profile
profile_for job = profile_of (policy_of job)

-- the job's policy spells these statements
abbrev pub IsPolicy : Job → Dictionary → List Statement → Type 0
IsPolicy job dictionary statements = SpellsPolicy dictionary (policy_of job) statements

-- ---- runs

-- a run begins with the request's pairs, and two empty lists
abbrev pub entry_state : List Pair → State
entry_state pairs = record { request = pairs; reply = []; control = [] }

-- what the policy means from the request's pairs, two empty lists and the code `ok`
abbrev pub run_of : Dictionary → List Statement → Packet → End
run_of dictionary statements request =
    meaning_of dictionary statements (entry_state request.list) Code.Ok

-- the line of what the run sends: nothing is said of it without a secret; none where a packet is too long
abbrev pub sent_line : Form → Opened → Packet → End → Option (List ℕ)
sent_line form opened request end =
    elim opened.secret [
      | None ↦ Some []
      | Some secret ↦ answer_line (answer_of form opened.dictionary secret request end)
    ]

-- the report of a run; none where its packet is too long
abbrev pub report_of_run : Profile → Form → Opened → List Statement → Packet → Option Report
report_of_run profile form opened statements request =
    let end = run_of opened.dictionary statements request in
    option_map (run_report profile opened.dictionary end) (sent_line form opened request end)

-- the report of a run: that of its policy over its request
pub record IsRunReport (job : Job) (report : Report) : Type 0 where
  pub opened : Opened
  pub statements : List Statement
  pub request : Packet
  pub opens : IsOpened job opened
  pub policy : IsPolicy job opened.dictionary statements
  pub received : IsReceived job opened request
  pub made : report_of_run (profile_for job) job.form opened statements request ≡ Some report

-- ---- walks

-- the script's text
abbrev pub script_of : Job → List ℕ
script_of job = unwrap_or job.script []

abbrev pub IsScript : Job → List ScriptWord → Type 0
IsScript job script = script_spelled (script_of job) ≡ Ok script

-- the walk over the policy's trace, at its start
abbrev pub request_walk : Dictionary → List Statement → Packet → Walk
request_walk dictionary statements request =
    walk_from dictionary statements (entry_state request.list)

-- the report of a walk by a script
abbrev pub step_report : Profile → List ScriptWord → Walk → Report
step_report profile script walk =
    let end = (entry (after_script script walk)).outcome in
    record {
      text = script_text profile script walk;
      outcome = record { code = Some end.code; stopped = end.stopped };
    }

-- the report of a walk by the job's script
pub record IsStepReport (job : Job) (report : Report) : Type 0 where
  pub opened : Opened
  pub statements : List Statement
  pub script : List ScriptWord
  pub request : Packet
  pub opens : IsOpened job opened
  pub policy : IsPolicy job opened.dictionary statements
  pub words : IsScript job script
  pub received : IsReceived job opened request
  pub made : report
      ≡ step_report (profile_for job) script (request_walk opened.dictionary statements request)

-- ---- packets

-- the report of `encode`: the packet of its request; none where that is too long
abbrev pub encode_report : Opened → Packet → Option Report
encode_report opened request =
    option_map (λ octets. plain_report (packet_line octets))
    (request_packet opened.dictionary (key opened) request)

-- the report of `decode`: the head and the list of its request
abbrev pub decode_report : Opened → Packet → Option Report
decode_report opened request = Some (plain_report (packet_text opened.dictionary request))

-- the report that is made of a job's request, with no policy
pub record IsPacketReport (made_of : Opened → Packet → Option Report) (job : Job)
    (report : Report) : Type 0 where
  pub opened : Opened
  pub request : Packet
  pub opens : IsOpened job opened
  pub received : IsReceived job opened request
  pub made : made_of opened request ≡ Some report

-- ---- checks

-- the size of the job's policy, where it has one
abbrev pub IsSizeOf : Option (List ℕ) → Job → Dictionary → Option ℕ → Type 0
IsSizeOf None job dictionary size = size ≡ None
IsSizeOf (Some text) job dictionary size =
    (statements : List Statement) × IsPolicy job dictionary statements
    × (size ≡ Some (size_of statements))

-- the report of a check: what the dictionary holds, and how large the policy is
pub record IsCheckReport (job : Job) (report : Report) : Type 0 where
  pub dictionary : Dictionary
  pub size : Option ℕ
  pub read : dictionary_for job ≡ Ok dictionary
  pub policy : IsSizeOf job.policy job dictionary size
  pub text : report ≡ check_report job.files dictionary size

-- the report of a job, by its command
abbrev pub ReportOf : Command → Job → Report → Type 0
ReportOf Run job report = IsRunReport job report
ReportOf Step job report = IsStepReport job report
ReportOf Encode job report = IsPacketReport encode_report job report
ReportOf Decode job report = IsPacketReport decode_report job report
ReportOf Check job report = IsCheckReport job report

abbrev pub IsReport : Job → Report → Type 0
IsReport job report = ReportOf job.command job report

-- ---- refusals, each where those before it don't apply

-- the refusal of the dictionary, with its file, line and offset
abbrev pub IsDictionaryRefusal : Job → Fault → Type 0
IsDictionaryRefusal job (fault.Dictionary f) = dictionary_for job ≡ Err f
IsDictionaryRefusal job _ = ⊥

-- a secret's file that holds no secret
pub record IsSecretRefusal (job : Job) (f : Fault) : Type 0 where
  pub dictionary : Dictionary
  pub read : dictionary_for job ≡ Ok dictionary
  pub secret : secret_for job ≡ None
  pub fault : f ≡ fault.EmptySecret

abbrev pub IsOpenRefusal : Job → Fault → Type 0
IsOpenRefusal job f = IsDictionaryRefusal job f ⊎ IsSecretRefusal job f

-- a text is refused as a policy, want of memory aside
abbrev pub IsRefusedAsPolicy : Dictionary → List ℕ → Fault → Type 0
IsRefusedAsPolicy dictionary text (fault.Policy f) = IsRefusedWith dictionary text f
IsRefusedAsPolicy dictionary text _ = ⊥

-- the policy is refused
pub record IsPolicyRefusal (job : Job) (f : Fault) : Type 0 where
  pub opened : Opened
  pub opens : IsOpened job opened
  pub refused : IsRefusedAsPolicy opened.dictionary (policy_of job) f

-- A pattern of a wider policy is too large when it is compiled. Which patterns are is left open.
abbrev pub IsTooLargePattern : Job → Fault → Type 0
IsTooLargePattern job (fault.Policy f) =
    (profile_for job ≡ Wider) × (f.kind ≡ policy.Pattern pattern.TooLarge)
IsTooLargePattern job _ = ⊥

-- the request is none
abbrev pub IsRequestRefusal : Job → Opened → Fault → Type 0
IsRequestRefusal job opened f =
    IsUnreadRequest opened.dictionary job f (request_for opened.dictionary opened.secret job)

-- after a policy that is one, the request is none, or a packet of the run is too long
pub record IsRequestOrReplyRefusal (job : Job) (f : Fault) : Type 0 where
  pub opened : Opened
  pub statements : List Statement
  pub opens : IsOpened job opened
  pub policy : IsPolicy job opened.dictionary statements
  pub fault : IsRequestRefusal job opened f
      ⊎ ((request : Packet) × IsReceived job opened request
      × (report_of_run (profile_for job) job.form opened statements request ≡ None)
      × (f ≡ fault.PacketTooLong))

abbrev pub IsRunRefusal : Job → Fault → Type 0
IsRunRefusal job f = IsOpenRefusal job f ⊎ IsPolicyRefusal job f ⊎ IsRequestOrReplyRefusal job f

-- after a policy that is one, the script has an unknown word, or the request is none
pub record IsScriptOrRequestRefusal (job : Job) (f : Fault) : Type 0 where
  pub opened : Opened
  pub statements : List Statement
  pub opens : IsOpened job opened
  pub policy : IsPolicy job opened.dictionary statements
  pub fault : IsUnknownWord f (script_spelled (script_of job))
      ⊎ ((script : List ScriptWord) × IsScript job script × IsRequestRefusal job opened f)

abbrev pub IsStepRefusal : Job → Fault → Type 0
IsStepRefusal job f = IsOpenRefusal job f ⊎ IsPolicyRefusal job f ⊎ IsScriptOrRequestRefusal job f

-- the request is none, or what is made of it is too long for a packet
pub record IsMakingRefusal (made_of : Opened → Packet → Option Report) (job : Job) (f : Fault)
    : Type 0 where
  pub opened : Opened
  pub opens : IsOpened job opened
  pub fault : IsRequestRefusal job opened f
      ⊎ ((request : Packet) × IsReceived job opened request × (made_of opened request ≡ None)
      × (f ≡ fault.PacketTooLong))

abbrev pub IsPacketRefusal : (Opened → Packet → Option Report) → Job → Fault → Type 0
IsPacketRefusal made_of job f = IsOpenRefusal job f ⊎ IsMakingRefusal made_of job f

-- the policy of a check is refused
pub record IsCheckedPolicyRefusal (job : Job) (f : Fault) : Type 0 where
  pub dictionary : Dictionary
  pub read : dictionary_for job ≡ Ok dictionary
  pub given : job.policy ≢ None
  pub refused : IsRefusedAsPolicy dictionary (policy_of job) f

abbrev pub IsCheckRefusal : Job → Fault → Type 0
IsCheckRefusal job f = IsDictionaryRefusal job f ⊎ IsCheckedPolicyRefusal job f

-- the faults for which a job is refused, by its command
abbrev pub RefusalOf : Command → Job → Fault → Type 0
RefusalOf Run job f = IsRunRefusal job f
RefusalOf Step job f = IsStepRefusal job f
RefusalOf Encode job f = IsPacketRefusal encode_report job f
RefusalOf Decode job f = IsPacketRefusal decode_report job f
RefusalOf Check job f = IsCheckRefusal job f

abbrev pub IsRefused : Job → Fault → Type 0
IsRefused job f = RefusalOf job.command job f
