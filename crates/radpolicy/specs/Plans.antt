-- What a command line or a job asks for, and what of it goes together.
use Rattle.std.specs.Prelude.{◌≡◌, ◌≢◌, ◌<◌, ℕ, Bool, true, false, List, length, map, is_some, AllPairs}
use Rattle.std.specs.Borrow.{Bor}
use Rattle.avp_dict.specs.Lines.{last_component}
use Rattle.avp_dict.specs.declared.file.files.NamedFile.{NamedFile}
use Rattle.radpolicy.specs.declared.jobs.Command.{Command}
use Rattle.radpolicy.specs.declared.jobs.Command.TheVariants.{Run, Step, Encode, Decode, Check}
use Rattle.radpolicy.specs.declared.jobs.Form.{Form}
use Rattle.radpolicy.specs.declared.jobs.Form.TheVariants.{Hex, Access, Accounting}
use Rattle.radpolicy.specs.declared.jobs.Job.{Job}
use Rattle.radpolicy.specs.declared.plans.Plan.{Plan}

-- what a command line or a job says of the request's packet
pub record AskedPacket : Type 0 where
  pub form : Form
  pub identifier : ℕ
  pub has_authenticator : Bool
  pub has_secret : Bool

-- what a command line or a job asks for
pub record Asked : Type 0 where
  pub command : Command
  pub packet : AskedPacket
  pub has_policy : Bool
  pub has_script : Bool
  -- the last components of the dictionary files' paths
  pub names : List (List ℕ)

abbrev pub names_of_paths : List (Bor (List ℕ)) → List (List ℕ)
names_of_paths paths = map (λ path. last_component path.now) paths

abbrev pub names_of_files : List NamedFile → List (List ℕ)
names_of_files files = map (λ file. file.name) files

abbrev pub asked_by_plan : Plan → Asked
asked_by_plan plan = record {
  command = plan.command;
  packet = record {
    form = plan.form;
    identifier = plan.identifier;
    has_authenticator = is_some plan.authenticator;
    has_secret = is_some plan.secret;
  };
  has_policy = is_some plan.policy;
  has_script = is_some plan.script;
  names = names_of_paths plan.dictionaries.items;
}

abbrev pub asked_by_job : Job → Asked
asked_by_job job = record {
  command = job.command;
  packet = record {
    form = job.form;
    identifier = job.identifier;
    has_authenticator = is_some job.authenticator;
    has_secret = is_some job.secret;
  };
  has_policy = is_some job.policy;
  has_script = is_some job.script;
  names = names_of_files job.files;
}

-- no two names are the same
abbrev pub AreDistinct : List (List ℕ) → Type 0
AreDistinct names = AllPairs (λ a b. a ≢ b) names

-- What goes together in `run`, by the form of its request: a packet in hexadecimal digits brings its own identifier and
-- authenticator, and a reply to lines wants a secret and an authenticator, which is made for an Accounting-Request.
abbrev pub RunRulesOf : Form → AskedPacket → Type 0
RunRulesOf Hex packet =
    (packet.has_secret ≡ true) × (packet.identifier ≡ 0) × (packet.has_authenticator ≡ false)
RunRulesOf Access packet = packet.has_authenticator ≡ packet.has_secret
RunRulesOf Accounting packet = packet.has_authenticator ≡ false

abbrev pub RunRules : AskedPacket → Type 0
RunRules packet = RunRulesOf packet.form packet

-- what goes together in `step`: a packet in hexadecimal digits, and the secret that shows its hidden values
abbrev pub StepRulesOf : Form → AskedPacket → Type 0
StepRulesOf Hex packet = packet.has_secret ≡ true
StepRulesOf _ packet = packet.has_secret ≡ false

abbrev pub StepRules : AskedPacket → Type 0
StepRules packet = StepRulesOf packet.form packet

-- what goes together in `encode`, which makes the packet of lines
abbrev pub EncodeRulesOf : Form → AskedPacket → Type 0
EncodeRulesOf Hex packet = ⊥
EncodeRulesOf Access packet = packet.has_authenticator ≡ true
EncodeRulesOf Accounting packet = packet.has_authenticator ≡ false

abbrev pub EncodeRules : AskedPacket → Type 0
EncodeRules packet = (packet.has_secret ≡ true) × EncodeRulesOf packet.form packet

-- what goes together in `decode`, whose request is a packet in hexadecimal digits
abbrev pub DecodeRules : AskedPacket → Type 0
DecodeRules packet = (packet.has_secret ≡ true) × (packet.form ≡ Hex)

-- what goes together, by the command
abbrev pub Rules : Command → Asked → Type 0
Rules Run asked = (asked.has_policy ≡ true) × RunRules asked.packet
Rules Step asked = (asked.has_policy ≡ true) × (asked.has_script ≡ true) × StepRules asked.packet
Rules Encode asked = EncodeRules asked.packet
Rules Decode asked = DecodeRules asked.packet
Rules Check asked = Unit {0}

-- there is a dictionary file at least, no two of them have one name, and no rule of the command is broken
pub record IsSound (asked : Asked) : Type 0 where
  pub files : 0 < length asked.names
  pub distinct : AreDistinct asked.names
  pub rules : Rules asked.command asked
