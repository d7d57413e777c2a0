-- Inputs: what files and standard input hold, and which of them a job is made of.
use Rattle.std.specs.Prelude.{◌≡◌, ◌++◌, ℕ, List, [], ◌∷◌, Option, None, Some, Result, Ok, Err, map, codes, MatchOption}
use Rattle.std.specs.Borrow.{Bor}
use Rattle.avp_dict.specs.declared.file.files.NamedFile.{NamedFile}
use Rattle.radpolicy.specs.declared.jobs.Command.{Command}
use Rattle.radpolicy.specs.declared.jobs.Command.TheVariants.{Check}
use Rattle.radpolicy.specs.declared.jobs.Job.{Job}
use Rattle.radpolicy.specs.declared.plans.Plan.{Plan}
use Rattle.radpolicy.specs.Plans.{names_of_files, names_of_paths}
use Rattle.radpolicy_common.specs.declared.files.Unread.{Unread}
use Rattle.radpolicy_common.specs.declared.files.Unread.TheVariants.{File, Memory, NoDictionary, SameNames}

-- what the file of each path holds, and what standard input does; None can't be read
pub record Contents : Type 0 where
  pub file : List ℕ → Option (List ℕ)
  pub standard_input : Option (List ℕ)

-- Where it can be known what there is to read, this is so of it.
abbrev pub WhereKnown : Option Contents → (Contents → Type 0) → Type 0
WhereKnown known IsSo = MatchOption known (Unit {0}) IsSo

-- an input's name, and what it holds
pub record Input : Type 0 where
  pub name : List ℕ
  pub held : Option (List ℕ)

-- an input's name, if it can't be read, and else that of a later one
abbrev pub unread_name : List ℕ → Option (List ℕ) → Option (List ℕ) → Option (List ℕ)
unread_name name None later = Some name
unread_name name (Some octets) later = later

-- the name of the first that can't be read
abbrev pub first_unread : List Input → Option (List ℕ)
first_unread [] = None
first_unread (input ∷ inputs) = unread_name input.name input.held (first_unread inputs)

-- these inputs were not all read: there was not the memory, or this is the first that can't be read
abbrev pub AreUnread : List Input → Unread → Type 0
AreUnread inputs Memory = Unit {0}
AreUnread inputs NoDictionary = ⊥
AreUnread inputs SameNames = ⊥
AreUnread inputs (File path) = first_unread inputs ≡ Some path.now

-- what inputs hold
abbrev pub held_by : List Input → List (Option (List ℕ))
held_by inputs = map (λ input. input.held) inputs

-- what is read of one input: what it holds, or why it was not read
abbrev pub IsReading : Input → Result (List ℕ) Unread → Type 0
IsReading input (Ok octets) = input.held ≡ Some octets
IsReading input (Err unread) = AreUnread (input ∷ []) unread

-- these inputs were read, and hold these octets
abbrev pub AreRead : List Input → List (List ℕ) → Type 0
AreRead inputs octets = held_by inputs ≡ map Some octets

abbrev pub file_of : Contents → Bor (List ℕ) → Input
file_of contents path = record { name = path.now; held = contents.file path.now }

abbrev pub files_of : Contents → List (Bor (List ℕ)) → List Input
files_of contents paths = map (file_of contents) paths

-- the file that is named, if one is
abbrev pub named_file : Contents → Option (Bor (List ℕ)) → List Input
named_file contents None = []
named_file contents (Some path) = file_of contents path ∷ []

abbrev pub input_of_standard_input : Contents → Input
input_of_standard_input contents = record { name = codes "-"; held = contents.standard_input }

-- A check has no request. It comes from standard input where no file is named, by the name `-`.
abbrev pub request_of : Contents → Command → Option (Bor (List ℕ)) → List Input
request_of contents Check path = []
request_of contents command (Some path) = file_of contents path ∷ []
request_of contents command None = input_of_standard_input contents ∷ []

-- the inputs of a plan, in the order in which they are read
abbrev pub inputs_of : Contents → Plan → List Input
inputs_of contents plan =
    files_of contents plan.dictionaries.items ++ request_of contents plan.command plan.request
    ++ named_file contents plan.policy ++ named_file contents plan.secret ++ named_file contents plan.script

-- what the one input holds, and nothing where there is none
abbrev pub IsHeldBy : List Input → List ℕ → Type 0
IsHeldBy [] octets = octets ≡ []
IsHeldBy (input ∷ []) octets = input.held ≡ Some octets
IsHeldBy (input ∷ other ∷ others) octets = ⊥

abbrev pub octets_of_files : List NamedFile → List (List ℕ)
octets_of_files files = map (λ file. file.octets) files

-- one, or none
abbrev pub octets_of : Option (List ℕ) → List (List ℕ)
octets_of None = []
octets_of (Some octets) = octets ∷ []

-- A job of a plan: what it asks for is the plan's, and each of its octets are those of the plan's input of that name.
pub record IsJobOf (contents : Contents) (plan : Plan) (job : Job) : Type 0 where
  pub command : job.command ≡ plan.command
  pub form : job.form ≡ plan.form
  pub identifier : job.identifier ≡ plan.identifier
  pub authenticator : job.authenticator ≡ plan.authenticator
  pub names : names_of_files job.files ≡ names_of_paths plan.dictionaries.items
  pub files : AreRead (files_of contents plan.dictionaries.items) (octets_of_files job.files)
  pub request : IsHeldBy (request_of contents plan.command plan.request) job.request
  pub policy : AreRead (named_file contents plan.policy) (octets_of job.policy)
  pub secret : AreRead (named_file contents plan.secret) (octets_of job.secret)
  pub script : AreRead (named_file contents plan.script) (octets_of job.script)
