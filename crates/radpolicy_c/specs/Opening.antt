-- What a policy is opened from, and why it is not.
use Rattle.std.specs.Prelude.{◌≡◌, ◌≢◌, ◌⊎◌, ◌<◌, ℕ, List, [], Option, None, Some, Ok, Err, length}
use Rattle.avp_dict.specs.declared.file.files.NamedFile.{NamedFile}
use Rattle.avp_dict.specs.Dictionary.{Dictionary}
use Rattle.avp_dict.specs.DictionaryReading.{dictionary_of, max_lines}
use Rattle.avp_dict.specs.Lines.{HasDistinctNames}
use Rattle.avp_forms.specs.Profiles.{profile_of}
use Rattle.avp_unlang.specs.Policies.{SpellsPolicy}
use Rattle.radpolicy.specs.Faults.{fault_line}
use Rattle.radpolicy.specs.JobReports.{IsRefusedAsPolicy}
use Rattle.radpolicy.specs.Starts.{Prepared}
use Rattle.radpolicy.specs.declared.faults.Fault.{Fault}
use Rattle.radpolicy.specs.declared.faults.Fault.TheVariants as fault
use Rattle.radpolicy_c.specs.declared.opening.Opening.{Opening}
use Rattle.radpolicy_c.specs.declared.statuses.Status.{Status}
use Rattle.radpolicy_c.specs.declared.statuses.Status.TheVariants.{AlreadyOpen, Done, NoMemory, Refused}

-- there are files, and no two have one name
pub record IsFileSet (files : List NamedFile) : Type 0 where
  pub some : 0 < length files
  pub distinct : HasDistinctNames files

-- the files are a set, and this is their dictionary
pub record IsReadFrom (files : List NamedFile) (dictionary : Dictionary) : Type 0 where
  pub set : IsFileSet files
  pub read : dictionary_of max_lines files ≡ Ok dictionary

-- the text spells the policy by this dictionary, and its comments ask for this profile
pub record IsSpelledBy (dictionary : Dictionary) (text : List ℕ) (policy : Prepared) : Type 0 where
  pub over : policy.dictionary ≡ dictionary
  pub profile : policy.profile ≡ profile_of text
  pub statements : SpellsPolicy dictionary text policy.statements

-- the text spells the policy by the dictionary of the files
pub record IsOpenedFrom (files : List NamedFile) (text : List ℕ) (policy : Prepared) : Type 0 where
  pub dictionary : Dictionary
  pub read : IsReadFrom files dictionary
  pub spelled : IsSpelledBy dictionary text policy

-- the refusal of the files' dictionary, with its file and line
abbrev pub IsDictionaryRefusal : List NamedFile → Fault → Type 0
IsDictionaryRefusal files (fault.Dictionary f) = dictionary_of max_lines files ≡ Err f
IsDictionaryRefusal files _ = ⊥

-- why no dictionary is read, but for want of memory: the files are no set, or they are and their dictionary is refused
abbrev pub IsReadRefusal : List NamedFile → Fault → Type 0
IsReadRefusal files f =
    ((IsFileSet files → ⊥) × (f ≡ fault.OptionValue))
    ⊎ (IsFileSet files × IsDictionaryRefusal files f)

-- the text is refused as a policy by the files' dictionary
pub record IsPolicyRefusal (files : List NamedFile) (text : List ℕ) (f : Fault) : Type 0 where
  pub dictionary : Dictionary
  pub read : IsReadFrom files dictionary
  pub refused : IsRefusedAsPolicy dictionary text f

-- why no policy is opened, but for want of memory: no dictionary is read, or the text is refused
abbrev pub IsOpenRefusal : List NamedFile → List ℕ → Fault → Type 0
IsOpenRefusal files text f = IsReadRefusal files f ⊎ IsPolicyRefusal files text f

-- ---- what the opening of a policy comes to

-- what was held before, what is opened from what, the line that is told, and what is held after, by the status
abbrev pub OpensBy
    : Status → Option Prepared → List NamedFile → List ℕ → List ℕ → Option Prepared → Type 0
OpensBy Done before files text line after =
    (before ≡ None) × (line ≡ [])
    × ((policy : Prepared) × IsOpenedFrom files text policy × (after ≡ Some policy))
OpensBy Refused before files text line after =
    (before ≡ None) × (after ≡ None)
    × ((f : Fault) × IsOpenRefusal files text f × (line ≡ fault_line files f))
OpensBy NoMemory before files text line after =
    (before ≡ None) × (after ≡ None) × (line ≡ [])
OpensBy AlreadyOpen before files text line after =
    (before ≢ None) × (after ≡ before) × (line ≡ [])
OpensBy _ before files text line after = ⊥

abbrev pub Opens : Option Prepared → List NamedFile → List ℕ → Opening → Option Prepared → Type 0
Opens before files text opening after =
    OpensBy opening.status before files text opening.line after
