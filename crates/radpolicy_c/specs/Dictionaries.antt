-- How a dictionary is opened, and a policy by one that is held.
use Rattle.std.specs.Prelude.{◌≡◌, ◌≢◌, ℕ, List, [], Option, None, Some}
use Rattle.std.specs.Option.{option_map}
use Rattle.avp_dict.specs.Dictionary.{Dictionary}
use Rattle.avp_dict.specs.declared.file.files.NamedFile.{NamedFile}
use Rattle.radpolicy.specs.Faults.{fault_line}
use Rattle.radpolicy.specs.JobReports.{IsRefusedAsPolicy}
use Rattle.radpolicy.specs.Starts.{Prepared}
use Rattle.radpolicy.specs.declared.faults.Fault.{Fault}
use Rattle.radpolicy_c.specs.Opening.{IsReadFrom, IsReadRefusal, IsSpelledBy}
use Rattle.radpolicy_c.specs.declared.dictionaries.RadpolicyDictionary.{RadpolicyDictionary}
use Rattle.radpolicy_c.specs.declared.opening.Opening.{Opening}
use Rattle.radpolicy_c.specs.declared.statuses.Status.{Status}
use Rattle.radpolicy_c.specs.declared.statuses.Status.TheVariants.{AlreadyOpen, Closed, Done, NoMemory, Refused}

-- the dictionary of a policy, where there is one
abbrev pub dictionary_in : Option Prepared → Option Dictionary
dictionary_in policy = option_map (λ (p : Prepared). p.dictionary) policy

-- the dictionary that a handle holds, with a policy of no statements
abbrev pub dictionary_held : RadpolicyDictionary → Option Dictionary
dictionary_held handle = dictionary_in handle.empty_policy.held.policy

-- ---- a dictionary

-- what was held before, what is read from what, the line that is told, and what is held after, by the status
abbrev pub OpensDictionaryBy
    : Status → Option Dictionary → List NamedFile → List ℕ → Option Dictionary → Type 0
OpensDictionaryBy Done before files line after =
    (before ≡ None) × (line ≡ [])
    × ((dictionary : Dictionary) × IsReadFrom files dictionary × (after ≡ Some dictionary))
OpensDictionaryBy Refused before files line after =
    (before ≡ None) × (after ≡ None)
    × ((f : Fault) × IsReadRefusal files f × (line ≡ fault_line files f))
OpensDictionaryBy NoMemory before files line after =
    (before ≡ None) × (after ≡ None) × (line ≡ [])
OpensDictionaryBy AlreadyOpen before files line after =
    (before ≢ None) × (after ≡ before) × (line ≡ [])
OpensDictionaryBy _ before files line after = ⊥

abbrev pub OpensDictionary
    : Option Dictionary → List NamedFile → Opening → Option Dictionary → Type 0
OpensDictionary before files opening after =
    OpensDictionaryBy opening.status before files opening.line after

-- ---- a policy by a dictionary

-- the dictionary, what was held before, the policy's text, the line that is told, and what is held after, by the status
abbrev pub OpensPolicyBy
    : Status → Dictionary → Option Prepared → List ℕ → List ℕ → Option Prepared → Type 0
OpensPolicyBy Done dictionary before text line after =
    (before ≡ None) × (line ≡ [])
    × ((policy : Prepared) × IsSpelledBy dictionary text policy × (after ≡ Some policy))
OpensPolicyBy Refused dictionary before text line after =
    (before ≡ None) × (after ≡ None)
    × ((f : Fault) × IsRefusedAsPolicy dictionary text f × (line ≡ fault_line [] f))
OpensPolicyBy NoMemory dictionary before text line after =
    (before ≡ None) × (after ≡ None) × (line ≡ [])
OpensPolicyBy AlreadyOpen dictionary before text line after =
    (before ≢ None) × (after ≡ before) × (line ≡ [])
OpensPolicyBy _ dictionary before text line after = ⊥

-- the same by the dictionary that is held
abbrev pub OpensPolicy
    : Option Dictionary → Option Prepared → List ℕ → Opening → Option Prepared → Type 0
OpensPolicy None before text opening after =
    (opening.status ≡ Closed) × (opening.line ≡ []) × (after ≡ before)
OpensPolicy (Some dictionary) before text opening after =
    OpensPolicyBy opening.status dictionary before text opening.line after
