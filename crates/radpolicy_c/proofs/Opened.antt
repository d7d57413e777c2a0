-- How a policy is opened, step by step.
use Rattle.std.proofs.Common.{◌≡◌, ◌≢◌, ℕ, List, Result, Ok, Err, IfOk, IfErr, inl, inr}
use Rattle.avp_dict.specs.declared.file.files.NamedFile.{NamedFile}
use Rattle.avp_dict.specs.Dictionary.{Dictionary}
use Rattle.avp_forms.specs.Profiles.{profile_of}
use Rattle.avp_unlang.specs.Policies.{SpellsPolicy}
use Rattle.radpolicy.specs.Faults.{MemoryOr}
use Rattle.radpolicy.specs.JobReports.{IsRefusedAsPolicy}
use Rattle.radpolicy.specs.Starts.{Prepared}
use Rattle.radpolicy.specs.declared.faults.Fault.{Fault}
use Rattle.radpolicy.specs.declared.faults.Fault.TheVariants as fault
use Rattle.radpolicy_c.specs.Opening.{IsOpenedFrom, IsPolicyRefusal, IsReadFrom, IsSpelledBy}

-- what `read` and `read_by` of a policy that owns its dictionary say of it
pub spelled_by : (dictionary : Dictionary) (text : List ℕ) (result : Result Prepared Fault)
    → IfOk result (λ owned. owned.dictionary ≡ dictionary) → IfOk result (λ owned. owned.profile ≡ profile_of text)
    → IfOk result (λ owned. SpellsPolicy dictionary text owned.statements) → IfOk result (IsSpelledBy dictionary text)
spelled_by dictionary text (Ok owned) same profile spelled = record { over = same; profile = profile; statements = spelled }
spelled_by dictionary text (Err f) same profile spelled = tt

pub opened_over : (files : List NamedFile) (text : List ℕ) (dictionary : Dictionary) (result : Result Prepared Fault)
    → IsReadFrom files dictionary → IfOk result (IsSpelledBy dictionary text) → IfOk result (IsOpenedFrom files text)
opened_over files text dictionary (Ok owned) read spelled = record { dictionary = dictionary; read = read; spelled = spelled }
opened_over files text dictionary (Err f) read spelled = tt

pub refused_over : (files : List NamedFile) (text : List ℕ) (dictionary : Dictionary) (result : Result Prepared Fault)
    → IsReadFrom files dictionary → IfErr result (MemoryOr (IsRefusedAsPolicy dictionary text))
    → IfErr result (MemoryOr (IsPolicyRefusal files text))
refused_over files text dictionary (Ok owned) read refused = tt
refused_over files text dictionary (Err f) read (inl memory) = inl memory
refused_over files text dictionary (Err f) read (inr refused) = inr (record { dictionary = dictionary; read = read; refused = refused })

pub not_memory : (X : Fault → Type 0) (f : Fault) → f ≢ fault.Memory → MemoryOr X f → X f
not_memory X f other (inl memory) = absurd (other memory)
not_memory X f other (inr x) = x
