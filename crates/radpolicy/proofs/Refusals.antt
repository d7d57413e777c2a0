-- The fault of a job whose policy is refused.
use Rattle.std.proofs.Common.{◌≡◌, ◌≢◌, ◌≤◌, ℕ, ◌⊎◌, inl, inr, List, None, Ok, length, refl, sym, subst, take}
use Rattle.radpolicy.specs.declared.faults.Fault.{Fault}
use Rattle.radpolicy.specs.declared.faults.Fault.TheVariants.{Memory, Policy}
use Rattle.avp_unlang.specs.declared.faults.PolicyFault.{PolicyFault}
use Rattle.avp_unlang.specs.declared.faults.PolicyKind.{PolicyKind}
use Rattle.avp_unlang.specs.declared.faults.PolicyKind.TheVariants as kind
use Rattle.avp_patterns.specs.declared.faults.PatternFault.TheVariants as pattern
use Rattle.avp_dict.specs.Dictionary.{Dictionary}
use Rattle.avp_dict.specs.LineNumbers.{line_after}
use Rattle.radpolicy.specs.declared.jobs.Job.{Job}
use Rattle.avp_unlang.specs.Faults.{BeginsToken}
use Rattle.avp_unlang.specs.Policies.{IsRefusedPolicy}
use Rattle.avp_unlang.specs.RefusedPolicies.{IsRefusedAt}
use Rattle.radpolicy.specs.Faults.{MemoryOr, fault_of_policy}
use Rattle.radpolicy.specs.JobReports.{IsCheckedPolicyRefusal, IsRefusedAsPolicy, dictionary_for, policy_of}
use Rattle.radpolicy.specs.RefusedPolicies.{IsRefusedWith}

-- any fault of a policy but want of memory is told as such
record IsOfPolicy (f : PolicyFault) : Type 0 where
  pub some : f.kind ≢ kind.Memory
  pub told : fault_of_policy f ≡ Policy f

by_kind : (line offset : ℕ) (k : PolicyKind) → let f : PolicyFault = record { line = line; offset = offset; kind = k } in (fault_of_policy f ≡ Memory) ⊎ IsOfPolicy f
by_kind line offset kind.NotValue = inr (record { some = λ e. cc; told = refl })
by_kind line offset kind.TooLong = inr (record { some = λ e. cc; told = refl })
by_kind line offset kind.Unknown = inr (record { some = λ e. cc; told = refl })
by_kind line offset kind.NotWritable = inr (record { some = λ e. cc; told = refl })
by_kind line offset kind.Unreadable = inr (record { some = λ e. cc; told = refl })
by_kind line offset kind.Misplaced = inr (record { some = λ e. cc; told = refl })
by_kind line offset kind.TooDeep = inr (record { some = λ e. cc; told = refl })
by_kind line offset kind.TooLarge = inr (record { some = λ e. cc; told = refl })
by_kind line offset kind.OtherType = inr (record { some = λ e. cc; told = refl })
by_kind line offset kind.NotExpansion = inr (record { some = λ e. cc; told = refl })
by_kind line offset (kind.Pattern pattern.Empty) = inr (record { some = λ e. cc; told = refl })
by_kind line offset (kind.Pattern (pattern.NotUtf8 at)) = inr (record { some = λ e. cc; told = refl })
by_kind line offset (kind.Pattern (pattern.Expansion at)) = inr (record { some = λ e. cc; told = refl })
by_kind line offset (kind.Pattern (pattern.NotRead at)) = inr (record { some = λ e. cc; told = refl })
by_kind line offset (kind.Pattern pattern.TooLarge) = inr (record { some = λ e. cc; told = refl })
by_kind line offset (kind.Pattern pattern.Memory) = inr (record { some = λ e. cc; told = refl })
by_kind line offset kind.Memory = inl refl

-- what a reader of policies tells of a text that it refuses
pub record Told (dictionary : Dictionary) (text : List ℕ) (f : PolicyFault) : Type 0 where
  pub refused : IsRefusedPolicy dictionary text f.kind
  pub first : f.kind ≢ kind.Memory → f.kind ≢ kind.Pattern pattern.TooLarge → IsRefusedAt dictionary text f.offset f.kind
  pub within : f.offset ≤ length text
  pub token : f.kind ≢ kind.Memory → BeginsToken f.offset text
  pub line : f.kind ≢ kind.Memory → f.line ≡ line_after (take f.offset text)

refused_with : (dictionary : Dictionary) (text : List ℕ) (f : PolicyFault) → f.kind ≢ kind.Memory → Told dictionary text f → IsRefusedWith dictionary text f
refused_with dictionary text f some told = record {
  some = some;
  refused = told.refused;
  first = told.first some;
  within = told.within;
  token = told.token some;
  line = told.line some;
}

-- a text that is refused as a policy
pub policy_refused : (dictionary : Dictionary) (text : List ℕ) (f : PolicyFault) → Told dictionary text f → MemoryOr (IsRefusedAsPolicy dictionary text) (fault_of_policy f)
policy_refused dictionary text f told = elim (by_kind f.line f.offset f.kind) [
  | inl memory ↦ inl memory
  | inr found ↦ inr (subst (λ (g : Fault). IsRefusedAsPolicy dictionary text g) (sym found.told) (refused_with dictionary text f found.some told))
]

-- that of a check
pub checked_refused : (job : Job) (f : PolicyFault) (d : Dictionary) → dictionary_for job ≡ Ok d → job.policy ≢ None → Told d (policy_of job) f → MemoryOr (IsCheckedPolicyRefusal job) (fault_of_policy f)
checked_refused job f d read given told = elim (policy_refused d (policy_of job) f told) [
  | inl memory ↦ inl memory
  | inr found ↦ inr (record { dictionary = d; read = read; given = given; refused = found })
]
