-- How a policy, or a dictionary, is shared with another handle.
use Rattle.std.specs.Prelude.{◌≡◌, ◌≢◌, Option, None}
use Rattle.radpolicy_c.specs.declared.statuses.Status.{Status}
use Rattle.radpolicy_c.specs.declared.statuses.Status.TheVariants.{AlreadyOpen, Closed, Done, NoMemory}

-- what is shared, and what the other handle held before and holds after, by the status
abbrev pub SharesBy : {X : Type 0} → Status → Option X → Option X → Option X → Type 0
SharesBy Done held before after = (held ≢ None) × (before ≡ None) × (after ≡ held)
SharesBy Closed held before after = (held ≡ None) × (after ≡ before)
SharesBy AlreadyOpen held before after = (held ≢ None) × (before ≢ None) × (after ≡ before)
SharesBy NoMemory held before after = (held ≢ None) × (before ≡ None) × (after ≡ before)
SharesBy _ held before after = ⊥
