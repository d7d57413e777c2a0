-- How a policy, or a dictionary, is closed.
use Rattle.std.specs.Prelude.{Option, None, Some}
use Rattle.radpolicy_c.specs.declared.statuses.Status.{Status}
use Rattle.radpolicy_c.specs.declared.statuses.Status.TheVariants.{Closed, Done}

-- the status, by what was held
abbrev pub closing_status : {X : Type 0} → Option X → Status
closing_status None = Closed
closing_status (Some held) = Done
