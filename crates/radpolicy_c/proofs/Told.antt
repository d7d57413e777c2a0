-- How a run is told that was refused.
use Rattle.std.proofs.Common.{ℕ, List, Option, inl}
use Rattle.radpolicy.specs.Faults.{MemoryOr}
use Rattle.radpolicy.specs.Starts.{Prepared}
use Rattle.radpolicy.specs.declared.faults.Fault.{Fault}
use Rattle.radpolicy_c.proofs.Opened.{not_memory}
use Rattle.radpolicy_c.specs.Requests.{IsStartRefusal}
use Rattle.radpolicy_c.specs.Runs.{RunsWith}
use Rattle.radpolicy_c.specs.declared.requests.RadpolicyRequest.{RadpolicyRequest}
use Rattle.radpolicy_c.specs.declared.runs.Ran.{Ran}
use Rattle.radpolicy_c.specs.declared.runs.Wanted.{Wanted}
use Rattle.radpolicy_c.specs.declared.statuses.Status.{Status}
use Rattle.radpolicy_c.specs.declared.statuses.Status.TheVariants.{AlreadyOpen, Closed, Done, Full, NoMemory, NotThere, Refused, TooShort}
use Rattle.radpolicy_c.specs.internal.Telling.{TellsRunFault}

pub refused : (wanted : Wanted) (prepared : Prepared) (secret : Option (List ℕ)) (asked : RadpolicyRequest) (f : Fault) (status : Status) (ran : Ran)
    → MemoryOr (IsStartRefusal prepared secret asked) f → TellsRunFault f status ran → RunsWith wanted prepared secret asked status ran
refused wanted prepared secret asked f Done ran why told = absurd told
refused wanted prepared secret asked f Refused ran why told =
    inl (f, not_memory (IsStartRefusal prepared secret asked) f told.0 why, told.1)
refused wanted prepared secret asked f NoMemory ran why told = told
refused wanted prepared secret asked f TooShort ran why told = absurd told
refused wanted prepared secret asked f Closed ran why told = absurd told
refused wanted prepared secret asked f AlreadyOpen ran why told = absurd told
refused wanted prepared secret asked f Full ran why told = absurd told
refused wanted prepared secret asked f NotThere ran why told = absurd told
