-- The numbers of statuses in C.
use Rattle.std.specs.Prelude.{ℕ}
use Rattle.radpolicy_c.specs.declared.statuses.Status.{Status}
use Rattle.radpolicy_c.specs.declared.statuses.Status.TheVariants.{AlreadyOpen, Closed, Done, Full, NoMemory, NotThere, Refused, TooShort}

abbrev pub number_of : Status → ℕ
number_of Done = 0
number_of Refused = 2
number_of NoMemory = 4
number_of TooShort = 5
number_of Closed = 6
number_of AlreadyOpen = 7
number_of Full = 8
number_of NotThere = 9
