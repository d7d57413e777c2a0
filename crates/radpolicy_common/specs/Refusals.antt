-- The faults of files that were not all read.
use Rattle.radpolicy.specs.declared.faults.Fault.{Fault}
use Rattle.radpolicy.specs.declared.faults.Fault.TheVariants as fault
use Rattle.radpolicy_common.specs.declared.files.Unread.{Unread}
use Rattle.radpolicy_common.specs.declared.files.Unread.TheVariants.{File, Memory, NoDictionary, SameNames}

abbrev pub fault_of_unread : Unread → Fault
fault_of_unread Memory = fault.Memory
fault_of_unread NoDictionary = fault.Usage
fault_of_unread SameNames = fault.OptionValue
fault_of_unread (File path) = fault.FileNotReadable
