-- The faults of outputs that are not written.
use Rattle.radpolicy.specs.declared.faults.Fault.{Fault}
use Rattle.radpolicy.specs.declared.faults.Fault.TheVariants as fault
use Rattle.radpolicy_common.specs.declared.output_faults.OutputFault.{OutputFault}
use Rattle.radpolicy_common.specs.declared.output_faults.OutputFault.TheVariants.{Memory, Refused, Unwritten}

abbrev pub fault_of_outputs : OutputFault → Fault
fault_of_outputs Memory = fault.Memory
fault_of_outputs (Refused path refusal) = fault.OptionValue
fault_of_outputs (Unwritten path error) = fault.Write
