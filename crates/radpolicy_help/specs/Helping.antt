-- What is printed of a fault that has help.
use Rattle.std.specs.Prelude.{ℕ, List, ◌++◌}
use Rattle.avp_dict.specs.declared.file.files.NamedFile.{NamedFile}
use Rattle.radpolicy.specs.declared.faults.Fault.{Fault}
use Rattle.radpolicy.specs.Faults.{fault_line}

-- the fault's line, and then the help
abbrev pub helped_line : List NamedFile → Fault → List ℕ → List ℕ
helped_line files fault help = fault_line files fault ++ help
