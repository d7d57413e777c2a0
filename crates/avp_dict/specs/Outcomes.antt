-- Which faults are want of memory.
use Rattle.std.specs.Prelude.{Bool, true, false, ◌&&◌, ◌==◌}
use Rattle.avp_dict.specs.declared.faults.DictKind.{DictKind}
use Rattle.avp_dict.specs.declared.faults.DictKind.TheVariants.{Memory}
use Rattle.avp_dict.specs.declared.faults.DictFault.{DictFault}
use Rattle.avp_dict.specs.declared.request.faults.LineKind.{LineKind}
use Rattle.avp_dict.specs.declared.request.faults.LineKind.TheVariants as lines
use Rattle.avp_dict.specs.declared.value.faults.ValueFault.{ValueFault}
use Rattle.avp_dict.specs.declared.value.faults.ValueFault.TheVariants as values

abbrev pub is_memory_kind : DictKind → Bool
is_memory_kind Memory = true
is_memory_kind _ = false

-- it has no place
abbrev pub want_of_memory : DictFault
want_of_memory = record { file = 0; line = 0; offset = 0; kind = Memory }

abbrev pub is_memory : DictFault → Bool
is_memory fault =
    is_memory_kind fault.kind
    && (fault.file == 0 && (fault.line == 0 && fault.offset == 0))

abbrev pub is_memory_value : ValueFault → Bool
is_memory_value values.Memory = true
is_memory_value _ = false

abbrev pub is_memory_line : LineKind → Bool
is_memory_line lines.Memory = true
is_memory_line _ = false
