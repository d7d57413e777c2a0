-- Which faults are want of memory.
use Rattle.std.specs.Prelude.{Bool, true, false}
use Rattle.avp_packet.specs.declared.faults.EncodeFault.{EncodeFault}
use Rattle.avp_packet.specs.declared.faults.EncodeFault.TheVariants as encoding
use Rattle.avp_packet.specs.declared.faults.PacketFault.{PacketFault}
use Rattle.avp_packet.specs.declared.faults.PacketFault.TheVariants.{Memory}

abbrev pub is_memory : PacketFault → Bool
is_memory Memory = true
is_memory _ = false

abbrev pub is_memory_encoding : EncodeFault → Bool
is_memory_encoding encoding.TooLong = false
is_memory_encoding encoding.Memory = true
