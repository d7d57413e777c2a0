-- The faults of the calls below as faults of this crate.
use Rattle.avp_dict.specs.declared.request.faults.LineKind.{LineKind}
use Rattle.avp_dict.specs.declared.request.faults.LineKind.TheVariants as line
use Rattle.avp_dict.specs.declared.request.faults.LineFault.{LineFault}
use Rattle.avp_packet.specs.declared.faults.EncodeFault.{EncodeFault}
use Rattle.avp_packet.specs.declared.faults.EncodeFault.TheVariants as encode
use Rattle.radpolicy_traffic_packets.specs.declared.faults.TextFault.{TextFault}
use Rattle.radpolicy_traffic_packets.specs.declared.faults.TextFault.TheVariants as text

abbrev pub fault_of_line : LineFault → TextFault
fault_of_line f = of_kind f.kind
  where
    of_kind : LineKind → TextFault
    of_kind line.Memory = text.Memory
    of_kind _ = text.Lines f

abbrev pub fault_of_encode : EncodeFault → TextFault
fault_of_encode encode.TooLong = text.PacketTooLong
fault_of_encode encode.Memory = text.Memory
