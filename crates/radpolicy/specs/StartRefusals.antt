-- Why a start is refused: a packet that is none, or lines that are no list.
use Rattle.std.specs.Prelude.{◌≡◌, ℕ, ℤ, List, Option, Result, Err, IsOk}
use Rattle.avp_dict.specs.Dictionary.{Dictionary}
use Rattle.avp_forms.specs.declared.profiles.Profile.{Profile}
use Rattle.avp_packet.specs.declared.faults.PacketFault.{PacketFault}
use Rattle.avp_packet.specs.declared.packets.Packet.{Packet}
use Rattle.radpolicy.specs.Received.{AreRefusedWith}
use Rattle.radpolicy.specs.declared.faults.Fault.{Fault}
use Rattle.radpolicy.specs.declared.faults.Fault.TheVariants as fault

-- octets that are read as no packet, for this reason; memory runs out only where they are one
abbrev pub IsUnreadPacket : Result Packet PacketFault → Fault → Type 0
IsUnreadPacket read (fault.Packet f) = read ≡ Err f
IsUnreadPacket read fault.Memory = IsOk read
IsUnreadPacket read _ = ⊥

-- ---- lines that spell no list, with the fault of the first place that is refused

abbrev pub AreUnreadRequestLines : Profile → Option ℤ → Dictionary → List ℕ → Fault → Type 0
AreUnreadRequestLines profile time_zone dictionary text (fault.Request f) =
    AreRefusedWith profile time_zone dictionary text f
AreUnreadRequestLines profile time_zone dictionary text _ = ⊥

abbrev pub AreUnreadReplyLines : Profile → Option ℤ → Dictionary → List ℕ → Fault → Type 0
AreUnreadReplyLines profile time_zone dictionary text (fault.Reply f) =
    AreRefusedWith profile time_zone dictionary text f
AreUnreadReplyLines profile time_zone dictionary text _ = ⊥

abbrev pub AreUnreadControlLines : Profile → Option ℤ → Dictionary → List ℕ → Fault → Type 0
AreUnreadControlLines profile time_zone dictionary text (fault.Control f) =
    AreRefusedWith profile time_zone dictionary text f
AreUnreadControlLines profile time_zone dictionary text _ = ⊥
