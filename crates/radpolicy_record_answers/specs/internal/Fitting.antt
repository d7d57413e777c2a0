-- The pairs of replies, and what a packet's octets have.
use Rattle.std.specs.Prelude.{ℕ, ◌≤◌, List, length, Option, IfSome, ⊤}
use Rattle.avp_dict.specs.Dictionary.{Dictionary}
use Rattle.avp_packet.specs.Packets.{packet_head_octets}
use Rattle.avp_packet.specs.declared.packets.Packet.{Packet}
use Rattle.radpolicy_common.specs.ChangeTexts.{AllFit}
use Rattle.radpolicy_record_answers.specs.declared.captured.Replies.{Replies}
use Rattle.radpolicy_record_answers.specs.declared.captured.Replies.TheVariants.{Both}

-- octets that reach the attributes
abbrev pub HasHead : List ℕ → Type 0
HasHead octets = packet_head_octets ≤ length octets

abbrev pub PacketFits : Dictionary → Packet → Type 0
PacketFits dictionary sent = AllFit dictionary sent.list

abbrev pub OwnFits : Dictionary → Option Packet → Type 0
OwnFits dictionary own = IfSome own (PacketFits dictionary)

-- the pairs of both replies fit the dictionary
abbrev pub RepliesFit : Dictionary → Replies → Type 0
RepliesFit dictionary (Both captured own) = PacketFits dictionary captured × OwnFits dictionary own
RepliesFit dictionary _ = ⊤
