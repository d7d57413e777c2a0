-- What octets are read as where no secret is known: no authenticator is looked at, and the values of hidden attributes
-- are their octets.
use Rattle.std.specs.Prelude.{ℕ, Bool, ◌||◌, ◌==◌, if◌then◌else◌, List, [], Result, Ok, Err}
use Rattle.avp_dict.specs.Dictionary.{Dictionary}
use Rattle.avp_packet.specs.declared.faults.PacketFault.{PacketFault}
use Rattle.avp_packet.specs.declared.faults.PacketFault.TheVariants.{CodeNotTaken}
use Rattle.avp_packet.specs.declared.packets.Packet.{Packet}
use Rattle.avp_packet.specs.Decoded.{packet_read, unless_broken}
use Rattle.avp_packet.specs.DecodedReply.{is_taken_reply_code}
use Rattle.avp_packet.specs.Packets.{access_request, accounting_request, code_of, zeros}

abbrev pub is_request_code : ℕ → Bool
is_request_code code = (code == access_request) || (code == accounting_request)

module _ (dictionary : Dictionary) (os : List ℕ) where
  -- the packet of these octets, of which none is shown
  abbrev pub unchecked_packet : Packet
  unchecked_packet = packet_read dictionary [] zeros os

  -- a whole packet of whole attributes whose code is taken, or the first refusal
  unfoldable pub unchecked_where : Bool → Result Packet PacketFault
  unchecked_where taken =
      unless_broken os (if taken then Ok unchecked_packet else Err CodeNotTaken)

  -- octets given as a request
  abbrev pub decoded_unchecked : Result Packet PacketFault
  decoded_unchecked = unchecked_where (is_request_code (code_of os))

  -- octets given as a reply
  abbrev pub decoded_reply_unchecked : Result Packet PacketFault
  decoded_reply_unchecked = unchecked_where (is_taken_reply_code (code_of os))
