-- What octets given as a packet are read as, and what is refused of them (RFC 2865, section 3; RFC 2866, section 3; RFC
-- 3579, section 3.2).
use Rattle.std.specs.Prelude.{ℕ, ◌+◌, ◌-◌, Bool, ◌&&◌, ◌||◌, not, ◌==◌, nat_lt, if◌then◌else◌, List, [], ◌∷◌, ◌++◌, length, take, Result, Ok, Err}
use Rattle.std.specs.List.{list_any}
use Rattle.std.specs.Str.{bytes_eq}
use Rattle.md5.specs.Md5.{md5}
use Rattle.avp_dict.specs.Dictionary.{Dictionary}
use Rattle.avp_packet.specs.declared.faults.PacketFault.{PacketFault}
use Rattle.avp_packet.specs.declared.faults.PacketFault.TheVariants.{TooShort, LengthOutOfRange, CutShort, BadAttribute, CodeNotTaken, WrongAuthenticator, WrongMessageAuthenticator}
use Rattle.avp_packet.specs.declared.packets.Packet.{Packet}
use Rattle.avp_packet.specs.Meanings.{attribute_pairs}
use Rattle.avp_packet.specs.Packets.{access_request, accounting_request, attributes_of, authenticator_of, code_of, hiding_authenticator, id_of, is_packet_length, length_of, packet_head_octets, zeros}
use Rattle.avp_packet.specs.Signed.{is_signature, is_signed}
use Rattle.avp_packet.specs.Splitting.{left, parts}

-- the digest that the authenticator of an Accounting-Request has to be
abbrev pub is_accounting_request : List ℕ → List ℕ → Bool
is_accounting_request os secret =
    bytes_eq (authenticator_of os) (md5 (take 4 os ++ zeros ++ attributes_of os ++ secret))

-- a packet with a Message-Authenticator that does not sign it under this authenticator
abbrev pub has_wrong_signature : List ℕ → List ℕ → List ℕ → Bool
has_wrong_signature os authenticator secret =
    list_any is_signature (parts (attributes_of os)) && not (is_signed os authenticator secret)

-- an Access-Request with a Message-Authenticator that does not sign it
abbrev pub is_wrongly_signed : List ℕ → List ℕ → Bool
is_wrongly_signed os secret =
    (code_of os == access_request) && has_wrong_signature os (authenticator_of os) secret

-- what is left of attributes that end here begins with the first that is not whole
abbrev pub unless_left : ℕ → List ℕ → Result Packet PacketFault → Result Packet PacketFault
unless_left end [] read = read
unless_left end (o ∷ os) read = Err (BadAttribute (end - length (o ∷ os)))

-- the first attribute that is not whole, by its offset in the packet
abbrev pub unless_bad : List ℕ → Result Packet PacketFault → Result Packet PacketFault
unless_bad attributes read =
    unless_left (packet_head_octets + length attributes) (left attributes) read

-- what octets are read as, unless they are no whole packet of whole attributes
abbrev pub unless_broken : List ℕ → Result Packet PacketFault → Result Packet PacketFault
unless_broken os read =
    if nat_lt (length os) packet_head_octets then Err TooShort
    else if not (is_packet_length (length_of os)) then Err LengthOutOfRange
    else if nat_lt (length os) (length_of os) then Err CutShort
    else unless_bad (attributes_of os) read

-- the packet of octets whose passwords are hidden by this authenticator
abbrev pub packet_read : Dictionary → List ℕ → List ℕ → List ℕ → Packet
packet_read dictionary secret hide_by os = record {
  code = code_of os;
  id = id_of os;
  authenticator = authenticator_of os;
  list = attribute_pairs dictionary secret hide_by (parts (attributes_of os));
}

module _ (dictionary : Dictionary) (secret os : List ℕ) where
  -- an Access-Request that is signed where it has a Message-Authenticator, or an Accounting-Request with its
  -- authenticator
  abbrev pub request_read : Result Packet PacketFault
  request_read =
      if not ((code_of os == access_request) || (code_of os == accounting_request))
      then Err CodeNotTaken
      else if (code_of os == accounting_request) && not (is_accounting_request os secret)
      then Err WrongAuthenticator
      else if is_wrongly_signed os secret then Err WrongMessageAuthenticator
      else Ok (packet_read dictionary secret
      (hiding_authenticator (code_of os) (authenticator_of os))
      os)

  -- what octets are read as, or the first refusal
  unfoldable pub decoded : Result Packet PacketFault
  decoded = unless_broken os request_read
