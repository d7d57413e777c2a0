-- What octets given as the reply to a request are read as, and what is refused of them (RFC 2865, sections 3 and 4.4;
-- RFC 2866, section 3; RFC 3579, section 3.2).
use Rattle.std.specs.Prelude.{ℕ, Bool, ◌&&◌, ◌||◌, not, ◌==◌, if◌then◌else◌, List, Result, Ok, Err}
use Rattle.avp_dict.specs.Dictionary.{Dictionary}
use Rattle.avp_packet.specs.declared.faults.PacketFault.{PacketFault}
use Rattle.avp_packet.specs.declared.faults.PacketFault.TheVariants.{CodeNotTaken, WrongAuthenticator, WrongMessageAuthenticator}
use Rattle.avp_packet.specs.declared.packets.Packet.{Packet}
use Rattle.avp_packet.specs.Decoded.{has_wrong_signature, packet_read, unless_broken}
use Rattle.avp_packet.specs.Packets.{access_accept, access_challenge, access_reject, accounting_response, code_of, hiding_authenticator, is_reply}

abbrev pub is_taken_reply_code : ℕ → Bool
is_taken_reply_code code = (code == access_accept) || (code == access_reject)
    || (code == accounting_response)
    || (code == access_challenge)

-- a reply other than an Accounting-Response, with a Message-Authenticator that does not sign it
abbrev pub is_wrongly_signed_reply : List ℕ → List ℕ → List ℕ → Bool
is_wrongly_signed_reply os request_authenticator secret =
    not (code_of os == accounting_response) && has_wrong_signature os request_authenticator secret

module _ (dictionary : Dictionary) (secret request_authenticator os : List ℕ) where
  -- a reply to the request with this authenticator, that is signed where it has a Message-Authenticator
  abbrev pub reply_read : Result Packet PacketFault
  reply_read =
      if not (is_taken_reply_code (code_of os)) then Err CodeNotTaken
      else if not (is_reply os request_authenticator secret) then Err WrongAuthenticator
      else if is_wrongly_signed_reply os request_authenticator secret
      then Err WrongMessageAuthenticator
      else Ok (packet_read dictionary secret
      (hiding_authenticator (code_of os) request_authenticator)
      os)

  -- what octets are read as, or the first refusal
  unfoldable pub decoded_reply : Result Packet PacketFault
  decoded_reply = unless_broken os reply_read
