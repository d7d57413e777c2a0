-- What a record of attribute lines says, by the secret that is shared with its source: its identifier, its request, and
-- the reply to it, as far as their lines make packets.
use Rattle.std.specs.Prelude.{◌≡◌, ℕ, ℤ, false, List, [], ◌∷◌, Option, None, Some, Result, Ok, Err}
use Rattle.std.specs.Option.{option_and_then}
use Rattle.std.specs.declared.net.ip_addr.IpAddr.{IpAddr}
use Rattle.avp_lists.specs.declared.pairs.Pair.{Pair}
use Rattle.avp_dict.specs.Dictionary.{Dictionary}
use Rattle.avp_forms.specs.Requests.{request_written}
use Rattle.avp_forms.specs.declared.profiles.Profile.TheVariants.{Wider}
use Rattle.avp_packet.specs.Packets.{IsShort, authenticator_of}
use Rattle.radpolicy_clients.specs.Addresses.{address_of}
use Rattle.radpolicy_record_answers.specs.Records.{name_shown}
use Rattle.radpolicy_record_answers.specs.declared.answers.RecordFault.{RecordFault}
use Rattle.radpolicy_record_answers.specs.declared.answers.RecordFault.TheVariants.{ControlList, NoClient, ReplyList, Text as TextRefused}
use Rattle.radpolicy_record_answers.specs.declared.captured.CapturedFault.TheVariants.{Text}
use Rattle.radpolicy_record_answers.specs.declared.captured.CapturedReply.{CapturedReply}
use Rattle.radpolicy_record_answers.specs.declared.captured.CapturedReply.TheVariants.{Challenge, Missing, Octets, Unread}
use Rattle.radpolicy_record_answers.specs.declared.entries.Entry.{Entry}
use Rattle.radpolicy_record_answers.specs.declared.requests.RecordRequest.{RecordRequest}
use Rattle.radpolicy_traffic.specs.declared.records.Code.{Code}
use Rattle.radpolicy_traffic.specs.declared.records.Code.TheVariants.{AccessChallenge}
use Rattle.radpolicy_traffic.specs.declared.records.Record.{Record}
use Rattle.radpolicy_traffic.specs.declared.records.Reply.{Reply}
use Rattle.radpolicy_traffic_packets.specs.Packets.{IsReplyRefusal, IsRequestRefusal, reply_packet, request_packet}
use Rattle.radpolicy_traffic_packets.specs.declared.faults.TextFault.TheVariants.{Memory}

-- ---- the identifier and the source

-- a record without an identifier, or with one that names nothing, is called by its number
abbrev pub text_identifier : List ℕ → List ℕ
text_identifier [] = []
text_identifier (o ∷ os) = name_shown (o ∷ os)

abbrev pub text_source : Record → Option IpAddr
text_source given = option_and_then (λ text. address_of text.items) given.source

-- ---- the packets

module _ (dictionary : Dictionary) (offset : Option ℤ) where
  -- the list of a record's lines, in the wider profile
  abbrev pub list_of_lines : List ℕ → Option (List Pair)
  list_of_lines lines = request_written Wider offset lines dictionary

  -- the packet of a record's request by a secret
  abbrev pub HasPacket : List ℕ → Record → List ℕ → Type 0
  HasPacket secret given octets = (given.is_too_long ≡ false)
      × (request_packet dictionary secret offset given ≡ Some octets) × IsShort octets

  -- A record's request by a secret, with the initial lists that its lines spell; or why it has none. A list is read
  -- only where there is a packet, and the control list only where there is a reply list.
  abbrev pub IsRequestBy : List ℕ → Record → Result RecordRequest RecordFault → Type 0
  IsRequestBy secret given (Ok request) = HasPacket secret given request.octets
      × (list_of_lines given.initial_reply.items ≡ Some request.reply)
      × (list_of_lines given.initial_control.items ≡ Some request.control)
  IsRequestBy secret given (Err (ReplyList f)) =
      (octets : List ℕ) × HasPacket secret given octets
      × (list_of_lines given.initial_reply.items ≡ None)
  IsRequestBy secret given (Err (ControlList f)) =
      (octets : List ℕ) × (reply : List Pair) × HasPacket secret given octets
      × (list_of_lines given.initial_reply.items ≡ Some reply)
      × (list_of_lines given.initial_control.items ≡ None)
  IsRequestBy secret given (Err (TextRefused Memory)) = ⊥
  IsRequestBy secret given (Err (TextRefused f)) =
      IsRequestRefusal dictionary secret offset given f
  IsRequestBy secret given (Err _) = ⊥

  -- the same by the secret if there is one
  abbrev pub IsRequestOf : Option (List ℕ) → Record → Result RecordRequest RecordFault → Type 0
  IsRequestOf None given request = request ≡ Err NoClient
  IsRequestOf (Some secret) given request = IsRequestBy secret given request

  -- the packet of the reply to the request of these octets, or why it has none
  abbrev pub IsReplyWritten : List ℕ → List ℕ → Reply → CapturedReply → Type 0
  IsReplyWritten secret request sent (Octets octets) =
      (reply_packet dictionary secret offset (authenticator_of request) sent ≡ Some octets)
      × IsShort octets
  IsReplyWritten secret request sent (Unread (Text Memory)) = ⊥
  IsReplyWritten secret request sent (Unread (Text f)) =
      IsReplyRefusal dictionary secret offset (authenticator_of request) sent f
  IsReplyWritten secret request sent _ = ⊥

  -- the same, where the reply has this code: of a challenge no packet is made
  abbrev pub IsReplyOf : Code → List ℕ → List ℕ → Reply → CapturedReply → Type 0
  IsReplyOf AccessChallenge secret request sent reply = reply ≡ Challenge
  IsReplyOf _ secret request sent reply = IsReplyWritten secret request sent reply

  -- the reply to a request that was taken, if one was captured
  abbrev pub IsCaptured : List ℕ → List ℕ → Option Reply → CapturedReply → Type 0
  IsCaptured secret request None reply = reply ≡ Missing
  IsCaptured secret request (Some sent) reply = IsReplyOf sent.code secret request sent reply

  -- the same, where the request may be refused: then no reply is read
  abbrev pub IsCapturedOf : Option (List ℕ) → Result RecordRequest RecordFault → Option Reply
      → CapturedReply → Type 0
  IsCapturedOf (Some secret) (Ok request) sent reply =
      IsCaptured secret request.octets sent reply
  IsCapturedOf None (Ok request) sent reply = reply ≡ Missing
  IsCapturedOf secret (Err _) sent reply = reply ≡ Missing

  -- A record says this. Of the lines that make no packet, any may be the one that is named.
  pub record IsEntryOf (secret : Option (List ℕ)) (given : Record) (entry : Entry) : Type 0 where
    pub identifier : entry.identifier ≡ text_identifier given.identifier.items
    pub request : IsRequestOf secret given entry.request
    pub reply : IsCapturedOf secret entry.request given.reply entry.reply
