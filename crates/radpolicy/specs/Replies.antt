-- The reply packet of a run (RFC 2865, sections 4.2, 4.3 and 5.33; RFC 2866, section 4.2; RFC 3579, section 3.2).
use Rattle.std.specs.Prelude.{ℕ, Bool, ◌&&◌, ◌==◌, nat_le, if◌then◌else◌, List, [], length, Option, Some, None}
use Rattle.std.specs.Option.{option_and_then, option_map}
use Rattle.avp_lists.specs.declared.pairs.AttrId.TheVariants.{Plain}
use Rattle.avp_lists.specs.declared.pairs.Pair.{Pair}
use Rattle.avp_lists.specs.Instances.{has_instance, instances}
use Rattle.avp_dict.specs.AttributeNumbers.{proxy_state}
use Rattle.avp_dict.specs.Dictionary.{Dictionary}
use Rattle.avp_packet.specs.declared.packets.Packet.{Packet}
use Rattle.avp_packet.specs.Packets.{access_accept, access_reject, access_request, accounting_request, accounting_response, authenticator_of, max_packet_octets, reply, request}
use Rattle.avp_packet.specs.Sending.{message_authenticator_id}
use Rattle.avp_unlang.specs.declared.codes.Code.{Code}
use Rattle.avp_unlang.specs.declared.codes.Code.TheVariants as code
use Rattle.radpolicy.specs.declared.jobs.Form.{Form}
use Rattle.radpolicy.specs.declared.jobs.Form.TheVariants.{Accounting}
use Rattle.avp_unlang.specs.Meaning.{Outcome as End}

-- a packet that is not too long
abbrev pub within_packet : List ℕ → Option (List ℕ)
within_packet octets = if nat_le (length octets) max_packet_octets then Some octets else None

-- the packet of a request
abbrev pub request_packet : Dictionary → List ℕ → Packet → Option (List ℕ)
request_packet dictionary secret r =
    within_packet (request dictionary secret r.code r.id r.authenticator r.list)

-- the code of an Access-Request's reply
abbrev pub access_reply : Code → Option ℕ
access_reply code.Fail = Some access_reject
access_reply code.Reject = Some access_reject
access_reply _ = Some access_accept

-- the code of an Accounting-Request's reply; none after `fail` or `reject`
abbrev pub accounting_reply : Code → Option ℕ
accounting_reply code.Fail = None
accounting_reply code.Reject = None
accounting_reply _ = Some accounting_response

-- the code of the reply to a request of this code, after a run that ended with this result
abbrev pub reply_code : ℕ → Code → Option ℕ
reply_code request_code last =
    if request_code == accounting_request then accounting_reply last else access_reply last

-- the pairs of a reply: those of the reply list, and none after `fail`
abbrev pub reply_pairs : Code → List Pair → List Pair
reply_pairs code.Fail pairs = []
reply_pairs _ pairs = pairs

-- the request's Proxy-States, unchanged and in order
abbrev pub proxy_states : Packet → List Pair
proxy_states r = instances (Plain proxy_state) r.list

-- the reply to an Access-Request with a Message-Authenticator is signed
abbrev pub signs_reply : Packet → Bool
signs_reply r = (r.code == access_request) && has_instance message_authenticator_id r.list

-- the authenticator that a reply answers: that of the request, which for the lines of an Accounting-Request is that of
-- its packet
abbrev pub answered_authenticator : Form → Dictionary → List ℕ → Packet → Option (List ℕ)
answered_authenticator Accounting dictionary secret r =
    option_map authenticator_of (request_packet dictionary secret r)
answered_authenticator _ dictionary secret r = Some r.authenticator

-- what a run sends
pub data Answer : Type 0 where
  -- nothing
  Nothing : Answer
  Sent : List ℕ → Answer
  -- a packet that is too long, the request's own or the reply's
  TooLong : Answer

abbrev pub sent_or_too_long : Option (List ℕ) → Answer
sent_or_too_long (Some octets) = Sent octets
sent_or_too_long None = TooLong

-- the reply of this code, signed or not, with these pairs and Proxy-States, if there is one, to a request with this
-- identifier and authenticator
abbrev pub reply_with : Dictionary → List ℕ → ℕ → Option (List ℕ) → Bool → List Pair → List Pair
    → Option ℕ → Answer
reply_with dictionary secret id authenticator signed pairs proxies None = Nothing
reply_with dictionary secret id authenticator signed pairs proxies (Some code) =
    sent_or_too_long (option_and_then
    (λ a. within_packet (reply dictionary secret code id a signed pairs proxies)) authenticator)

-- what a run sends that ended so
unfoldable pub answer_of : Form → Dictionary → List ℕ → Packet → End → Answer
answer_of form dictionary secret r end =
    reply_with dictionary secret r.id (answered_authenticator form dictionary secret r)
    (signs_reply r) (reply_pairs end.code end.state.reply) (proxy_states r)
    (reply_code r.code end.code)
