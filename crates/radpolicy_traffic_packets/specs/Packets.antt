-- The packets of a record of lines (RFC 2865, section 3; RFC 2866, section 3).
use Rattle.std.specs.Prelude.{◌≡◌, ℕ, ℤ, ◌==◌, Bool, true, false, not, ◌&&◌, ◌||◌, if◌then◌else◌, List, [], ◌∷◌, Option, None, Some, ⊤}
use Rattle.std.specs.Option.{option_and_then, option_map}
use Rattle.avp_dict.specs.Dictionary.{Dictionary}
use Rattle.avp_forms.specs.Requests.{request_written}
use Rattle.avp_forms.specs.declared.profiles.Profile.TheVariants.{Wider}
use Rattle.avp_packet.specs.Packets.{IsTooLong, access_accept, access_reject, access_request, accounting_request, accounting_response, reply, request, zeros}
use Rattle.radpolicy_traffic.specs.declared.records.Code.{Code}
use Rattle.radpolicy_traffic.specs.declared.records.Code.TheVariants.{AccessAccept, AccessReject, AccessRequest, AccountingRequest, AccountingResponse}
use Rattle.radpolicy_traffic.specs.declared.records.Record.{Record}
use Rattle.radpolicy_traffic.specs.declared.records.Reply.{Reply}
use Rattle.radpolicy_traffic_packets.specs.declared.faults.TextFault.{TextFault}
use Rattle.radpolicy_traffic_packets.specs.declared.faults.TextFault.TheVariants as text

-- ---- codes

-- the number of a request's type
abbrev pub request_code : Code → Option ℕ
request_code AccessRequest = Some access_request
request_code AccountingRequest = Some accounting_request
request_code _ = None

-- the number of a reply's type, where replies of that type are written
abbrev pub reply_code : Code → Option ℕ
reply_code AccessAccept = Some access_accept
reply_code AccessReject = Some access_reject
reply_code AccountingResponse = Some accounting_response
reply_code _ = None

-- ---- lines

-- `=`
abbrev pub equals : ℕ
equals = 61

abbrev pub begins_equals : List ℕ → Bool
begins_equals [] = false
begins_equals (o ∷ _) = o == equals

-- `:` and `+`
abbrev pub is_operator_sign : ℕ → Bool
is_operator_sign o = (o == 58) || (o == 43)

-- after this octet a value is being read, if one was before it
abbrev pub is_within_value : Bool → ℕ → Bool
is_within_value within o = if o == 10 then false else within || (o == equals)

-- lines with `=` in place of the first `:=` or `+=` of each, if no `=` is before it; the first line begins within a
-- value or not
abbrev pub with_equals : Bool → List ℕ → List ℕ
with_equals within [] = []
with_equals within (o ∷ os) =
    if not within && is_operator_sign o && begins_equals os then with_equals within os
    else o ∷ with_equals (is_within_value within o) os

-- ---- packets

module _ (dictionary : Dictionary) (secret : List ℕ) (offset : Option ℤ) where
  -- the request of this code with these lines: with Identifier 0, and in an Access-Request 16 zeros as its
  -- authenticator
  abbrev pub request_of_lines : List ℕ → ℕ → Option (List ℕ)
  request_of_lines lines code = option_map (request dictionary secret code 0 zeros)
      (request_written Wider offset lines dictionary)

  -- the reply of this code with these lines to a request with Identifier 0 and this authenticator, not signed
  abbrev pub reply_of_lines : List ℕ → List ℕ → ℕ → Option (List ℕ)
  reply_of_lines authenticator lines code =
      option_map (λ list. reply dictionary secret code 0 authenticator false list [])
      (request_written Wider offset (with_equals false lines) dictionary)

  -- the packet of a record's request
  unfoldable pub request_packet : Record → Option (List ℕ)
  request_packet given =
      option_and_then (request_of_lines given.request.items) (request_code given.code)

  -- the packet of the reply to the request with this authenticator
  unfoldable pub reply_packet : List ℕ → Reply → Option (List ℕ)
  reply_packet authenticator sent =
      option_and_then (reply_of_lines authenticator sent.lines.items) (reply_code sent.code)

  -- why a record's request has no packet
  abbrev pub IsRequestRefusal : Record → TextFault → Type 0
  IsRequestRefusal given text.TooLong = given.is_too_long ≡ true
  IsRequestRefusal given text.OtherCode =
      (given.is_too_long ≡ false) × (request_code given.code ≡ None)
  IsRequestRefusal given (text.Lines _) = (given.is_too_long ≡ false)
      × (request_written Wider offset given.request.items dictionary ≡ None)
      × (code : ℕ) × (request_code given.code ≡ Some code)
  IsRequestRefusal given text.PacketTooLong = (given.is_too_long ≡ false)
      × (octets : List ℕ) × (request_packet given ≡ Some octets) × IsTooLong octets
  IsRequestRefusal given text.Memory = ⊤

  -- why a reply has no packet
  abbrev pub IsReplyRefusal : List ℕ → Reply → TextFault → Type 0
  IsReplyRefusal authenticator sent text.TooLong = ⊥
  IsReplyRefusal authenticator sent text.OtherCode = reply_code sent.code ≡ None
  IsReplyRefusal authenticator sent (text.Lines _) =
      (request_written Wider offset (with_equals false sent.lines.items) dictionary ≡ None)
      × (code : ℕ) × (reply_code sent.code ≡ Some code)
  IsReplyRefusal authenticator sent text.PacketTooLong =
      (octets : List ℕ) × (reply_packet authenticator sent ≡ Some octets) × IsTooLong octets
  IsReplyRefusal authenticator sent text.Memory = ⊤
