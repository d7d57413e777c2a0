-- The reply that was really sent to a record's request, beside the policy's own (RFC 2865, sections 3 and 4; RFC 2866,
-- section 4).
use Rattle.std.specs.Prelude.{◌≡◌, ℕ, ◌==◌, Bool, false, ◌&&◌, ◌||◌, if◌then◌else◌, List, [], ◌∷◌, ◌++◌, codes, find, Option, None, Some, Result, Ok, Err}
use Rattle.hex.specs.Hex.{decode_of}
use Rattle.std.specs.List.{flat_map}
use Rattle.avp_lists.specs.declared.pairs.AttrId.{AttrId}
use Rattle.avp_lists.specs.declared.pairs.AttrId.TheVariants.{Plain}
use Rattle.avp_lists.specs.declared.pairs.Pair.{Pair}
use Rattle.avp_dict.specs.AttributeNumbers.{message_authenticator, proxy_state}
use Rattle.avp_dict.specs.Dictionary.{Dictionary}
use Rattle.avp_packet.specs.DecodedReply.{decoded_reply}
use Rattle.avp_packet.specs.Unchecked.{decoded_reply_unchecked}
use Rattle.avp_packet.specs.Packets.{access_accept, access_challenge, access_reject, accounting_request, accounting_response, authenticator_of, code_of, id_of}
use Rattle.avp_packet.specs.declared.faults.PacketFault.{PacketFault}
use Rattle.avp_packet.specs.declared.packets.Packet.{Packet}
use Rattle.radpolicy.specs.RunOutcomes.{RunOutcome}
use Rattle.radpolicy.specs.Scripts.{line_words}
use Rattle.radpolicy.specs.Starts.{Prepared}
use Rattle.radpolicy.specs.declared.faults.Fault.{Fault}
use Rattle.radpolicy.specs.declared.faults.Fault.TheVariants as fault
use Rattle.radpolicy.specs.declared.run_outcomes.Reply.{Reply}
use Rattle.radpolicy.specs.declared.run_outcomes.Reply.TheVariants as reply
use Rattle.radpolicy_common.specs.Secrets.{Redaction}
use Rattle.radpolicy_record_answers.specs.Answers.{fault_shown, refusal_shown, text_fault_shown}
use Rattle.radpolicy_record_answers.specs.Comparisons.{AreSame, compared, same_lists}
use Rattle.radpolicy_record_answers.specs.Differences.{added_line, list_change, named_change, pair_line, removed_line}
use Rattle.radpolicy_record_answers.specs.Records.{is_packet_word, octets_decoded, request_taken}
use Rattle.radpolicy_record_answers.specs.Requests.{answered_from}
use Rattle.radpolicy_record_answers.specs.UnmadeReplies.{unmade_reply}
use Rattle.radpolicy_record_answers.specs.declared.answers.RecordFault.{RecordFault}
use Rattle.radpolicy_record_answers.specs.declared.answers.RecordFault.TheVariants.{NoClient, Request}
use Rattle.radpolicy_record_answers.specs.declared.captured.CapturedFault.{CapturedFault}
use Rattle.radpolicy_record_answers.specs.declared.captured.CapturedFault.TheVariants.{NoReply, OtherRequest, Text}
use Rattle.radpolicy_record_answers.specs.declared.captured.CapturedReply.{CapturedReply}
use Rattle.radpolicy_record_answers.specs.declared.captured.CapturedReply.TheVariants as capture
use Rattle.radpolicy_record_answers.specs.declared.captured.Replies.{Replies}
use Rattle.radpolicy_record_answers.specs.declared.captured.Replies.TheVariants.{Both, Challenge, Refused, Unanswered, Unread}
use Rattle.radpolicy_record_answers.specs.declared.comparisons.Comparison.{Comparison}
use Rattle.radpolicy_record_answers.specs.declared.comparisons.Order.{Order}
use Rattle.radpolicy_record_answers.specs.declared.comparisons.Order.TheVariants.{ByName, Ordered}
use Rattle.radpolicy_record_answers.specs.declared.comparisons.Told.{Told}
use Rattle.radpolicy_record_answers.specs.declared.comparisons.Told.TheVariants.{All, Different}
use Rattle.radpolicy_record_answers.specs.declared.requests.RecordRequest.{RecordRequest}
use Rattle.radpolicy_record_answers.specs.declared.requests.RecordSecret.{RecordSecret}
use Rattle.radpolicy_record_answers.specs.declared.requests.RecordSecret.TheVariants.{Known, Missing, Unknown}
use Rattle.radpolicy_record_answers.specs.declared.verdicts.Verdict.{Verdict}
use Rattle.radpolicy_record_answers.specs.declared.verdicts.Verdict.TheVariants as verdict
use Rattle.radpolicy_traffic_packets.specs.declared.faults.TextFault.{TextFault}
use Rattle.radpolicy_traffic_packets.specs.declared.faults.TextFault.TheVariants as text

-- ---- the reply that was captured

-- the words after the first packet
abbrev pub words_after : List (List ℕ) → List (List ℕ)
words_after [] = []
words_after (word ∷ words) = if is_packet_word word then words else words_after words

-- the second packet
abbrev pub reply_word : List ℕ → Option (List ℕ)
reply_word line = find is_packet_word (words_after (line_words line))

-- a reply with this code answers a request of that one
abbrev pub is_reply_code : ℕ → ℕ → Bool
is_reply_code request code =
    if request == accounting_request then code == accounting_response
    else (code == access_accept) || (code == access_reject) || (code == access_challenge)

-- the Identifier is the request's, and the code answers the request's
abbrev pub answers : List ℕ → Packet → Bool
answers request sent = (sent.id == id_of request) && is_reply_code (code_of request) sent.code

abbrev pub packet_or_fault : Result Packet PacketFault → Result Packet Fault
packet_or_fault (Ok sent) = Ok sent
packet_or_fault (Err f) = Err (fault.Packet f)

-- what octets are read as, where they are the reply to the request of these
abbrev pub reply_to : Dictionary → List ℕ → List ℕ → List ℕ → Result Packet Fault
reply_to dictionary secret request octets =
    packet_or_fault (decoded_reply dictionary secret (authenticator_of request) octets)

-- the same, by the secret if one is known
abbrev pub reply_by : Dictionary → Option (List ℕ) → List ℕ → List ℕ → Result Packet Fault
reply_by dictionary (Some secret) request octets = reply_to dictionary secret request octets
reply_by dictionary None request octets =
    packet_or_fault (decoded_reply_unchecked dictionary octets)

abbrev pub unless_other : List ℕ → Result Packet Fault → Result Packet CapturedFault
unless_other request (Ok sent) =
    if answers request sent then Ok sent else Err OtherRequest
unless_other request (Err f) = Err (NoReply f)

-- what these octets are that were captured as the reply to the request of those, or why they are none
abbrev pub captured_reply : Dictionary → Option (List ℕ) → List ℕ → List ℕ
    → Result Packet CapturedFault
captured_reply dictionary secret request octets =
    unless_other request (reply_by dictionary secret request octets)

abbrev pub reply_decoded : Result (List ℕ) Fault → CapturedReply
reply_decoded (Ok octets) = capture.Octets octets
reply_decoded (Err f) = capture.Unread (NoReply f)

-- the reply that a word has the digits of, where there is one
abbrev pub reply_of_word : Option (List ℕ) → CapturedReply
reply_of_word None = capture.Missing
reply_of_word (Some word) = reply_decoded (octets_decoded (decode_of word))

-- ---- both replies

-- what the policy sends, read as the one who asked reads it
abbrev pub own_reply : Dictionary → List ℕ → List ℕ → Reply → Result (Option Packet) Fault
own_reply dictionary secret request (reply.Packet octets) =
    elim (reply_to dictionary secret request octets) [ Ok sent ↦ Ok (Some sent) | Err f ↦ Err f ]
own_reply dictionary secret request _ = Ok None

-- the same, by the secret if one is known: without one no packet is made
abbrev pub own_by : Dictionary → Option (List ℕ) → List ℕ → RunOutcome
    → Result (Option Packet) Fault
own_by dictionary (Some secret) request outcome =
    own_reply dictionary secret request outcome.reply
own_by dictionary None request outcome = Ok (unmade_reply dictionary request outcome.end)

abbrev pub with_own : Packet → Result (Option Packet) Fault → Replies
with_own captured (Ok own) = Both captured own
with_own captured (Err f) = Refused (Request f)

-- a challenge is compared with nothing: a policy sends none (RFC 2865, section 4.4)
abbrev pub beside : Dictionary → Option (List ℕ) → List ℕ → RunOutcome
    → Result Packet CapturedFault → Replies
beside dictionary secret request outcome (Err f) = Unread f
beside dictionary secret request outcome (Ok captured) =
    if captured.code == access_challenge then Challenge
    else with_own captured (own_by dictionary secret request outcome)

abbrev pub beside_captured : Dictionary → Option (List ℕ) → List ℕ → RunOutcome → CapturedReply
    → Replies
beside_captured dictionary secret request outcome capture.Missing = Unanswered
beside_captured dictionary secret request outcome (capture.Octets octets) =
    beside dictionary secret request outcome (captured_reply dictionary secret request octets)
beside_captured dictionary secret request outcome capture.Challenge = Challenge
beside_captured dictionary secret request outcome (capture.Unread f) = Unread f

abbrev pub replies_of : Dictionary → Option (List ℕ) → List ℕ → CapturedReply
    → Result RunOutcome Fault → Replies
replies_of dictionary secret request reply (Err f) = Refused (Request f)
replies_of dictionary secret request reply (Ok outcome) =
    beside_captured dictionary secret request outcome reply

-- the replies to a request that is given so, by the secret if there is one, with this one as what was captured
abbrev pub replies_with : Prepared → RecordSecret → CapturedReply
    → Result RecordRequest RecordFault → Replies
replies_with prepared _ reply (Err f) = Refused f
replies_with prepared Missing reply (Ok request) = Refused NoClient
replies_with prepared (Known secret) reply (Ok request) =
    replies_of prepared.dictionary (Some secret) request.octets reply
    (answered_from prepared (Some secret) request)
replies_with prepared Unknown reply (Ok request) =
    replies_of prepared.dictionary None request.octets reply (answered_from prepared None request)

-- the same, with what this word has the digits of as the one that was captured
abbrev pub replies_by : Prepared → RecordSecret → Option (List ℕ) → Result (List ℕ) Fault
    → Replies
replies_by prepared secret word request =
    replies_with prepared secret (reply_of_word word) (request_taken request)

-- ---- the same

-- the attributes that a server and a proxy add, which are compared in order alone (RFC 2865, section 5.33; RFC 3579,
-- section 3.2)
abbrev pub left_out : Order → List AttrId
left_out Ordered = []
left_out ByName = Plain proxy_state ∷ Plain message_authenticator ∷ []

-- a reply's pairs, as far as they are compared
abbrev pub compared_pairs : Comparison → List Pair → List Pair
compared_pairs comparison pairs =
    compared (left_out comparison.order ++ comparison.ignored.now) pairs

-- the same code, and the same lists
abbrev pub AreSamePackets : Comparison → Packet → Packet → Type 0
AreSamePackets comparison captured own = (captured.code ≡ own.code)
    × AreSame comparison.order (compared_pairs comparison captured.list)
    (compared_pairs comparison own.list)

-- the reply that was captured is the policy's, which sends one
abbrev pub AreSameReplies : Comparison → Packet → Option Packet → Type 0
AreSameReplies comparison captured None = ⊥
AreSameReplies comparison captured (Some own) = AreSamePackets comparison captured own

abbrev pub same_packets : Comparison → Packet → Packet → Bool
same_packets comparison captured own = (captured.code == own.code)
    && same_lists comparison.order (compared_pairs comparison captured.list)
    (compared_pairs comparison own.list)

-- the same, as a test
unfoldable pub same_replies : Comparison → Packet → Option Packet → Bool
same_replies comparison captured None = false
same_replies comparison captured (Some own) = same_packets comparison captured own

-- ---- what is said of them

abbrev pub reply_name : ℕ → List ℕ
reply_name code = if code == access_accept then codes "Access-Accept"
    else if code == access_reject then codes "Access-Reject"
    else if code == accounting_response then codes "Accounting-Response"
    else codes "Access-Challenge"

abbrev pub own_name : Option Packet → List ℕ
own_name None = codes "none"
own_name (Some own) = reply_name own.code

-- why lines make no packet of a reply
abbrev pub captured_text_shown : TextFault → List ℕ
captured_text_shown text.OtherCode = codes "captured reply of another type"
captured_text_shown f = codes "captured " ++ text_fault_shown f

abbrev pub captured_fault_shown : CapturedFault → List ℕ
captured_fault_shown (NoReply f) = codes "captured " ++ fault_shown f
captured_fault_shown OtherRequest = codes "captured reply to another request"
captured_fault_shown (Text f) = captured_text_shown f

-- a pair of the reply that was captured, on a line of its own
abbrev pub captured_line : Dictionary → Redaction → Pair → List ℕ
captured_line dictionary redaction pair = codes "    " ++ pair_line dictionary redaction pair

-- the lines of that reply's list
abbrev pub captured_lines : Dictionary → Redaction → Packet → List ℕ
captured_lines dictionary redaction captured =
    flat_map (captured_line dictionary redaction) captured.list

-- the same below their name, where the replies that were captured are shown
abbrev pub captured_list : Redaction → Dictionary → Comparison → Packet → List ℕ
captured_list redaction dictionary comparison captured =
    if comparison.shows_replies
    then named_change (codes "captured") (captured_lines dictionary redaction captured) else []

-- a record that is not different, which has no line unless all are told
abbrev pub quietly_told : Told → List ℕ → List ℕ → List ℕ
quietly_told Different name words = []
quietly_told All name words = name ++ words ++ codes "\n"

-- how the lists of two replies differ
abbrev pub packets_lines : (Pair → List ℕ) → (Pair → List ℕ) → Comparison → Packet → Packet
    → List ℕ
packets_lines removed added comparison captured own =
    list_change removed added comparison.order (compared_pairs comparison captured.list)
    (compared_pairs comparison own.list)

abbrev pub packets_change : (Pair → List ℕ) → (Pair → List ℕ) → Comparison → Packet → Packet
    → List ℕ
packets_change removed added comparison captured own =
    named_change (codes "reply") (packets_lines removed added comparison captured own)

-- the same, where both sent one
abbrev pub replies_change : Redaction → Dictionary → Comparison → Packet → Option Packet → List ℕ
replies_change redaction dictionary comparison captured None = []
replies_change redaction dictionary comparison captured (Some own) =
    packets_change (removed_line dictionary redaction) (added_line dictionary redaction) comparison
    captured own

-- a record whose replies are the same, which has no line unless all are told either
abbrev pub same_reply_told : Redaction → Dictionary → Comparison → Told → List ℕ → Packet
    → List ℕ
same_reply_told redaction dictionary comparison Different name captured = []
same_reply_told redaction dictionary comparison All name captured =
    name ++ reply_name captured.code ++ codes "\n"
    ++ captured_list redaction dictionary comparison captured

abbrev pub other_reply_told : Redaction → Dictionary → Comparison → List ℕ → Packet
    → Option Packet → List ℕ
other_reply_told redaction dictionary comparison name captured own =
    name ++ reply_name captured.code ++ codes " -> " ++ own_name own ++ codes "\n"
    ++ captured_list redaction dictionary comparison captured
    ++ replies_change redaction dictionary comparison captured own

-- what is said of the replies to the record of this name
unfoldable pub replies_told : Redaction → Dictionary → Comparison → List ℕ → Replies → List ℕ
replies_told redaction dictionary comparison name (Refused f) =
    quietly_told comparison.told name (refusal_shown f)
replies_told redaction dictionary comparison name Unanswered =
    quietly_told comparison.told name (codes "unanswered")
replies_told redaction dictionary comparison name (Unread f) =
    quietly_told comparison.told name (captured_fault_shown f)
replies_told redaction dictionary comparison name Challenge =
    quietly_told comparison.told name (codes "Access-Challenge")
replies_told redaction dictionary comparison name (Both captured own) =
    if same_replies comparison captured own
    then same_reply_told redaction dictionary comparison comparison.told name captured
    else other_reply_told redaction dictionary comparison name captured own

-- what became of the record
unfoldable pub verdict_of_replies : Comparison → Replies → Verdict
verdict_of_replies comparison (Refused f) = verdict.Refused
verdict_of_replies comparison Unanswered = verdict.Unanswered
verdict_of_replies comparison (Unread f) = verdict.Refused
verdict_of_replies comparison Challenge = verdict.Challenged
verdict_of_replies comparison (Both captured own) =
    if same_replies comparison captured own then verdict.Same else verdict.Different
