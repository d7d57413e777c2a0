-- What a policy answers to a packet, and what is said of it.
use Rattle.std.specs.Prelude.{ℕ, Bool, false, ◌||◌, if◌then◌else◌, List, [], ◌++◌, codes, decimal, Option, None, Some, Result, Ok, Err}
use Rattle.std.specs.List.{list_any}
use Rattle.hex.specs.Hex.{encode_lower}
use Rattle.avp_lists.specs.declared.pairs.Pair.{Pair}
use Rattle.avp_dict.specs.declared.request.faults.LineFault.{LineFault}
use Rattle.avp_packet.specs.Decoded.{decoded}
use Rattle.avp_packet.specs.declared.faults.PacketFault.{PacketFault}
use Rattle.avp_packet.specs.declared.packets.Packet.{Packet}
use Rattle.avp_unlang.specs.Meaning.{Outcome as End}
use Rattle.radpolicy.specs.Faults.{fault_code_text, fault_number, fault_text}
use Rattle.radpolicy.specs.Replies.{reply_pairs}
use Rattle.radpolicy.specs.Reports.{code_text}
use Rattle.radpolicy.specs.RunOutcomes.{RunOutcome, outcome_of}
use Rattle.radpolicy.specs.Starts.{Prepared, start_of}
use Rattle.radpolicy.specs.declared.faults.Fault.{Fault}
use Rattle.radpolicy.specs.declared.faults.Fault.TheVariants as fault
use Rattle.radpolicy.specs.declared.jobs.Form.TheVariants.{Hex}
use Rattle.radpolicy.specs.declared.run_outcomes.Reply.{Reply}
use Rattle.radpolicy.specs.declared.run_outcomes.Reply.TheVariants as reply
use Rattle.radpolicy_common.specs.ProxyStates.{sends_hidden_proxy_state}
use Rattle.radpolicy_common.specs.Secrets.{Redaction, hides}
use Rattle.radpolicy_record_answers.specs.declared.answers.RecordFault.{RecordFault}
use Rattle.radpolicy_record_answers.specs.declared.answers.RecordFault.TheVariants.{ControlList, NoClient, ReplyList, Request, Text}
use Rattle.radpolicy_traffic_packets.specs.declared.faults.TextFault.{TextFault}
use Rattle.radpolicy_traffic_packets.specs.declared.faults.TextFault.TheVariants as text

-- ---- answers

-- what a run came to, or that its packet is too long
abbrev pub outcome_or_fault : Option RunOutcome → Result RunOutcome Fault
outcome_or_fault None = Err fault.PacketTooLong
outcome_or_fault (Some outcome) = Ok outcome

-- what a policy answers to a packet that was read so
abbrev pub answer_to : Prepared → List ℕ → Result Packet PacketFault → Result RunOutcome Fault
answer_to prepared secret (Err f) = Err (fault.Packet f)
answer_to prepared secret (Ok request) =
    outcome_or_fault (outcome_of (start_of prepared (Some secret) Hex request))

-- what a policy answers to the octets of a packet: the outcome of its run, or why there is none
unfoldable pub answered : Prepared → List ℕ → List ℕ → Result RunOutcome Fault
answered prepared secret octets =
    answer_to prepared secret (decoded prepared.dictionary secret octets)

-- why a record is refused whose request is
abbrev pub answered_record : Result RunOutcome Fault → Result RunOutcome RecordFault
answered_record (Ok outcome) = Ok outcome
answered_record (Err f) = Err (Request f)

-- ---- what is said of them

abbrev pub has_hidden : Redaction → List Pair → Bool
has_hidden redaction pairs = list_any (λ pair. hides redaction pair.id pair.value) pairs

-- a value of the reply list is not to be shown
abbrev pub hides_pairs : Redaction → End → Bool
hides_pairs redaction end = has_hidden redaction (reply_pairs end.code end.state.reply)

-- a Proxy-State is not to be shown: a reply has those of its request
abbrev pub hides_proxy_state : Redaction → Reply → Bool
hides_proxy_state redaction (reply.Packet octets) = sends_hidden_proxy_state redaction octets
hides_proxy_state redaction _ = false

-- a value of the reply is not to be shown
abbrev pub hides_reply : Redaction → RunOutcome → Bool
hides_reply redaction outcome =
    hides_pairs redaction outcome.end || hides_proxy_state redaction outcome.reply

-- the reply in hexadecimal digits, or (secret) where it holds a value that is not to be shown
abbrev pub reply_shown : Bool → Reply → List ℕ
reply_shown hides (reply.Packet octets) =
    if hides then codes "(secret)" else encode_lower octets
reply_shown hides _ = codes "none"

-- the result, and whether the run was stopped
abbrev pub result_shown : End → List ℕ
result_shown end = code_text end.code ++ (if end.stopped then codes " stopped" else [])

abbrev pub outcome_shown : Redaction → RunOutcome → List ℕ
outcome_shown redaction outcome = result_shown outcome.end ++ codes " "
    ++ reply_shown (hides_reply redaction outcome) outcome.reply

-- the number of a fault, and its words
abbrev pub fault_shown : Fault → List ℕ
fault_shown f = fault_code_text (fault_number f) ++ codes " " ++ fault_text f

-- the fault of a line, and where it is among the lines of its packet
abbrev pub lines_fault_shown : LineFault → List ℕ
lines_fault_shown f = fault_shown (fault.Request f) ++ codes " line " ++ decimal f.line

-- why the lines of a record make no packet
abbrev pub text_fault_shown : TextFault → List ℕ
text_fault_shown text.TooLong = codes "record too long"
text_fault_shown text.OtherCode = codes "neither Access-Request nor Accounting-Request"
text_fault_shown (text.Lines f) = lines_fault_shown f
text_fault_shown text.PacketTooLong = fault_shown fault.PacketTooLong
text_fault_shown text.Memory = fault_shown fault.Memory

-- why a record is refused
abbrev pub refusal_shown : RecordFault → List ℕ
refusal_shown (Request f) = fault_shown f
refusal_shown NoClient = codes "no client"
refusal_shown (Text f) = text_fault_shown f
refusal_shown (ReplyList f) = codes "reply list " ++ lines_fault_shown f
refusal_shown (ControlList f) = codes "control list " ++ lines_fault_shown f

-- what is said of an answer
abbrev pub answer_shown : Redaction → Result RunOutcome RecordFault → List ℕ
answer_shown redaction (Ok outcome) = outcome_shown redaction outcome
answer_shown redaction (Err f) = refusal_shown f
