-- What a policy answers, by how its packet is read and what its run comes to.
use Rattle.std.proofs.Common.{◌≡◌, ◌∙◌, inl, inr, List, ℕ, Option, None, Some, Result, Ok, Err, refl, ap, subst, sym}
use Rattle.avp_packet.specs.Decoded.{decoded}
use Rattle.avp_packet.specs.declared.faults.PacketFault.{PacketFault}
use Rattle.avp_packet.specs.declared.packets.Packet.{Packet}
use Rattle.radpolicy.specs.Faults.{MemoryOr}
use Rattle.radpolicy.specs.RunOutcomes.{RunOutcome, outcome_of}
use Rattle.radpolicy.specs.StartRefusals.{IsUnreadPacket}
use Rattle.radpolicy.specs.Starts.{Prepared, Start, start_of}
use Rattle.radpolicy.specs.declared.faults.Fault.{Fault}
use Rattle.radpolicy.specs.declared.faults.Fault.TheVariants as fault
use Rattle.radpolicy.specs.declared.jobs.Form.TheVariants.{Hex}
use Rattle.avp_dict.specs.Dictionary.{Dictionary}
use Rattle.avp_unlang.specs.Meaning.{Outcome as End}
use Rattle.std.specs.Option.{option_map}
use Rattle.radpolicy.specs.RunOutcomes.{end_of, outcome_with, sent_reply}
use Rattle.radpolicy.specs.declared.run_outcomes.Reply.{Reply}
use Rattle.radpolicy_record_answers.specs.Answers.{answer_to, answered, answered_record, outcome_or_fault}
use Rattle.radpolicy_record_answers.specs.Requests.{answer_by, answer_of, answered_from, lists_refusal, request_read, start_read, start_unless, started}
use Rattle.radpolicy_record_answers.specs.declared.answers.RecordFault.{RecordFault}
use Rattle.radpolicy_record_answers.specs.declared.requests.RecordRequest.{RecordRequest}
use Rattle.radpolicy_record_answers.specs.declared.requests.RecordSecret.{RecordSecret}
use Rattle.radpolicy_record_answers.specs.declared.requests.RecordSecret.TheVariants.{Known, Missing, Unknown}
use Rattle.radpolicy_record_answers.specs.internal.Over.{IsOver}

-- a packet that is not read
unread : (prepared : Prepared) (secret : List ℕ) (read : Result Packet PacketFault) (f : Fault) → IsUnreadPacket read f → MemoryOr (λ g. answer_to prepared secret read ≡ Err g) f
unread prepared secret read fault.Memory is = inl refl
unread prepared secret read (fault.Packet f) is = inr (ap (answer_to prepared secret) is)
unread prepared secret read fault.Help is = absurd is
unread prepared secret read fault.Usage is = absurd is
unread prepared secret read fault.OptionValue is = absurd is
unread prepared secret read fault.EmptySecret is = absurd is
unread prepared secret read fault.FileNotReadable is = absurd is
unread prepared secret read fault.NotHex is = absurd is
unread prepared secret read (fault.ScriptWord line) is = absurd is
unread prepared secret read fault.Write is = absurd is
unread prepared secret read (fault.Dictionary f) is = absurd is
unread prepared secret read (fault.Request f) is = absurd is
unread prepared secret read (fault.Reply f) is = absurd is
unread prepared secret read (fault.Control f) is = absurd is
unread prepared secret read fault.PacketTooLong is = absurd is
unread prepared secret read (fault.Policy f) is = absurd is

pub packet_refused : (prepared : Prepared) (secret octets : List ℕ) (f : Fault) → IsUnreadPacket (decoded prepared.dictionary secret octets) f → MemoryOr (λ g. answered prepared secret octets ≡ Err g) f
unfolding answered
packet_refused prepared secret octets f is = unread prepared secret (decoded prepared.dictionary secret octets) f is

-- a packet that is read is answered as its run comes to
by_run : (prepared : Prepared) (secret octets : List ℕ) (start : Start) → decoded prepared.dictionary secret octets ≡ Ok start.request → start ≡ start_of prepared (Some secret) Hex start.request → answered prepared secret octets ≡ outcome_or_fault (outcome_of start)
unfolding answered
by_run prepared secret octets start read is =
    ap (answer_to prepared secret) read ∙ ap (λ (s : Start). outcome_or_fault (outcome_of s)) (sym is)

pub run_answered : (prepared : Prepared) (secret octets : List ℕ) (start : Start) → decoded prepared.dictionary secret octets ≡ Ok start.request → start ≡ start_of prepared (Some secret) Hex start.request → (outcome : RunOutcome) → outcome_of start ≡ Some outcome → answered prepared secret octets ≡ Ok outcome
run_answered prepared secret octets start read is outcome ran =
    by_run prepared secret octets start read is ∙ ap outcome_or_fault ran

pub run_refused : (prepared : Prepared) (secret octets : List ℕ) (start : Start) → decoded prepared.dictionary secret octets ≡ Ok start.request → start ≡ start_of prepared (Some secret) Hex start.request → (f : Fault) → MemoryOr (λ g. (g ≡ fault.PacketTooLong) × (outcome_of start ≡ None)) f → MemoryOr (λ g. answered prepared secret octets ≡ Err g) f
run_refused prepared secret octets start read is f (inl memory) = inl memory
run_refused prepared secret octets start read is f (inr (too_long, none)) =
    inr (by_run prepared secret octets start read is ∙ ap outcome_or_fault none ∙ ap (λ (g : Fault). Err g) (sym too_long))

-- ---- whose dictionary an answer is over

over_run : (prepared : Prepared) (end : End) (sent : Option Reply) → IsOver prepared.dictionary (answered_record (outcome_or_fault (option_map (outcome_with prepared end) sent)))
over_run prepared end None = tt
over_run prepared end (Some reply) = refl

over_unless : (prepared : Prepared) (refusal : Option Fault) (start : Start) → start.prepared ≡ prepared → IsOver prepared.dictionary (answered_record (answer_of (start_unless refusal start)))
over_unless prepared (Some f) start is = tt
over_unless prepared None start is = subst (λ (p : Prepared). IsOver p.dictionary (answered_record (outcome_or_fault (outcome_of start)))) is (over_run start.prepared (end_of start) (sent_reply start (end_of start)))

over_read : (prepared : Prepared) (secret : Option (List ℕ)) (given : RecordRequest) (read : Result Packet PacketFault) → IsOver prepared.dictionary (answered_record (answer_of (start_read prepared secret given read)))
over_read prepared secret given (Err f) = tt
over_read prepared secret given (Ok request) =
    over_unless prepared (lists_refusal prepared.dictionary given.reply given.control)
    (record (start_of prepared secret Hex request) { reply = given.reply; control = given.control }) refl

over_from : (prepared : Prepared) (secret : Option (List ℕ)) (request : RecordRequest) → IsOver prepared.dictionary (answered_record (answered_from prepared secret request))
unfolding answered_from started
over_from prepared secret request = over_read prepared secret request (request_read prepared.dictionary secret request.octets)

pub answered_is_over : (prepared : Prepared) (secret : Option (List ℕ)) (request : RecordRequest) (outcome : RunOutcome) → answered_from prepared secret request ≡ Ok outcome → outcome.dictionary ≡ prepared.dictionary
answered_is_over prepared secret request outcome ran =
    subst (λ (answer : Result RunOutcome Fault). IsOver prepared.dictionary (answered_record answer)) ran (over_from prepared secret request)

over_answer : (prepared : Prepared) (secret : RecordSecret) (request : Result RecordRequest RecordFault) → IsOver prepared.dictionary (answer_by prepared secret request)
over_answer prepared _ (Err f) = tt
over_answer prepared Missing (Ok request) = tt
over_answer prepared (Known secret) (Ok request) = over_from prepared (Some secret) request
over_answer prepared Unknown (Ok request) = over_from prepared None request

pub answer_is_over : (prepared : Prepared) (secret : RecordSecret) (request : Result RecordRequest RecordFault) (answer : Result RunOutcome RecordFault) → answer ≡ answer_by prepared secret request → IsOver prepared.dictionary answer
answer_is_over prepared secret request answer same = subst (IsOver prepared.dictionary) (sym same) (over_answer prepared secret request)
