-- What a run over a record's request begins with, by what is refused.
use Rattle.std.proofs.Common.{◌≡◌, ◌∙◌, inl, inr, List, ℕ, Option, None, Some, Result, Ok, Err, refl, ap, subst, sym, arith}
use Rattle.std.specs.Option.{option_map}
use Rattle.avp_lists.specs.declared.pairs.Pair.{Pair}
use Rattle.avp_dict.specs.declared.request.faults.LineFault.{LineFault}
use Rattle.avp_packet.specs.declared.faults.PacketFault.{PacketFault}
use Rattle.avp_packet.specs.declared.packets.Packet.{Packet}
use Rattle.radpolicy.specs.Faults.{MemoryOr}
use Rattle.radpolicy.specs.RunOutcomes.{RunOutcome, outcome_of}
use Rattle.radpolicy.specs.StartRefusals.{IsUnreadPacket}
use Rattle.radpolicy.specs.Starts.{Prepared, Start, pairs_refusal, start_of}
use Rattle.radpolicy.specs.declared.faults.Fault.{Fault}
use Rattle.radpolicy.specs.declared.faults.Fault.TheVariants as fault
use Rattle.radpolicy.specs.declared.jobs.Form.TheVariants.{Hex}
use Rattle.radpolicy_record_answers.specs.Answers.{outcome_or_fault}
use Rattle.radpolicy_record_answers.specs.Requests.{answer_of, answered_from, first_refusal, lists_refusal, request_read, start_read, start_unless, started}
use Rattle.radpolicy_record_answers.specs.declared.requests.RecordRequest.{RecordRequest}

-- ---- a packet that is not read

unread : (prepared : Prepared) (secret : Option (List ℕ)) (given : RecordRequest) (read : Result Packet PacketFault) (f : Fault) → IsUnreadPacket read f → MemoryOr (λ g. start_read prepared secret given read ≡ Err g) f
unread prepared secret given read fault.Memory is = inl refl
unread prepared secret given read (fault.Packet f) is = inr (ap (start_read prepared secret given) is)
unread prepared secret given read fault.Help is = absurd is
unread prepared secret given read fault.Usage is = absurd is
unread prepared secret given read fault.OptionValue is = absurd is
unread prepared secret given read fault.EmptySecret is = absurd is
unread prepared secret given read fault.FileNotReadable is = absurd is
unread prepared secret given read fault.NotHex is = absurd is
unread prepared secret given read (fault.ScriptWord line) is = absurd is
unread prepared secret given read fault.Write is = absurd is
unread prepared secret given read (fault.Dictionary f) is = absurd is
unread prepared secret given read (fault.Request f) is = absurd is
unread prepared secret given read (fault.Reply f) is = absurd is
unread prepared secret given read (fault.Control f) is = absurd is
unread prepared secret given read fault.PacketTooLong is = absurd is
unread prepared secret given read (fault.Policy f) is = absurd is

pub packet_unread : (prepared : Prepared) (secret : Option (List ℕ)) (given : RecordRequest) (octets : List ℕ) (f : Fault) → octets ≡ given.octets → IsUnreadPacket (request_read prepared.dictionary secret octets) f → MemoryOr (λ g. started prepared secret given ≡ Err g) f
unfolding started
packet_unread prepared secret given octets f same is =
    unread prepared secret given (request_read prepared.dictionary secret given.octets) f
    (subst (λ (os : List ℕ). IsUnreadPacket (request_read prepared.dictionary secret os) f) same is)

pub packet_read : (prepared : Prepared) (secret : Option (List ℕ)) (given : RecordRequest) (octets : List ℕ) (request : Packet) → octets ≡ given.octets → request_read prepared.dictionary secret octets ≡ Ok request → request_read prepared.dictionary secret given.octets ≡ Ok request
packet_read prepared secret given octets request same read = ap (request_read prepared.dictionary secret) (sym same) ∙ read

-- ---- lists that are refused

by_reply : (f : Fault) (reply control : Option LineFault) → option_map fault.Reply reply ≡ Some f → first_refusal reply control ≡ Some f
by_reply f (Some g) control is = is
by_reply f None control is = grind (arith, is)

by_control : (f : Fault) (reply control : Option LineFault) → reply ≡ None → option_map fault.Control control ≡ Some f → first_refusal reply control ≡ Some f
by_control f reply control none is = ap (λ (r : Option LineFault). first_refusal r control) none ∙ is

by_none : (reply control : Option LineFault) → reply ≡ None → control ≡ None → first_refusal reply control ≡ None
by_none reply control none none_too = ap (λ (r : Option LineFault). first_refusal r control) none ∙ ap (option_map fault.Control) none_too

-- a packet that is read
begun : (prepared : Prepared) (secret : Option (List ℕ)) (given : RecordRequest) (request : Packet) (refusal : Option Fault) → request_read prepared.dictionary secret given.octets ≡ Ok request → lists_refusal prepared.dictionary given.reply given.control ≡ refusal → started prepared secret given ≡ start_unless refusal (record (start_of prepared secret Hex request) { reply = given.reply; control = given.control })
unfolding started
begun prepared secret given request refusal read is =
    ap (start_read prepared secret given) read
    ∙ ap (λ r. start_unless r (record (start_of prepared secret Hex request) { reply = given.reply; control = given.control })) is

pub reply_refused : (prepared : Prepared) (secret : Option (List ℕ)) (given : RecordRequest) (start : Start) (reply : List Pair) (f : Fault) → request_read prepared.dictionary secret given.octets ≡ Ok start.request → start ≡ start_of prepared secret Hex start.request → reply ≡ given.reply → option_map fault.Reply (pairs_refusal start.prepared.dictionary reply) ≡ Some f → started prepared secret given ≡ Err f
reply_refused prepared secret given start reply f read is copied refused =
    let same : pairs_refusal start.prepared.dictionary reply ≡ pairs_refusal prepared.dictionary given.reply =
    ap (λ (s : Start). pairs_refusal s.prepared.dictionary reply) is ∙ ap (pairs_refusal prepared.dictionary) copied in
    begun prepared secret given start.request (Some f) read
    (by_reply f (pairs_refusal prepared.dictionary given.reply) (pairs_refusal prepared.dictionary given.control) (ap (option_map fault.Reply) (sym same) ∙ refused))

pub control_refused : (prepared : Prepared) (secret : Option (List ℕ)) (given : RecordRequest) (start next : Start) (reply control : List Pair) (f : Fault) → request_read prepared.dictionary secret given.octets ≡ Ok start.request → start ≡ start_of prepared secret Hex start.request → reply ≡ given.reply → control ≡ given.control → pairs_refusal start.prepared.dictionary reply ≡ None → next ≡ record start { reply = reply } → option_map fault.Control (pairs_refusal next.prepared.dictionary control) ≡ Some f → started prepared secret given ≡ Err f
control_refused prepared secret given start next reply control f read is copied copied_too fits made refused =
    let same : pairs_refusal start.prepared.dictionary reply ≡ pairs_refusal prepared.dictionary given.reply =
    ap (λ (s : Start). pairs_refusal s.prepared.dictionary reply) is ∙ ap (pairs_refusal prepared.dictionary) copied in
    let same_too : pairs_refusal next.prepared.dictionary control ≡ pairs_refusal prepared.dictionary given.control =
    ap (λ (s : Start). pairs_refusal s.prepared.dictionary control) made ∙ ap (λ (s : Start). pairs_refusal s.prepared.dictionary control) is ∙ ap (pairs_refusal prepared.dictionary) copied_too in
    begun prepared secret given start.request (Some f) read
    (by_control f (pairs_refusal prepared.dictionary given.reply) (pairs_refusal prepared.dictionary given.control) (sym same ∙ fits) (ap (option_map fault.Control) (sym same_too) ∙ refused))

pub both_taken : (prepared : Prepared) (secret : Option (List ℕ)) (given : RecordRequest) (start next last : Start) (reply control : List Pair) → request_read prepared.dictionary secret given.octets ≡ Ok start.request → start ≡ start_of prepared secret Hex start.request → reply ≡ given.reply → control ≡ given.control → pairs_refusal start.prepared.dictionary reply ≡ None → next ≡ record start { reply = reply } → pairs_refusal next.prepared.dictionary control ≡ None → last ≡ record next { control = control } → started prepared secret given ≡ Ok last
both_taken prepared secret given start next last reply control read is copied copied_too fits made fits_too made_last =
    let same : pairs_refusal start.prepared.dictionary reply ≡ pairs_refusal prepared.dictionary given.reply =
    ap (λ (s : Start). pairs_refusal s.prepared.dictionary reply) is ∙ ap (pairs_refusal prepared.dictionary) copied in
    let same_too : pairs_refusal next.prepared.dictionary control ≡ pairs_refusal prepared.dictionary given.control =
    ap (λ (s : Start). pairs_refusal s.prepared.dictionary control) made ∙ ap (λ (s : Start). pairs_refusal s.prepared.dictionary control) is ∙ ap (pairs_refusal prepared.dictionary) copied_too in
    begun prepared secret given start.request None read
    (by_none (pairs_refusal prepared.dictionary given.reply) (pairs_refusal prepared.dictionary given.control) (sym same ∙ fits) (sym same_too ∙ fits_too))
    ∙ ap (λ (s : Start). Ok s) (sym (made_last
    ∙ ap (λ (s : Start). record s { control = control }) made
    ∙ ap (λ (s : Start). record s { reply = reply; control = control }) is
    ∙ ap (λ pairs. record (start_of prepared secret Hex start.request) { reply = pairs; control = control }) copied
    ∙ ap (λ pairs. record (start_of prepared secret Hex start.request) { reply = given.reply; control = pairs }) copied_too))

-- ---- answers

pub start_refused : (prepared : Prepared) (secret : Option (List ℕ)) (given : RecordRequest) (f : Fault) → MemoryOr (λ g. started prepared secret given ≡ Err g) f → MemoryOr (λ g. answered_from prepared secret given ≡ Err g) f
unfolding answered_from
start_refused prepared secret given f (inl memory) = inl memory
start_refused prepared secret given f (inr refused) = inr (ap answer_of refused)

pub start_answered : (prepared : Prepared) (secret : Option (List ℕ)) (given : RecordRequest) (start : Start) → started prepared secret given ≡ Ok start → (outcome : RunOutcome) → outcome_of start ≡ Some outcome → answered_from prepared secret given ≡ Ok outcome
unfolding answered_from
start_answered prepared secret given start is outcome ran = ap answer_of is ∙ ap outcome_or_fault ran

pub start_too_long : (prepared : Prepared) (secret : Option (List ℕ)) (given : RecordRequest) (start : Start) → started prepared secret given ≡ Ok start → (f : Fault) → MemoryOr (λ g. (g ≡ fault.PacketTooLong) × (outcome_of start ≡ None)) f → MemoryOr (λ g. answered_from prepared secret given ≡ Err g) f
unfolding answered_from
start_too_long prepared secret given start is f (inl memory) = inl memory
start_too_long prepared secret given start is f (inr (too_long, none)) =
    inr (ap answer_of is ∙ ap outcome_or_fault none ∙ ap (λ (g : Fault). Err g) (sym too_long))
