-- What a request has that is answered, and how its reply is read.
use Rattle.std.proofs.Common.{◌≡◌, ◌∙◌, ◌↔◌, ◌&&◌, ◌==◌, inl, inr, Bool, true, false, ℕ, List, Option, None, Some, Result, Ok, Err, nat_lt, ltb-false, length, refl, ap, sym}
use Rattle.std.proofs.lemmas.Bool.Decides.{Decides-eqb}
use Rattle.avp_dict.specs.Dictionary.{Dictionary}
use Rattle.avp_packet.specs.Decoded.{decoded}
use Rattle.avp_packet.specs.DecodedReply.{decoded_reply}
use Rattle.avp_packet.specs.Packets.{authenticator_of, packet_head_octets}
use Rattle.avp_packet.specs.Unchecked.{decoded_reply_unchecked, unchecked_where}
use Rattle.avp_packet.specs.declared.faults.PacketFault.{PacketFault}
use Rattle.avp_packet.specs.declared.faults.PacketFault.TheVariants.{TooShort}
use Rattle.avp_packet.specs.declared.packets.Packet.{Packet}
use Rattle.radpolicy.specs.Faults.{MemoryOr}
use Rattle.radpolicy.specs.RunOutcomes.{RunOutcome}
use Rattle.radpolicy.specs.StartRefusals.{IsUnreadPacket}
use Rattle.radpolicy.specs.Starts.{Prepared}
use Rattle.radpolicy.specs.declared.faults.Fault.{Fault}
use Rattle.radpolicy.specs.declared.faults.Fault.TheVariants as fault
use Rattle.radpolicy_record_answers.specs.Captured.{AreSameReplies, compared_pairs, packet_or_fault, reply_to, same_replies}
use Rattle.radpolicy_record_answers.specs.Comparisons.{same_lists}
use Rattle.radpolicy_record_answers.specs.Requests.{answered_from, request_read, started}
use Rattle.radpolicy_record_answers.specs.declared.comparisons.Comparison.{Comparison}
use Rattle.radpolicy_record_answers.specs.declared.requests.RecordRequest.{RecordRequest}
use Rattle.radpolicy_record_answers.specs.internal.Fitting.{HasHead}
use Rattle.radpolicy_record_answers.proofs.SameLists.{means_test, test_means}

-- ---- a request that is answered has its head

short_is_refused : (prepared : Prepared) (secret : Option (List ℕ)) (request : RecordRequest) → nat_lt (length request.octets) packet_head_octets ≡ true → answered_from prepared secret request ≡ Err (fault.Packet TooShort)
unfolding answered_from started decoded unchecked_where
short_is_refused prepared (Some secret) request short = rw short refl
short_is_refused prepared None request short = rw short refl

pub answered_has_head : (prepared : Prepared) (secret : Option (List ℕ)) (request : RecordRequest) (outcome : RunOutcome) → answered_from prepared secret request ≡ Ok outcome → HasHead request.octets
answered_has_head prepared secret request outcome ran =
    elim (nat_lt (length request.octets) packet_head_octets) as (λ b. nat_lt (length request.octets) packet_head_octets ≡ b → HasHead request.octets) [
      | true ↦ λ e. let refused : answered_from prepared secret request ≡ Err (fault.Packet TooShort) = short_is_refused prepared secret request e in cc
      | false ↦ λ e. ltb-false (length request.octets) packet_head_octets e
    ] refl

-- ---- a reply that is not read

unread : (read : Result Packet PacketFault) (f : Fault) → IsUnreadPacket read f → MemoryOr (λ g. packet_or_fault read ≡ Err g) f
unread read fault.Memory is = inl refl
unread read (fault.Packet f) is = inr (ap packet_or_fault is)
unread read fault.Help is = absurd is
unread read fault.Usage is = absurd is
unread read fault.OptionValue is = absurd is
unread read fault.EmptySecret is = absurd is
unread read fault.FileNotReadable is = absurd is
unread read fault.NotHex is = absurd is
unread read (fault.ScriptWord line) is = absurd is
unread read fault.Write is = absurd is
unread read (fault.Dictionary f) is = absurd is
unread read (fault.Request f) is = absurd is
unread read (fault.Reply f) is = absurd is
unread read (fault.Control f) is = absurd is
unread read fault.PacketTooLong is = absurd is
unread read (fault.Policy f) is = absurd is

pub reply_unread : (dictionary : Dictionary) (secret request octets : List ℕ) (f : Fault) → IsUnreadPacket (decoded_reply dictionary secret (authenticator_of request) octets) f → MemoryOr (λ g. reply_to dictionary secret request octets ≡ Err g) f
reply_unread dictionary secret request octets f is = unread (decoded_reply dictionary secret (authenticator_of request) octets) f is

pub unchecked_unread : (dictionary : Dictionary) (octets : List ℕ) (f : Fault) → IsUnreadPacket (decoded_reply_unchecked dictionary octets) f → MemoryOr (λ g. packet_or_fault (decoded_reply_unchecked dictionary octets) ≡ Err g) f
unchecked_unread dictionary octets f is = unread (decoded_reply_unchecked dictionary octets) f is

pub request_unread : (dictionary : Dictionary) (secret : Option (List ℕ)) (octets : List ℕ) (f : Fault) → IsUnreadPacket (request_read dictionary secret octets) f → MemoryOr (λ g. packet_or_fault (request_read dictionary secret octets) ≡ Err g) f
request_unread dictionary secret octets f is = unread (request_read dictionary secret octets) f is

-- ---- replies that are the same

both : (a b : Bool) → (a && b) ≡ true → (a ≡ true) × (b ≡ true)
both true b h = (refl, h)
both false b h = cc

all_two : (a b : Bool) → a ≡ true → b ≡ true → (a && b) ≡ true
all_two a b p q = rw (p, q) refl

test_same : (comparison : Comparison) (captured : Packet) (own : Option Packet) → same_replies comparison captured own ≡ true → AreSameReplies comparison captured own
unfolding same_replies
test_same comparison captured None h = cc
test_same comparison captured (Some own) h =
    let parts = both (captured.code == own.code) (same_lists comparison.order (compared_pairs comparison captured.list) (compared_pairs comparison own.list)) h in
    ((Decides-eqb captured.code own.code).0 parts.0, test_means comparison.order (compared_pairs comparison captured.list) (compared_pairs comparison own.list) parts.1)

same_test : (comparison : Comparison) (captured : Packet) (own : Option Packet) → AreSameReplies comparison captured own → same_replies comparison captured own ≡ true
unfolding same_replies
same_test comparison captured None same = absurd same
same_test comparison captured (Some own) (code, lists) =
    all_two (captured.code == own.code) (same_lists comparison.order (compared_pairs comparison captured.list) (compared_pairs comparison own.list))
    ((Decides-eqb captured.code own.code).1 code) (means_test comparison.order (compared_pairs comparison captured.list) (compared_pairs comparison own.list) lists)

pub replies_law : (same : Bool) (comparison : Comparison) (captured : Packet) (own : Option Packet) → same ≡ same_replies comparison captured own → (same ≡ true) ↔ AreSameReplies comparison captured own
replies_law same comparison captured own test = (λ is. test_same comparison captured own (sym test ∙ is), λ are. test ∙ same_test comparison captured own are)
