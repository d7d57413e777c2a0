-- The request of a record with the reply and control lists with which its run begins, and what a policy answers to it.
use Rattle.std.specs.Prelude.{ℕ, List, [], Option, None, Some, Result, Ok, Err}
use Rattle.std.specs.Option.{option_map}
use Rattle.avp_lists.specs.declared.pairs.Pair.{Pair}
use Rattle.avp_dict.specs.Dictionary.{Dictionary}
use Rattle.avp_dict.specs.declared.request.faults.LineFault.{LineFault}
use Rattle.avp_packet.specs.Decoded.{decoded}
use Rattle.avp_packet.specs.Unchecked.{decoded_unchecked}
use Rattle.avp_packet.specs.declared.faults.PacketFault.{PacketFault}
use Rattle.avp_packet.specs.declared.packets.Packet.{Packet}
use Rattle.radpolicy.specs.RunOutcomes.{RunOutcome, outcome_of}
use Rattle.radpolicy.specs.Starts.{Prepared, Start, pairs_refusal, start_of}
use Rattle.radpolicy.specs.declared.faults.Fault.{Fault}
use Rattle.radpolicy.specs.declared.faults.Fault.TheVariants as fault
use Rattle.radpolicy.specs.declared.jobs.Form.TheVariants.{Hex}
use Rattle.radpolicy_record_answers.specs.Answers.{answered_record, outcome_or_fault}
use Rattle.radpolicy_record_answers.specs.declared.answers.RecordFault.{RecordFault}
use Rattle.radpolicy_record_answers.specs.declared.answers.RecordFault.TheVariants.{NoClient}
use Rattle.radpolicy_record_answers.specs.declared.requests.RecordRequest.{RecordRequest}
use Rattle.radpolicy_record_answers.specs.declared.requests.RecordSecret.{RecordSecret}
use Rattle.radpolicy_record_answers.specs.declared.requests.RecordSecret.TheVariants.{Known, Missing, Unknown}

-- one whose run begins with empty lists
abbrev pub request_alone : List ℕ → RecordRequest
request_alone octets = record { octets = octets; reply = []; control = [] }

-- ---- by which secret it is read

-- the secret of a record's source, if that has one
abbrev pub or_missing : Option (List ℕ) → RecordSecret
or_missing None = Missing
or_missing (Some secret) = Known secret

-- what the octets of a request are read as, by the secret if one is known
abbrev pub request_read : Dictionary → Option (List ℕ) → List ℕ → Result Packet PacketFault
request_read dictionary (Some secret) octets = decoded dictionary secret octets
request_read dictionary None octets = decoded_unchecked dictionary octets

-- ---- what a run begins with

-- of two lists that may be refused, the reply list comes first
abbrev pub first_refusal : Option LineFault → Option LineFault → Option Fault
first_refusal (Some f) control = Some (fault.Reply f)
first_refusal None control = option_map fault.Control control

-- why a run does not begin with these lists: a pair does not fit the dictionary, or there are too many
abbrev pub lists_refusal : Dictionary → List Pair → List Pair → Option Fault
lists_refusal dictionary reply control =
    first_refusal (pairs_refusal dictionary reply) (pairs_refusal dictionary control)

abbrev pub start_unless : Option Fault → Start → Result Start Fault
start_unless None start = Ok start
start_unless (Some f) start = Err f

-- the start of a run over a packet that was read, with the lists of a record
abbrev pub start_read : Prepared → Option (List ℕ) → RecordRequest → Result Packet PacketFault
    → Result Start Fault
start_read prepared secret given (Err f) = Err (fault.Packet f)
start_read prepared secret given (Ok request) =
    start_unless (lists_refusal prepared.dictionary given.reply given.control)
    (record (start_of prepared secret Hex request) {
      reply = given.reply;
      control = given.control;
    })

-- what a policy's run over the request of a record begins with, or why there is none
unfoldable pub started : Prepared → Option (List ℕ) → RecordRequest → Result Start Fault
started prepared secret given =
    start_read prepared secret given (request_read prepared.dictionary secret given.octets)

-- ---- answers

abbrev pub answer_of : Result Start Fault → Result RunOutcome Fault
answer_of (Ok start) = outcome_or_fault (outcome_of start)
answer_of (Err f) = Err f

-- what a policy answers to the request of a record: the outcome of its run, or why there is none
unfoldable pub answered_from : Prepared → Option (List ℕ) → RecordRequest
    → Result RunOutcome Fault
answered_from prepared secret given = answer_of (started prepared secret given)

-- what a policy answers to a request, by the secret if there is one
abbrev pub answer_by : Prepared → RecordSecret → Result RecordRequest RecordFault
    → Result RunOutcome RecordFault
answer_by prepared _ (Err f) = Err f
answer_by prepared Missing (Ok request) = Err NoClient
answer_by prepared (Known secret) (Ok request) =
    answered_record (answered_from prepared (Some secret) request)
answer_by prepared Unknown (Ok request) =
    answered_record (answered_from prepared None request)
