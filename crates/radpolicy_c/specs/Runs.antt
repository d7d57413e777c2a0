-- What a run tells C.
use Rattle.std.specs.Prelude.{◌≡◌, ◌⊎◌, ℕ, false, List, [], Option, None, Some}
use Rattle.avp_unlang.specs.declared.codes.Code.{Code}
use Rattle.avp_unlang.specs.declared.codes.Code.TheVariants as code
use Rattle.radpolicy.specs.Faults.{fault_line}
use Rattle.radpolicy.specs.RunOutcomes.{RunOutcome, outcome_of, outcome_report}
use Rattle.radpolicy.specs.Starts.{Prepared, Start}
use Rattle.radpolicy.specs.declared.faults.Fault.{Fault}
use Rattle.radpolicy.specs.declared.faults.Fault.TheVariants as fault
use Rattle.radpolicy.specs.declared.run_outcomes.Reply.{Reply}
use Rattle.radpolicy.specs.declared.run_outcomes.Reply.TheVariants as reply
use Rattle.radpolicy_c.specs.Pairs.{no_lists, outcome_lists, outcome_octets}
use Rattle.radpolicy_c.specs.Requests.{BeginsRun, IsStartRefusal, secret_given}
use Rattle.radpolicy_c.specs.declared.pairs.ToldLists.{ToldLists}
use Rattle.radpolicy_c.specs.declared.requests.RadpolicyRequest.{RadpolicyRequest}
use Rattle.radpolicy_c.specs.declared.runs.Ran.{Ran}
use Rattle.radpolicy_c.specs.declared.runs.Wanted.{Wanted}
use Rattle.radpolicy_c.specs.declared.runs.Wanted.TheVariants.{Pairs, Reply as TheReply, Report}
use Rattle.radpolicy_c.specs.declared.statuses.Status.{Status}
use Rattle.radpolicy_c.specs.declared.statuses.Status.TheVariants.{Closed, Done, NoMemory, Refused}

abbrev pub code_number : Code → ℕ
code_number code.Ok = 0
code_number code.Noop = 1
code_number code.Updated = 2
code_number code.Fail = 3
code_number code.Reject = 4

abbrev pub sends_number : Reply → ℕ
sends_number reply.Unmade = 0
sends_number reply.Nothing = 1
sends_number (reply.Packet octets) = 2

abbrev pub packet_of : Reply → List ℕ
packet_of (reply.Packet octets) = octets
packet_of _ = []

-- beside the reply no octets, or the report as the command `run` prints it, or the octets of the pairs
abbrev pub octets_wanted : Wanted → RunOutcome → List ℕ
octets_wanted TheReply outcome = []
octets_wanted Report outcome = (outcome_report outcome).text
octets_wanted Pairs outcome = outcome_octets outcome

abbrev pub lists_wanted : Wanted → RunOutcome → ToldLists
lists_wanted TheReply outcome = no_lists
lists_wanted Report outcome = no_lists
lists_wanted Pairs outcome = outcome_lists outcome

-- what is told of an outcome: its numbers, its packet, and the octets and the lists that are wanted
abbrev pub told_of : Wanted → RunOutcome → Ran
told_of wanted outcome = record {
  status = Done;
  code = code_number outcome.end.code;
  sends = sends_number outcome.reply;
  stopped = outcome.end.stopped;
  packet = packet_of outcome.reply;
  octets = octets_wanted wanted outcome;
  lists = lists_wanted wanted outcome;
}

-- a status, with a line or no octets
abbrev pub only_told : Status → List ℕ → Ran
only_told status octets = record {
  status = status;
  code = 0;
  sends = 0;
  stopped = false;
  packet = [];
  octets = octets;
  lists = no_lists;
}

-- the outcome of the run from this start is told
abbrev pub IsRunFrom : Wanted → Start → Ran → Type 0
IsRunFrom wanted start ran =
    (outcome : RunOutcome) × (outcome_of start ≡ Some outcome) × (ran ≡ told_of wanted outcome)

-- the line of this fault is told
abbrev pub IsLineOf : Fault → Ran → Type 0
IsLineOf f ran = ran ≡ only_told Refused (fault_line [] f)

-- what the run from a start tells, by the status
abbrev pub RunsBegun : Wanted → Start → Status → Ran → Type 0
RunsBegun wanted start Done ran = IsRunFrom wanted start ran
RunsBegun wanted start Refused ran = (outcome_of start ≡ None) × IsLineOf fault.PacketTooLong ran
RunsBegun wanted start NoMemory ran = ran ≡ only_told NoMemory []
RunsBegun wanted start _ ran = ⊥

-- no run begins, or it comes to nothing since a packet is too long
abbrev pub IsRefused : Prepared → Option (List ℕ) → RadpolicyRequest → Ran → Type 0
IsRefused prepared secret asked ran =
    ((f : Fault) × IsStartRefusal prepared secret asked f × IsLineOf f ran)
    ⊎ ((start : Start) × BeginsRun prepared secret asked start
    × (outcome_of start ≡ None) × IsLineOf fault.PacketTooLong ran)

-- what a run of the request with this secret tells, by the status
abbrev pub RunsWith
    : Wanted → Prepared → Option (List ℕ) → RadpolicyRequest → Status → Ran → Type 0
RunsWith wanted prepared secret asked Done ran =
    (start : Start) × BeginsRun prepared secret asked start × IsRunFrom wanted start ran
RunsWith wanted prepared secret asked Refused ran = IsRefused prepared secret asked ran
RunsWith wanted prepared secret asked NoMemory ran = ran ≡ only_told NoMemory []
RunsWith wanted prepared secret asked _ ran = ⊥

-- what a run of the request tells; a secret of no octets is refused
abbrev pub RunsBy
    : Wanted → Option (List ℕ) → Prepared → RadpolicyRequest → Ran → Type 0
RunsBy wanted (Some []) prepared asked ran =
    IsLineOf fault.EmptySecret ran ⊎ (ran ≡ only_told NoMemory [])
RunsBy wanted secret prepared asked ran = RunsWith wanted prepared secret asked ran.status ran

abbrev pub RunsOpen : Wanted → Prepared → RadpolicyRequest → Ran → Type 0
RunsOpen wanted prepared asked ran = RunsBy wanted (secret_given asked) prepared asked ran

-- what a run of the policy that is held tells, of which this is wanted
abbrev pub Runs : Wanted → Option Prepared → RadpolicyRequest → Ran → Type 0
Runs wanted None asked ran = ran ≡ only_told Closed []
Runs wanted (Some prepared) asked ran = RunsOpen wanted prepared asked ran
