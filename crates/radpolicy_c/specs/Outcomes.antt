-- What is told of a run in the caller's rooms: all, or nothing where one of them is too short.
use Rattle.std.specs.Prelude.{ℕ, Bool, ◌||◌, List, if◌then◌else◌, length}
use Rattle.radpolicy_c.specs.Rooms.{is_short}
use Rattle.radpolicy_c.specs.declared.outcomes.RadpolicyLists.{RadpolicyLists}
use Rattle.radpolicy_c.specs.declared.outcomes.RadpolicyOutcome.{RadpolicyOutcome}
use Rattle.radpolicy_c.specs.declared.pairs.RadpolicyPair.{RadpolicyPair}
use Rattle.radpolicy_c.specs.declared.runs.Ran.{Ran}
use Rattle.radpolicy_c.specs.declared.statuses.Status.{Status}
use Rattle.radpolicy_c.specs.declared.statuses.Status.TheVariants.{TooShort}

abbrev pub outcome_told : Ran → RadpolicyOutcome
outcome_told ran = record {
  packet_length = length ran.packet;
  report_length = length ran.octets;
  code = ran.code;
  sends = ran.sends;
  stopped = ran.stopped;
}

-- whether the rooms for the packet and the report are too short for what the run tells
abbrev pub are_short : Ran → List ℕ → List ℕ → Bool
are_short ran packet report = is_short packet ran.packet || is_short report ran.octets

abbrev pub run_status : Ran → List ℕ → List ℕ → Status
run_status ran packet report = if are_short ran packet report then TooShort else ran.status

-- ---- with the pairs

abbrev pub lists_told : Ran → RadpolicyLists
lists_told ran = record {
  packet_length = length ran.packet;
  octets_length = length ran.octets;
  request_count = ran.lists.request_count;
  reply_count = ran.lists.reply_count;
  control_count = ran.lists.control_count;
  code = ran.code;
  sends = ran.sends;
  stopped = ran.stopped;
}

-- whether the rooms for the packet, the pairs and their octets are too short for what the run tells
abbrev pub are_lists_short : Ran → List ℕ → List RadpolicyPair → List ℕ → Bool
are_lists_short ran packet pairs octets =
    are_short ran packet octets || is_short pairs ran.lists.pairs

abbrev pub lists_status : Ran → List ℕ → List RadpolicyPair → List ℕ → Status
lists_status ran packet pairs octets =
    if are_lists_short ran packet pairs octets then TooShort else ran.status
