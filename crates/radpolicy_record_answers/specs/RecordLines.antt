-- The lines of policies that changed the answer to a record.
use Rattle.std.specs.Prelude.{ℕ, ◌==◌, Bool, true, not, ◌&&◌, List, [], filter, Option, None, Some, Result, Ok, Err}
use Rattle.avp_lists.specs.declared.lists.List.{List as Name}
use Rattle.avp_lists.specs.declared.lists.List.TheVariants.{Control, Reply}
use Rattle.avp_lists.specs.declared.pairs.AttrId.{AttrId}
use Rattle.avp_lists.specs.declared.pairs.Pair.{Pair}
use Rattle.avp_packet.specs.declared.packets.Packet.{Packet}
use Rattle.avp_step.specs.Trace.{Entry as Step, trace_of}
use Rattle.avp_unlang.specs.Meaning.{Outcome as End}
use Rattle.radpolicy.specs.Starts.{Prepared, Start, entry_of}
use Rattle.radpolicy.specs.declared.faults.Fault.{Fault}
use Rattle.radpolicy_changing_lines.specs.ChangingLines.{last_entry}
use Rattle.radpolicy_changing_lines.specs.Differences.{lines_of}
use Rattle.radpolicy_changing_lines.specs.declared.differences.PolicyLine.{PolicyLine}
use Rattle.radpolicy_record_answers.specs.Captured.{compared_pairs}
use Rattle.radpolicy_record_answers.specs.Comparisons.{compared_list, ids_of, same_code, same_instances, same_stop}
use Rattle.radpolicy_record_answers.specs.Requests.{started}
use Rattle.radpolicy_record_answers.specs.declared.answers.RecordFault.{RecordFault}
use Rattle.radpolicy_record_answers.specs.declared.captured.Replies.{Replies}
use Rattle.radpolicy_record_answers.specs.declared.captured.Replies.TheVariants.{Both}
use Rattle.radpolicy_record_answers.specs.declared.comparisons.Comparison.{Comparison}
use Rattle.radpolicy_record_answers.specs.declared.requests.RecordRequest.{RecordRequest}
use Rattle.radpolicy_record_answers.specs.declared.requests.RecordSecret.{RecordSecret}
use Rattle.radpolicy_record_answers.specs.declared.requests.RecordSecret.TheVariants.{Known, Missing, Unknown}

-- ---- the run over a record's request

-- the steps of the run that begins so; none where none begins
abbrev pub run_trace : Result Start Fault → Option (List Step)
run_trace (Err f) = None
run_trace (Ok start) =
    Some (trace_of start.prepared.dictionary start.prepared.statements (entry_of start))

-- the steps of a policy's run over a record's request, by the secret if there is one
unfoldable pub request_trace : Prepared → RecordSecret → Result RecordRequest RecordFault
    → Option (List Step)
request_trace prepared _ (Err f) = None
request_trace prepared Missing (Ok request) = None
request_trace prepared (Known secret) (Ok request) =
    run_trace (started prepared (Some secret) request)
request_trace prepared Unknown (Ok request) = run_trace (started prepared None request)

-- ---- beside another policy's run

-- the attributes whose instances in two lists differ
abbrev pub differing_ids : List Pair → List Pair → List AttrId
differing_ids old new = filter (λ id. not (same_instances old new id)) (ids_of old new)

-- the attributes that differ in a list at the end of two runs, as far as it is compared
abbrev pub differing_in : Comparison → Name → End → End → List AttrId
differing_in comparison list old new =
    differing_ids (compared_list comparison list old) (compared_list comparison list new)

abbrev pub same_result : End → End → Bool
same_result old new = same_code old.code new.code && same_stop old.stopped new.stopped

-- the lines to which the difference between two ends of runs goes back
abbrev pub lines_between : Comparison → List Step → List Step → List PolicyLine
lines_between comparison new old =
    lines_of new old (not (same_result (last_entry old).outcome (last_entry new).outcome))
    (differing_in comparison Reply (last_entry old).outcome (last_entry new).outcome)
    (differing_in comparison Control (last_entry old).outcome (last_entry new).outcome)

-- the same where both policies ran
abbrev pub lines_beside : Comparison → Option (List Step) → Option (List Step) → List PolicyLine
lines_beside comparison (Some new) (Some old) = lines_between comparison new old
lines_beside comparison _ _ = []

-- ---- beside a reply that was captured

-- the lines to which the difference between the reply that was captured and the policy's own, which may be none, goes
-- back; there are no old lines
abbrev pub lines_of_reply : Comparison → List Step → Packet → Option Packet → List PolicyLine
lines_of_reply comparison new captured None = lines_of new [] true [] []
lines_of_reply comparison new captured (Some own) =
    lines_of new [] (not (captured.code == own.code))
    (differing_ids (compared_pairs comparison captured.list) (compared_pairs comparison own.list))
    []

abbrev pub lines_of_replies : Comparison → List Step → Replies → List PolicyLine
lines_of_replies comparison new (Both captured own) = lines_of_reply comparison new captured own
lines_of_replies comparison new _ = []

-- the same where the policy ran
abbrev pub lines_alone : Comparison → Option (List Step) → Replies → List PolicyLine
lines_alone comparison None replies = []
lines_alone comparison (Some new) replies = lines_of_replies comparison new replies
