-- What is said of a record as JSON (RFC 8259): an object a line.
use Rattle.std.specs.Prelude.{ℕ, Bool, true, false, if◌then◌else◌, List, [], ◌∷◌, ◌++◌, codes, drop, filter, map, Option, None, Some, Result, Ok, Err}
use Rattle.std.specs.List.{slice_split}
use Rattle.avp_dict.specs.Dictionary.{Dictionary}
use Rattle.avp_dict.specs.Lines.{is_line_end}
use Rattle.avp_dict.specs.Words.{is_word}
use Rattle.avp_lists.specs.declared.lists.List.TheVariants.{Control, Reply}
use Rattle.avp_lists.specs.declared.pairs.Pair.{Pair}
use Rattle.avp_packet.specs.declared.packets.Packet.{Packet}
use Rattle.avp_unlang.specs.Meaning.{Outcome as End}
use Rattle.radpolicy.specs.Reports.{code_text}
use Rattle.radpolicy.specs.RunOutcomes.{RunOutcome}
use Rattle.radpolicy.specs.declared.run_outcomes.Reply.{Reply as Sent}
use Rattle.radpolicy.specs.declared.run_outcomes.Reply.TheVariants as sent
use Rattle.radpolicy_common.specs.Secrets.{Redaction}
use Rattle.radpolicy_replay_layouts.specs.JsonTexts.{flag, string, strings}
use Rattle.radpolicy_record_answers.specs.Answers.{hides_reply, refusal_shown, reply_shown}
use Rattle.radpolicy_record_answers.specs.Captured.{captured_fault_shown, captured_lines, packets_lines, reply_name, same_replies}
use Rattle.radpolicy_record_answers.specs.Comparisons.{same_answers}
use Rattle.radpolicy_record_answers.specs.Differences.{added_line, change_of, removed_line}
use Rattle.radpolicy_record_answers.specs.declared.answers.RecordFault.{RecordFault}
use Rattle.radpolicy_record_answers.specs.declared.captured.Replies.{Replies}
use Rattle.radpolicy_record_answers.specs.declared.captured.Replies.TheVariants.{Both, Challenge, Refused, Unanswered, Unread}
use Rattle.radpolicy_record_answers.specs.declared.comparisons.Comparison.{Comparison}
use Rattle.radpolicy_record_answers.specs.declared.comparisons.Told.{Told}
use Rattle.radpolicy_record_answers.specs.declared.comparisons.Told.TheVariants.{All, Different}
use Rattle.radpolicy_record_answers.specs.declared.verdicts.Verdict.{Verdict}
use Rattle.radpolicy_record_answers.specs.declared.verdicts.Verdict.TheVariants as verdict

-- ---- answers

-- the result, and whether the run was stopped
abbrev pub result_members : End → List ℕ
result_members end = codes "\"result\":" ++ string (code_text end.code)
    ++ codes ",\"stopped\":" ++ flag end.stopped

abbrev pub fault_member : List ℕ → List ℕ
fault_member words = codes "\"fault\":" ++ string words

-- the result, or why the record is refused
abbrev pub end_members : Result RunOutcome RecordFault → List ℕ
end_members (Ok outcome) = result_members outcome.end
end_members (Err f) = fault_member (refusal_shown f)

-- the reply in hexadecimal digits, unless it is hidden, or null
abbrev pub reply_value : Bool → Sent → List ℕ
reply_value hides (sent.Packet octets) = string (reply_shown hides (sent.Packet octets))
reply_value hides _ = codes "null"

-- an answer that is not compared
abbrev pub answer_members : Redaction → Result RunOutcome RecordFault → List ℕ
answer_members redaction (Ok outcome) = codes "," ++ result_members outcome.end
    ++ codes ",\"reply\":"
    ++ reply_value (hides_reply redaction outcome) outcome.reply
answer_members redaction (Err f) = codes "," ++ fault_member (refusal_shown f)

-- ---- answers that are compared

-- lines, without so many blanks before each
abbrev pub line_strings : ℕ → List ℕ → List (List ℕ)
line_strings blanks lines = map (drop blanks) (filter is_word (slice_split is_line_end lines))

-- lines that are indented so, below this name
abbrev pub lines_member : List ℕ → ℕ → List ℕ → List ℕ
lines_member name blanks lines =
    codes ",\"" ++ name ++ codes "\":" ++ strings (line_strings blanks lines)

-- how the list of this name differs
abbrev pub change_member : List ℕ → List ℕ → List ℕ
change_member name lines = lines_member name 2 lines

-- how the reply and control lists differ, where both ran
abbrev pub change_members : Redaction → Comparison → Result RunOutcome RecordFault
    → Result RunOutcome RecordFault → List ℕ
change_members redaction comparison (Ok old) (Ok new) =
    change_member (codes "reply_changes") (change_of redaction comparison Reply old new)
    ++ change_member (codes "control_changes") (change_of redaction comparison Control old new)
change_members redaction comparison _ _ = []

-- a record that two policies answer otherwise
abbrev pub difference_members : Redaction → Comparison → Result RunOutcome RecordFault
    → Result RunOutcome RecordFault → List ℕ
difference_members redaction comparison old new =
    codes ",\"old\":{" ++ end_members old ++ codes "},\"new\":{" ++ end_members new ++ codes "}"
    ++ change_members redaction comparison old new

-- the answers of two policies
unfoldable pub answers_members : Redaction → Comparison → Result RunOutcome RecordFault
    → Result RunOutcome RecordFault → List ℕ
answers_members redaction comparison old new =
    if same_answers comparison old new then codes "," ++ end_members new
    else difference_members redaction comparison old new

-- ---- replies that are compared

-- the name of a reply with this code
unfoldable pub reply_string : ℕ → List ℕ
reply_string code = string (reply_name code)

-- the list of the reply that was captured, where it is shown
abbrev pub captured_list_member : Redaction → Dictionary → Comparison → Packet → List ℕ
captured_list_member redaction dictionary comparison captured =
    if comparison.shows_replies
    then lines_member (codes "captured_list") 4 (captured_lines dictionary redaction captured)
    else []

-- that reply
unfoldable pub captured_member : Redaction → Dictionary → Comparison → Packet → List ℕ
captured_member redaction dictionary comparison captured =
    codes ",\"captured\":" ++ reply_string captured.code
    ++ captured_list_member redaction dictionary comparison captured

-- the name of a reply, and how its list differs
unfoldable pub named_changes : ℕ → List ℕ → List ℕ
named_changes code lines = reply_string code ++ change_member (codes "reply_changes") lines

-- how the policy's own reply differs
abbrev pub own_reply_members : (Pair → List ℕ) → (Pair → List ℕ) → Comparison → Packet → Packet
    → List ℕ
own_reply_members removed added comparison captured own =
    named_changes own.code (packets_lines removed added comparison captured own)

-- the same, where it sends one
abbrev pub own_members : Redaction → Dictionary → Comparison → Packet → Option Packet → List ℕ
own_members redaction dictionary comparison captured None = codes "null"
own_members redaction dictionary comparison captured (Some own) = own_reply_members
    (removed_line dictionary redaction) (added_line dictionary redaction) comparison captured own

abbrev pub other_members : Redaction → Dictionary → Comparison → Packet → Option Packet → List ℕ
other_members redaction dictionary comparison captured own =
    captured_member redaction dictionary comparison captured
    ++ codes ",\"own\":" ++ own_members redaction dictionary comparison captured own

-- the reply that was captured, and the policy's own
unfoldable pub replies_members : Redaction → Dictionary → Comparison → Replies → List ℕ
replies_members redaction dictionary comparison (Refused f) =
    codes "," ++ fault_member (refusal_shown f)
replies_members redaction dictionary comparison Unanswered = []
replies_members redaction dictionary comparison (Unread f) =
    codes "," ++ fault_member (captured_fault_shown f)
replies_members redaction dictionary comparison Challenge = []
replies_members redaction dictionary comparison (Both captured own) =
    if same_replies comparison captured own
    then captured_member redaction dictionary comparison captured
    else other_members redaction dictionary comparison captured own

-- ---- records

abbrev pub verdict_text : Verdict → List ℕ
verdict_text verdict.Answered = codes "answered"
verdict_text verdict.Same = codes "same"
verdict_text verdict.Different = codes "different"
verdict_text verdict.Unanswered = codes "unanswered"
verdict_text verdict.Challenged = codes "challenged"
verdict_text verdict.Refused = codes "refused"
verdict_text verdict.LeftOut = codes "left out"

-- a record of this name, of which that became, with these members
abbrev pub json_line : List ℕ → Verdict → List ℕ → List ℕ
json_line name became members = codes "{\"record\":" ++ string name
    ++ codes ",\"verdict\":" ++ string (verdict_text became) ++ members ++ codes "}\n"

-- a record of which this became has a line
abbrev pub is_told : Told → Verdict → Bool
is_told Different verdict.Different = true
is_told Different _ = false
is_told All _ = true

-- the same, where answers are compared and where they are not
abbrev pub has_line : Option Comparison → Verdict → Bool
has_line None became = true
has_line (Some comparison) became = is_told comparison.told became

abbrev pub line_if : Bool → List ℕ → List ℕ
line_if told line = if told then line else []
