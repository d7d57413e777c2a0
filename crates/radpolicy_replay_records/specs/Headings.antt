-- What is said of a record before its answer: its name, and what is shown of its request.
use Rattle.std.specs.Prelude.{ℕ, List, [], ◌∷◌, ◌++◌, codes}
use Rattle.avp_lists.specs.declared.pairs.AttrId.{AttrId}
use Rattle.radpolicy_record_answers.specs.Records.{or_number}
use Rattle.radpolicy_record_answers.specs.ShownRequests.{in_row, request_shown}
use Rattle.radpolicy_record_answers.specs.declared.entries.Entry.{Entry}
use Rattle.radpolicy_record_answers.specs.declared.requests.RecordSecret.{RecordSecret}
use Rattle.radpolicy_record_answers.specs.declared.shown_requests.Shown.{Shown}
use Rattle.radpolicy_replay_records.specs.JsonEntries.{lines_member}
use Rattle.radpolicy_replay_records.specs.Layouts.{without_last}

-- the name of a record with this number
abbrev pub name_of : ℕ → Entry → List ℕ
name_of number entry = without_last (or_number number entry.identifier)

-- lines in brackets with a blank after them; nothing where there is no line
abbrev pub in_brackets : List ℕ → List ℕ
in_brackets [] = []
in_brackets (o ∷ os) = codes "[" ++ in_row (without_last (o ∷ os)) ++ codes "] "

-- the name of a record with this number and what is shown of its request, each with a blank after it
unfoldable pub heading : Shown → ℕ → RecordSecret → Entry → List ℕ
heading shown number secret entry = or_number number entry.identifier
    ++ in_brackets (request_shown shown secret entry.request)

-- what is shown of a request as a member of an object, where attributes are shown
abbrev pub lines_shown : List AttrId → List ℕ → List ℕ
lines_shown [] lines = []
lines_shown (id ∷ ids) lines = lines_member (codes "request") 0 lines

unfoldable pub request_member : Shown → RecordSecret → Entry → List ℕ
request_member shown secret entry =
    lines_shown shown.ids.now (request_shown shown secret entry.request)
