-- The texts of reports: lists and results of runs, counts and notes of dictionaries.
use Rattle.std.specs.Prelude.{ℕ, Bool, false, ◌++◌, List, [], Option, None, Some, length, codes, decimal, if◌then◌else◌}
use Rattle.std.specs.List.{flat_map}
use Rattle.avp_lists.specs.declared.pairs.Pair.{Pair}
use Rattle.avp_lists.specs.declared.lists.State.{State}
use Rattle.avp_dict.specs.declared.entries.Note.{Note}
use Rattle.avp_dict.specs.declared.file.files.NamedFile.{NamedFile}
use Rattle.avp_dict.specs.Dictionary.{Dictionary}
use Rattle.avp_dict.specs.Counts.{counts_of}
use Rattle.avp_forms.specs.Printing.{printed_pair_name, printed_pair_text}
use Rattle.avp_forms.specs.declared.profiles.Profile.{Profile}
use Rattle.avp_forms.specs.declared.profiles.Profile.TheVariants.{Plain}
use Rattle.avp_unlang.specs.declared.codes.Code.{Code}
use Rattle.avp_unlang.specs.declared.codes.Code.TheVariants as code
use Rattle.radpolicy.specs.declared.jobs.Outcome.{Outcome}
use Rattle.hex.specs.Hex.{encode_lower}
use Rattle.avp_packet.specs.declared.packets.Packet.{Packet}
use Rattle.radpolicy.specs.Faults.{name_at}
use Rattle.radpolicy.specs.Replies.{Answer, Nothing, Sent, TooLong}
use Rattle.avp_unlang.specs.Meaning.{Outcome as End}

-- the line of a pair, by a dictionary, as a profile prints it
abbrev pub pair_line : Profile → Dictionary → Pair → List ℕ
pair_line profile dictionary pair =
    codes "  " ++ printed_pair_name profile pair.id pair.value dictionary ++ codes " = "
    ++ printed_pair_text profile pair.id pair.value dictionary ++ codes "\n"

-- a list: its name on a line, then a line for each pair
abbrev pub list_text : Profile → Dictionary → List ℕ → List Pair → List ℕ
list_text profile dictionary name pairs =
    name ++ codes "\n" ++ flat_map (pair_line profile dictionary) pairs

-- the three lists
abbrev pub state_text : Profile → Dictionary → State → List ℕ
state_text profile dictionary state =
    list_text profile dictionary (codes "request") state.request
    ++ list_text profile dictionary (codes "reply") state.reply
    ++ list_text profile dictionary (codes "control") state.control

abbrev pub code_text : Code → List ℕ
code_text code.Ok = codes "ok"
code_text code.Noop = codes "noop"
code_text code.Updated = codes "updated"
code_text code.Fail = codes "fail"
code_text code.Reject = codes "reject"

-- the line of the result
abbrev pub result_line : Code → Bool → List ℕ
result_line last stopped =
    codes "result " ++ code_text last ++ (if stopped then codes " stopped" else []) ++ codes "\n"

-- a report: its text, and what the job came to
pub record Report : Type 0 where
  pub text : List ℕ
  pub outcome : Outcome

-- ---- runs

-- the line of a packet
abbrev pub packet_line : List ℕ → List ℕ
packet_line octets = codes "packet " ++ encode_lower octets ++ codes "\n"

-- the line of what a run sends; none where its packet is too long
abbrev pub answer_line : Answer → Option (List ℕ)
answer_line Nothing = Some (codes "packet none\n")
answer_line (Sent octets) = Some (packet_line octets)
answer_line TooLong = None

-- the report of a run that ended so, with what it sends
abbrev pub run_report : Profile → Dictionary → End → List ℕ → Report
run_report profile dictionary end line = record {
  text = state_text profile dictionary end.state ++ result_line end.code end.stopped ++ line;
  outcome = record { code = Some end.code; stopped = end.stopped };
}

-- ---- packets

-- a count after its name
abbrev pub count_line : List ℕ → ℕ → List ℕ
count_line name count = name ++ codes " " ++ decimal count ++ codes "\n"

-- the report of a job that runs no policy
abbrev pub plain_report : List ℕ → Report
plain_report text = record { text = text; outcome = record { code = None; stopped = false } }

-- a packet's head, and the request list, which is printed plainly: there is no policy that asks for more
abbrev pub packet_text : Dictionary → Packet → List ℕ
packet_text dictionary packet =
    count_line (codes "code") packet.code ++ count_line (codes "identifier") packet.id
    ++ codes "authenticator " ++ encode_lower packet.authenticator ++ codes "\n"
    ++ list_text Plain dictionary (codes "request") packet.list

-- ---- what a dictionary holds

-- the line of a note: its file and its line
abbrev pub note_line : List NamedFile → Note → List ℕ
note_line files note =
    codes "note " ++ name_at files note.file ++ codes ":" ++ decimal note.line ++ codes "\n"

-- the files given, the names that they define, and the notes in the order of their lines
abbrev pub dictionary_text : List NamedFile → Dictionary → List ℕ
dictionary_text files dictionary =
    count_line (codes "files") (length files)
    ++ count_line (codes "attributes") (counts_of dictionary).attributes
    ++ count_line (codes "values") (counts_of dictionary).values
    ++ count_line (codes "vendors") (counts_of dictionary).vendors
    ++ count_line (codes "notes") (length dictionary.notes)
    ++ flat_map (note_line files) dictionary.notes

-- the line of a policy's size, where a policy was given
abbrev pub size_text : Option ℕ → List ℕ
size_text None = []
size_text (Some size) = count_line (codes "size") size

-- the report of a check
abbrev pub check_report : List NamedFile → Dictionary → Option ℕ → Report
check_report files dictionary size =
    plain_report (dictionary_text files dictionary ++ size_text size)
