-- What a policy makes of a state and a code, by recursion over its tree.
use Rattle.std.specs.Prelude.{Bool, true, false, nat_le, if◌then◌else◌, List, [], ◌∷◌, length, map, Option, Some, None, Result, Ok, Err}
use Rattle.avp_lists.specs.Selections.{edited_list_selected, edited_selected}
use Rattle.avp_lists.specs.States.{max_pairs}
use Rattle.avp_lists.specs.declared.pairs.Pair.{Pair}
use Rattle.avp_lists.specs.declared.edits.Edit.{Edit}
use Rattle.avp_lists.specs.declared.lists.State.{State}
use Rattle.avp_lists.specs.declared.tags.Selection.{Selection}
use Rattle.avp_dict.specs.Dictionary.{Dictionary}
use Rattle.avp_unlang.specs.Captures.{Captures, filled, no_captures}
use Rattle.avp_unlang.specs.Resolutions.{resolution}
use Rattle.avp_unlang.specs.Evaluations.{evaluated}
use Rattle.avp_unlang.specs.declared.codes.Code.{Code}
use Rattle.avp_unlang.specs.declared.codes.Code.TheVariants as code
use Rattle.avp_unlang.specs.declared.meaning.reasons.Reason.{Reason}
use Rattle.avp_unlang.specs.declared.meaning.reasons.Reason.TheVariants.{Absent, NotValue, TooLong, Full}
use Rattle.avp_unlang.specs.declared.meaning.resolving.Unresolved.{Unresolved}
use Rattle.avp_unlang.specs.declared.meaning.resolving.Unresolved.TheVariants as unresolved
use Rattle.avp_unlang.specs.declared.tree.Cond.{Cond}
use Rattle.avp_unlang.specs.declared.tree.Line.{Line}
use Rattle.avp_unlang.specs.declared.tree.Statement.{Statement}
use Rattle.avp_unlang.specs.declared.tree.Statement.TheFolds.{fold-Statement}
use Rattle.avp_unlang.specs.declared.tree.Statement.TheOpen.{Statement-F, Branch-F, Update, If, Transaction, Word}

-- ---- where a run is

pub record Outcome : Type 0 where
  pub state : State
  pub code : Code
  pub stopped : Bool

-- a run that goes on
abbrev pub running : State → Code → Outcome
running s c = record { state = s; code = c; stopped = false }

-- a word of these stops the run
abbrev pub stops : Code → Bool
stops code.Ok = false
stops code.Noop = false
stops code.Updated = false
stops code.Fail = true
stops code.Reject = true

-- a word sets the code
abbrev pub after_word : Code → State → Outcome
after_word word s = record { state = s; code = word; stopped = stops word }

-- an update that failed: the lists at its entry, and a stop
abbrev pub after_failure : State → Outcome
after_failure entry = record { state = entry; code = code.Fail; stopped = true }

-- ---- update lines

-- what an update line does: a new state, or the reason why it fails
pub data LineResult : Type 0 where
  Edited : State → LineResult
  Failed : Reason → LineResult

-- the edit of a line, unless its list would have too many pairs
abbrev pub edit_result : Selection → Edit → State → LineResult
edit_result selection edit s =
    if nat_le (length (edited_list_selected selection edit s)) max_pairs
    then Edited (edited_selected selection edit s)
    else Failed Full

abbrev pub edit_of : Line → Pair → Edit
edit_of line pair = record { list = line.list; op = line.op; pair = pair }

-- why a line without a pair fails; no definition is short of memory, so the last case never comes
abbrev pub reason : Unresolved → Reason
reason unresolved.Absent = Absent
reason unresolved.NotValue = NotValue
reason unresolved.TooLong = TooLong
reason unresolved.Memory = NotValue

abbrev pub result_from : Line → State → Result Pair Unresolved → LineResult
result_from line s (Ok pair) = edit_result line.selection (edit_of line pair) s
result_from line s (Err why) = Failed (reason why)

unfoldable pub line_result : Dictionary → Line → State → LineResult
line_result dictionary line s = result_from line s (resolution dictionary line s)

-- ---- meanings

-- a point of a run: where it is, and what was captured last
pub record Point : Type 0 where
  pub outcome : Outcome
  pub captures : Captures

-- a point where the run goes on
abbrev pub going_on : State → Code → Captures → Point
going_on s c captures = record { outcome = running s c; captures = captures }

-- what follows from a state, a code and what was captured
abbrev pub Meaning : Type 0
Meaning = State → Code → Captures → Point

-- a condition, and what its block means
pub record Choice : Type 0 where
  pub cond : Cond
  pub block : Meaning

-- goes on from a point, unless the run stopped
abbrev pub unless_stop : Point → Meaning → Point
unless_stop p next =
    if p.outcome.stopped then p else next p.outcome.state p.outcome.code p.captures

-- one after the other
abbrev pub in_order : List Meaning → Meaning
in_order [] s c captures = going_on s c captures
in_order (m ∷ ms) s c captures = unless_stop (m s c captures) (in_order ms)

-- the lines of an update, each with the lines before it done; one that fails gives the lists at the entry back
abbrev pub after_line : State → LineResult → Code → Captures → Meaning → Point
after_line entry (Edited s) c captures others = others s c captures
after_line entry (Failed why) c captures others =
    record { outcome = after_failure entry; captures = captures }

-- what was captured is put into their texts
abbrev pub all_lines : Dictionary → State → List Line → Meaning
all_lines dictionary entry [] s c captures = going_on s c captures
all_lines dictionary entry (line ∷ others) s c captures =
    after_line entry (line_result dictionary (filled captures line) s) c captures
    (all_lines dictionary entry others)

-- the first branch whose condition is true, else the last block; each condition is evaluated with what those before it
-- captured
abbrev pub first_true : Dictionary → List Choice → Meaning → Meaning
first_true dictionary [] otherwise s c captures = otherwise s c captures
first_true dictionary (b ∷ bs) otherwise s c captures =
    let e = evaluated dictionary b.cond s c captures in
    if e.truth then b.block s c e.captures else first_true dictionary bs otherwise s c e.captures

abbrev pub if_given : Option (List Meaning) → Meaning
if_given None s c captures = going_on s c captures
if_given (Some block) s c captures = in_order block s c captures

-- a transaction whose body stopped gives the lists at its entry back, and the run goes on; what was captured stays
abbrev pub after_body : State → Point → Point
after_body entry p =
    if p.outcome.stopped then going_on entry p.outcome.code p.captures else p

abbrev pub statement_meaning : Dictionary → Statement-F Meaning Choice → Meaning
statement_meaning dictionary (Update n lines) s c captures =
    all_lines dictionary s lines s c captures
statement_meaning dictionary (If branches otherwise) s c captures =
    first_true dictionary branches (if_given otherwise) s c captures
statement_meaning dictionary (Transaction n block) s c captures =
    after_body s (in_order block s c captures)
statement_meaning dictionary (Word n word) s c captures =
    record { outcome = after_word word s; captures = captures }

abbrev pub branch_meaning : Branch-F Meaning Choice → Choice
branch_meaning b = record { cond = b.cond; block = in_order b.block }

-- what a statement means, each statement inside it with its meaning
abbrev pub meaning : Dictionary → Statement → Meaning
meaning dictionary = fold-Statement Meaning Choice (statement_meaning dictionary) branch_meaning

abbrev pub block_meaning : Dictionary → List Statement → Meaning
block_meaning dictionary statements = in_order (map (meaning dictionary) statements)

-- what a policy means: where it begins, nothing was captured
abbrev pub meaning_of : Dictionary → List Statement → State → Code → Outcome
meaning_of dictionary statements s c = (block_meaning dictionary statements s c no_captures).outcome
