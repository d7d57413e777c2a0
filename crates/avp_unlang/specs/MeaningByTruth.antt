-- What a policy makes of a state and a code where each condition is decided by its truth alone, and no text looks at
-- what was captured.
use Rattle.std.specs.Prelude.{if◌then◌else◌, List, [], ◌∷◌, map, Option, Some, None}
use Rattle.avp_lists.specs.declared.lists.State.{State}
use Rattle.avp_dict.specs.Dictionary.{Dictionary}
use Rattle.avp_unlang.specs.Meaning.{Edited, Failed, LineResult, Outcome, after_failure, after_word, line_result, running}
use Rattle.avp_unlang.specs.Truth.{truth_by}
use Rattle.avp_unlang.specs.declared.codes.Code.{Code}
use Rattle.avp_unlang.specs.declared.tree.Cond.{Cond}
use Rattle.avp_unlang.specs.declared.tree.Line.{Line}
use Rattle.avp_unlang.specs.declared.tree.Statement.{Statement}
use Rattle.avp_unlang.specs.declared.tree.Statement.TheFolds.{fold-Statement}
use Rattle.avp_unlang.specs.declared.tree.Statement.TheOpen.{Statement-F, Branch-F, Update, If, Transaction, Word}

-- what follows from a state and a code
abbrev pub Meaning : Type 0
Meaning = State → Code → Outcome

-- a condition, and what its block means
pub record Choice : Type 0 where
  pub cond : Cond
  pub block : Meaning

-- goes on from an outcome, unless it is a stop
abbrev pub unless_stop : Outcome → Meaning → Outcome
unless_stop o next = if o.stopped then o else next o.state o.code

-- one after the other
abbrev pub in_order : List Meaning → Meaning
in_order [] s c = running s c
in_order (m ∷ ms) s c = unless_stop (m s c) (in_order ms)

-- the lines of an update, each with the lines before it done; one that fails gives the lists at the entry back
abbrev pub after_line : State → LineResult → Code → Meaning → Outcome
after_line entry (Edited s) c others = others s c
after_line entry (Failed why) c others = after_failure entry

abbrev pub all_lines : Dictionary → State → List Line → Meaning
all_lines dictionary entry [] s c = running s c
all_lines dictionary entry (line ∷ others) s c =
    after_line entry (line_result dictionary line s) c (all_lines dictionary entry others)

-- the first branch whose condition is true, else the last block
abbrev pub first_true : Dictionary → List Choice → Meaning → Meaning
first_true dictionary [] otherwise s c = otherwise s c
first_true dictionary (b ∷ bs) otherwise s c =
    if truth_by dictionary b.cond s c then b.block s c
    else first_true dictionary bs otherwise s c

abbrev pub if_given : Option (List Meaning) → Meaning
if_given None s c = running s c
if_given (Some block) s c = in_order block s c

-- a transaction whose body stopped gives the lists at its entry back, and the run goes on
abbrev pub after_body : State → Outcome → Outcome
after_body entry o = if o.stopped then running entry o.code else o

abbrev pub statement_meaning : Dictionary → Statement-F Meaning Choice → Meaning
statement_meaning dictionary (Update n lines) s c = all_lines dictionary s lines s c
statement_meaning dictionary (If branches otherwise) s c =
    first_true dictionary branches (if_given otherwise) s c
statement_meaning dictionary (Transaction n block) s c = after_body s (in_order block s c)
statement_meaning dictionary (Word n word) s c = after_word word s

abbrev pub branch_meaning : Branch-F Meaning Choice → Choice
branch_meaning b = record { cond = b.cond; block = in_order b.block }

-- what a statement means, each statement inside it with its meaning
abbrev pub meaning : Dictionary → Statement → Meaning
meaning dictionary = fold-Statement Meaning Choice (statement_meaning dictionary) branch_meaning

-- what a policy means
abbrev pub meaning_by_truth : Dictionary → List Statement → Meaning
meaning_by_truth dictionary statements = in_order (map (meaning dictionary) statements)
