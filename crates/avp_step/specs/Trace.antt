-- The steps of a run, by recursion over the policy's tree.
use Rattle.std.specs.Prelude.{ℕ, if◌then◌else◌, List, [], ◌∷◌, ◌++◌, map, Option, Some, None}
use Rattle.avp_lists.specs.declared.lists.State.{State}
use Rattle.avp_dict.specs.Dictionary.{Dictionary}
use Rattle.avp_unlang.specs.Captures.{Captures, filled, no_captures}
use Rattle.avp_unlang.specs.Evaluations.{Evaluated, Evaluation, evaluated}
use Rattle.avp_unlang.specs.Meaning.{Outcome, Point, going_on, running, after_word, after_failure, LineResult, Edited, Failed, line_result}
use Rattle.avp_unlang.specs.declared.codes.Code.{Code}
use Rattle.avp_unlang.specs.declared.codes.Code.TheVariants as code
use Rattle.avp_unlang.specs.declared.meaning.reasons.Reason.{Reason}
use Rattle.avp_unlang.specs.declared.meaning.reasons.Reason.TheVariants.{Absent, NotValue, TooLong, Full}
use Rattle.avp_unlang.specs.declared.tree.Branch.{Branch}
use Rattle.avp_unlang.specs.declared.tree.Cond.{Cond}
use Rattle.avp_unlang.specs.declared.tree.Line.{Line}
use Rattle.avp_unlang.specs.declared.tree.Statement.{Statement}
use Rattle.avp_unlang.specs.declared.tree.Statement.TheFolds.{fold-Statement, fold-Branch}
use Rattle.avp_unlang.specs.declared.tree.Statement.TheOpen.{Statement-F, Branch-F, Update, If, Transaction, Word}
use Rattle.avp_step.specs.declared.labels.Label.{Label}
use Rattle.avp_step.specs.declared.labels.Label.TheVariants as label

-- A step: what it did, and where the run is after it. Where steps begin, the run is not stopped.
pub record Entry : Type 0 where
  pub label : Label
  pub outcome : Outcome

-- the same, with what was captured after it
pub record Step : Type 0 where
  pub label : Label
  pub point : Point

abbrev pub entry_in : Step → Entry
entry_in step = record { label = step.label; outcome = step.point.outcome }

-- the steps that follow a point of a run
abbrev pub Steps : Type 0
Steps = Point → List Step

-- where a run is after these steps
abbrev pub end_of : Point → List Step → Point
end_of p [] = p
end_of p (t ∷ ts) = end_of t.point ts

-- the first steps, then the second from where those end
abbrev pub then_steps : Steps → Steps → Steps
then_steps t u p = t p ++ u (end_of p (t p))

-- none after a stop
abbrev pub unless_stopped : Steps → Steps
unless_stopped t p = if p.outcome.stopped then [] else t p

-- one after the other, until a stop
abbrev pub all_steps : List Steps → Steps
all_steps [] p = []
all_steps (t ∷ ts) p = then_steps t (unless_stopped (all_steps ts)) p

-- a run goes on that made no edit
abbrev pub goes_on : Point → Point
goes_on p = going_on p.outcome.state p.outcome.code p.captures

-- ---- update lines

-- the number that a label gives a reason
abbrev pub reason_number : Reason → ℕ
reason_number Absent = 1
reason_number NotValue = 2
reason_number TooLong = 3
reason_number Full = 4

-- a line with its result, and then the others; after one that fails the lists are those at the update's entry, and the
-- run stops
abbrev pub line_step : State → Line → LineResult → Code → Captures → Steps → List Step
line_step entry line (Edited s) c captures others =
    record { label = label.Line line.line; point = going_on s c captures }
    ∷ others (going_on s c captures)
line_step entry line (Failed why) c captures others =
    record {
      label = label.Failed line.line (reason_number why);
      point = record { outcome = after_failure entry; captures = captures };
    }
    ∷ []

-- what was captured is put into their texts
abbrev pub line_steps : Dictionary → State → List Line → Steps
line_steps dictionary entry [] p = []
line_steps dictionary entry (line ∷ others) p =
    line_step entry line (line_result dictionary (filled p.captures line) p.outcome.state)
    p.outcome.code p.captures (line_steps dictionary entry others)

-- ---- conditions

-- how conditions are evaluated
abbrev pub Evaluating : Type 0
Evaluating = Cond → Evaluation

-- a condition with its line, and the steps of its block
pub record Guarded : Type 0 where
  pub line : ℕ
  pub cond : Cond
  pub block : Steps

-- where a run is after a condition came to this
abbrev pub evaluated_at : Evaluated → Point → Point
evaluated_at e p = going_on p.outcome.state p.outcome.code e.captures

-- a condition that is tested
abbrev pub tested : ℕ → Evaluated → Point → Step
tested n e p = record { label = label.If n e.truth; point = evaluated_at e p }

-- conditions up to the first that is true, with its block, else the last block
abbrev pub branch_steps : Evaluating → List Guarded → Steps → Steps
branch_steps evaluating [] otherwise p = otherwise p
branch_steps evaluating (b ∷ bs) otherwise p =
    let e = evaluating b.cond p.outcome.state p.outcome.code p.captures in
    tested b.line e p
    ∷ (if e.truth then b.block (evaluated_at e p)
    else branch_steps evaluating bs otherwise (evaluated_at e p))

abbrev pub none_or : Option (List Steps) → Steps
none_or None p = []
none_or (Some block) p = all_steps block p

-- ---- transactions and words

abbrev pub entered : ℕ → Point → Step
entered n p = record { label = label.Enter n; point = goes_on p }

-- a transaction's end: it commits, or after a stop the lists are those at its entry, and the run goes on; what was
-- captured stays
abbrev pub closed : ℕ → State → Point → Step
closed n entry p =
    if p.outcome.stopped
    then record { label = label.Rollback n; point = going_on entry p.outcome.code p.captures }
    else record { label = label.Commit n; point = goes_on p }

abbrev pub word_step : ℕ → Code → Point → Step
word_step n word p = record {
  label = label.Word n;
  point = record { outcome = after_word word p.outcome.state; captures = p.captures };
}

-- ---- statements

abbrev pub statement_steps : Dictionary → Evaluating → Statement-F Steps Guarded → Steps
statement_steps dictionary evaluating (Update n lines) p =
    line_steps dictionary p.outcome.state lines p
statement_steps dictionary evaluating (If branches otherwise) p =
    branch_steps evaluating branches (none_or otherwise) p
statement_steps dictionary evaluating (Transaction n block) p =
    entered n p
    ∷ then_steps (all_steps block) (λ r. closed n p.outcome.state r ∷ []) (goes_on p)
statement_steps dictionary evaluating (Word n word) p = word_step n word p ∷ []

abbrev pub guarded_steps : Branch-F Steps Guarded → Guarded
guarded_steps b = record { line = b.line; cond = b.cond; block = all_steps b.block }

-- the steps of a statement, each statement inside it with its steps
abbrev pub steps : Dictionary → Evaluating → Statement → Steps
steps dictionary evaluating =
    fold-Statement Steps Guarded (statement_steps dictionary evaluating) guarded_steps

abbrev pub guarded : Dictionary → Evaluating → Branch → Guarded
guarded dictionary evaluating =
    fold-Branch Steps Guarded (statement_steps dictionary evaluating) guarded_steps

abbrev pub block_steps : Dictionary → Evaluating → List Statement → Steps
block_steps dictionary evaluating statements =
    all_steps (map (steps dictionary evaluating) statements)

-- where each run begins: nothing was captured
abbrev pub first_point : State → Point
first_point s = going_on s code.Ok no_captures

abbrev pub start : State → Entry
start s = record { label = label.Start; outcome = running s code.Ok }

-- the trace of a policy from a state, by how conditions are evaluated
abbrev pub trace_by : Dictionary → Evaluating → List Statement → State → List Entry
trace_by dictionary evaluating statements s =
    start s ∷ map entry_in (block_steps dictionary evaluating statements (first_point s))

-- the trace of a policy from a state
abbrev pub trace_of : Dictionary → List Statement → State → List Entry
trace_of dictionary statements s = trace_by dictionary (evaluated dictionary) statements s
