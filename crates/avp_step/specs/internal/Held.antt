-- What a stepper keeps, and what it means.
use Rattle.std.specs.Prelude.{◌≡◌, ◌≤◌, ◌<◌, ℕ, ◌+◌, ◌-◌, List, [], ◌∷◌, ◌++◌, length, map}
use Rattle.avp_lists.specs.History.{state_at}
use Rattle.avp_lists.specs.States.{empty_state}
use Rattle.avp_lists.specs.declared.lists.State.{State}
use Rattle.avp_unlang.specs.Captures.{Captures}
use Rattle.avp_unlang.specs.Meaning.{Outcome, Point, running}
use Rattle.avp_unlang.specs.declared.codes.Code.TheVariants as code
use Rattle.avp_unlang.specs.declared.tree.Statement.{Statement}
use Rattle.avp_step.specs.Trace.{Entry, entry_in, trace_of}
use Rattle.avp_step.specs.Walk.{Walk}
use Rattle.avp_step.specs.internal.Courses.{Course, coming, entry_of}
use Rattle.avp_step.specs.declared.marks.Mark.{Mark}

-- the trace from the store's first state
abbrev pub trace_from : List Statement → Course → List Entry
trace_from statements m = trace_of m.dictionary statements (state_at m.history 0)

abbrev pub walk_of : List Statement → Course → ℕ → Walk
walk_of statements m position = record {
  dictionary = m.dictionary;
  trace = trace_from statements m;
  position = position;
  made = length m.history.states - 1;
}

-- the steps that were made, by the marks and the store's states
abbrev pub made : List Mark → List State → List Entry
made [] states = []
made (m ∷ ms) [] = []
made (m ∷ ms) (s ∷ states) = entry_of m s ∷ made ms states

-- where a run begins that has made no step
abbrev pub nowhere : Outcome
nowhere = running empty_state code.Ok

-- where a run is after these steps
abbrev pub last_of : Outcome → List Entry → Outcome
last_of o [] = o
last_of o (e ∷ es) = last_of e.outcome es

abbrev pub point_at : Captures → Outcome → Point
point_at captures o = record { outcome = o; captures = captures }

-- the point after these steps, by what the course has captured
abbrev pub point_after : List Entry → Course → Point
point_after es m = point_at m.captures (last_of nowhere es)

-- the store has a state for each mark; there is a mark for the start and one for each step that was made; the frames
-- have the steps that were never made
pub record IsHeld (statements : List Statement) (m : Course) (marks : List Mark) (position : ℕ)
    (marks_room : ℕ) : Type 0 where
  pub trace : made marks m.history.states
      ++ map entry_in (coming m (point_after (made marks m.history.states) m))
      ≡ trace_from statements m
  pub each : length m.history.states ≡ length marks
  pub place : m.history.place ≡ position
  pub within : position < length marks
  pub room_of_marks : length (trace_from statements m) ≤ marks_room
  pub room_of_store : length (trace_from statements m) ≤ m.reach + 1
