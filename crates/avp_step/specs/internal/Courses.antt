-- What a machine has, and what its steps leave.
use Rattle.std.specs.Prelude.{◌≡◌, ◌≤◌, ℕ, ◌+◌, Bool, true, false, List, ◌∷◌, length, reverse, Option, Some, None, Result, Ok, Err}
use Rattle.std.specs.List.{All}
use Rattle.std.specs.declared.alloc.AllocError.{AllocError}
use Rattle.avp_lists.specs.History.{History, continued, present, state_at}
use Rattle.avp_lists.specs.declared.lists.State.{State}
use Rattle.avp_dict.specs.Dictionary.{Dictionary}
use Rattle.avp_patterns.specs.Patterns.{Written}
use Rattle.avp_unlang.specs.Captures.{Captures, Kept, filled}
use Rattle.avp_unlang.specs.Evaluations.{decided, evaluated}
use Rattle.avp_unlang.specs.Meaning.{Outcome, Point, Edited, Failed, line_result}
use Rattle.avp_unlang.specs.Resolutions.{StateFits}
use Rattle.avp_unlang.specs.Truth.{truth_by}
use Rattle.avp_unlang.specs.declared.meaning.reasons.Reason.{Reason}
use Rattle.avp_unlang.specs.declared.tree.Line.{Line}
use Rattle.avp_step.specs.Trace.{Entry, Evaluating, Step, Steps, end_of}
use Rattle.avp_step.specs.Walk.{IsLineLabel}
use Rattle.avp_step.specs.internal.Frames.{AllFit, Fits, rest}
use Rattle.avp_step.specs.declared.frames.Frame.{Frame}
use Rattle.avp_step.specs.declared.frames.TheConstants.{MAX_FRAMES}
use Rattle.avp_step.specs.declared.marks.Mark.{Mark}

-- ---- how conditions are evaluated

-- by their truth alone
abbrev pub by_truth : Dictionary → Evaluating
by_truth dictionary cond s c captures = decided (truth_by dictionary cond s c) captures

-- whether or not what they capture is kept
abbrev pub evaluating_of : Bool → Dictionary → Evaluating
evaluating_of true dictionary = evaluated dictionary
evaluating_of false dictionary = by_truth dictionary

-- ---- courses

-- a store's history, and the place up to which it has room; what was captured last, and whether this is kept; and what
-- is still to run, as frames, the innermost first, with the patterns that it may compare with
pub record Course : Type 0 where
  pub dictionary : Dictionary
  pub patterns : List Written
  pub keeps : Bool
  pub captures : Captures
  pub history : History
  pub reach : ℕ
  pub frames : List Frame

abbrev pub course_of : Dictionary → List Written → Kept → History → ℕ → List Frame → Course
course_of dictionary patterns kept h room frames = record {
  dictionary = dictionary;
  patterns = patterns;
  keeps = kept.keeps;
  captures = kept.captures;
  history = h;
  reach = h.place + room;
  frames = reverse frames;
}

abbrev pub with_frame : Frame → Course → Course
with_frame f m = record m { frames = f ∷ m.frames }

-- a frame fits above the others
abbrev pub FitsOn : Course → Frame → Type 0
FitsOn m f = Fits m.dictionary m.patterns (length m.history.states) m.frames f

-- each state fits the dictionary
abbrev pub StatesFit : Dictionary → History → Type 0
StatesFit dictionary h = All (StateFits dictionary) h.states

pub record IsSound (m : Course) (most : ℕ) : Type 0 where
  pub frames : AllFit m.dictionary m.patterns (length m.history.states) m.frames
  pub states : StatesFit m.dictionary m.history
  pub capacity : MAX_FRAMES ≤ most

-- ---- steps

abbrev pub evaluating : Course → Evaluating
evaluating m = evaluating_of m.keeps m.dictionary

-- the steps that are still to come
abbrev pub coming : Course → Steps
coming m = rest m.dictionary (evaluating m) (state_at m.history) m.frames

-- the point of a run, by a mark, a state and what was captured
abbrev pub point_of : Mark → State → Captures → Point
point_of m s captures = record {
  outcome = record { state = s; code = m.code; stopped = m.stopped };
  captures = captures;
}

-- where a run is, by its last mark
abbrev pub standing : Mark → Course → Point
standing mark m = point_of mark (present m.history) m.captures

-- where it is after the steps that are still to come
abbrev pub ending : Mark → Course → Outcome
ending mark m = (end_of (standing mark m) (coming m (standing mark m))).outcome

-- the step that a mark and a state stand for
abbrev pub entry_of : Mark → State → Entry
entry_of m s =
    record { label = m.label; outcome = record { state = s; code = m.code; stopped = m.stopped } }

abbrev pub step_of : Mark → State → Captures → Step
step_of m s captures = record { label = m.label; point = point_of m s captures }

-- the store is at its last state
abbrev pub IsAtLast : Course → Type 0
IsAtLast m = m.history.place + 1 ≡ length m.history.states

-- it is, and has room for the steps that are still to come
pub record IsReady (last : Mark) (m : Course) : Type 0 where
  pub at_last : IsAtLast m
  pub room : m.history.place + length (coming m (standing last m)) ≤ m.reach

-- the dictionary, the patterns, and whether what is captured is kept
pub record IsAlike (old new : Course) : Type 0 where
  pub dictionary : new.dictionary ≡ old.dictionary
  pub patterns : new.patterns ≡ old.patterns
  pub keeps : new.keeps ≡ old.keeps

-- as it was, but for the frames; there is no less room
pub record IsKept (old new : Course) : Type 0 where
  pub alike : IsAlike old new
  pub captures : new.captures ≡ old.captures
  pub history : new.history ≡ old.history
  pub reach : old.reach ≤ new.reach

-- one more state, and the same frames with the same steps
pub record IsContinued (s : State) (old new : Course) : Type 0 where
  pub alike : IsAlike old new
  pub captures : new.captures ≡ old.captures
  pub history : new.history ≡ continued s old.history
  pub reach : old.reach ≤ new.reach
  pub frames : new.frames ≡ old.frames
  pub same : (p : Point) → coming new p ≡ coming old p

-- a line was edited by, or failed by this reason
abbrev pub IsLineDone : Dictionary → Line → History → History → Option Reason → Type 0
IsLineDone dictionary line old new None =
    (line_result dictionary line (present old) ≡ Edited (present new))
    × (new ≡ continued (present new) old)
IsLineDone dictionary line old new (Some why) =
    (line_result dictionary line (present old) ≡ Failed why) × (new ≡ old)

-- the same of a line into whose text what was captured is put
abbrev pub IsEdited : Line → Course → Course → Option Reason → Type 0
IsEdited line old new None =
    (line_result old.dictionary (filled old.captures line) (present old.history)
    ≡ Edited (present new.history))
    × IsContinued (present new.history) old new
IsEdited line old new (Some why) =
    (line_result old.dictionary (filled old.captures line) (present old.history) ≡ Failed why)
    × IsKept old new × (new.frames ≡ old.frames)

-- no step was made, and the same steps are to come
pub record IsPassed (last : Mark) (old new : Course) : Type 0 where
  pub kept : IsKept old new
  pub same : coming new (standing last old) ≡ coming old (standing last old)

-- the first step was made, and the others are to come
pub record IsMade (last : Mark) (old : Course) (mark : Mark) (new : Course) : Type 0 where
  pub alike : IsAlike old new
  pub history : new.history ≡ continued (present new.history) old.history
  pub reach : old.reach ≤ new.reach
  pub first : coming old (standing last old)
      ≡ step_of mark (present new.history) new.captures ∷ coming new (standing mark new)

-- the next step is of an update line
pub record IsBeforeLine (last : Mark) (m : Course) : Type 0 where
  pub first : Step
  pub others : List Step
  pub is : coming m (standing last m) ≡ first ∷ others
  pub line : IsLineLabel first.label

-- what a step came to
abbrev pub IsStep : Mark → Course → Result (Option Mark) AllocError → Course → Type 0
IsStep last old (Ok None) new = IsPassed last old new
IsStep last old (Ok (Some mark)) new = IsMade last old mark new
IsStep last old (Err e) new = IsPassed last old new × IsBeforeLine last old
