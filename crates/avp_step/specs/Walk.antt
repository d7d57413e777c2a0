-- Walks: the trace of a run with a position in it, and the moves that change the position.
use Rattle.std.specs.Prelude.{◌≡◌, ◌≤◌, ◌<◌, ◌⊎◌, ℕ, ◌+◌, ◌-◌, max, Bool, if◌then◌else◌, nat_lt, List, [], ◌∷◌, length, slice_index_or}
use Rattle.avp_lists.specs.States.{empty_state}
use Rattle.avp_dict.specs.Dictionary.{Dictionary}
use Rattle.avp_lists.specs.declared.lists.State.{State}
use Rattle.avp_unlang.specs.Meaning.{Outcome}
use Rattle.avp_unlang.specs.declared.tree.Statement.{Statement}
use Rattle.avp_step.specs.Trace.{Entry, start, trace_of}
use Rattle.avp_step.specs.declared.labels.Label.{Label}
use Rattle.avp_step.specs.declared.labels.Label.TheVariants as label
use Rattle.avp_step.specs.declared.labels.Move.{Move}
use Rattle.avp_step.specs.declared.labels.Move.TheVariants.{Forward, Back, Start, End}
use Rattle.avp_step.specs.declared.labels.Moved.{Moved}
use Rattle.avp_step.specs.declared.labels.Moved.TheVariants.{To, AtEnd}

-- the dictionary and the trace are fixed; the position moves; `made` is the greatest position that was reached
pub record Walk : Type 0 where
  pub dictionary : Dictionary
  pub trace : List Entry
  pub position : ℕ
  pub made : ℕ

-- a policy's walk from a state, at its start
abbrev pub walk_from : Dictionary → List Statement → State → Walk
walk_from dictionary statements s =
    record {
      dictionary = dictionary;
      trace = trace_of dictionary statements s;
      position = 0;
      made = 0;
    }

-- the trace's entry at a position; past the end one of no step
abbrev pub entry_at : Walk → ℕ → Entry
entry_at w k = slice_index_or w.trace k (start empty_state)

-- the entry at which a walk is
abbrev pub entry : Walk → Entry
entry w = entry_at w w.position

abbrev pub last_position : Walk → ℕ
last_position w = length w.trace - 1

abbrev pub last_outcome : Walk → Outcome
last_outcome w = (entry_at w (last_position w)).outcome

abbrev pub is_before_end : Walk → Bool
is_before_end w = nat_lt (w.position + 1) (length w.trace)

-- ---- the moves

-- at a position, which may be the greatest so far
abbrev pub reached : ℕ → Walk → Walk
reached k w = record w { position = k; made = max w.made k }

abbrev pub moved_forward : Walk → Walk
moved_forward w = if is_before_end w then reached (w.position + 1) w else w

abbrev pub answer_of_forward : Walk → Moved
answer_of_forward w = if is_before_end w then To (entry_at w (w.position + 1)).label else AtEnd

abbrev pub moved_back : Walk → Walk
moved_back w = record w { position = w.position - 1 }

abbrev pub moved_to_start : Walk → Walk
moved_to_start w = record w { position = 0 }

abbrev pub moved_to_end : Walk → Walk
moved_to_end w = reached (last_position w) w

-- the positions that were reached are the trace's, and this is one of them
abbrev pub IsWithin : Walk → Type 0
IsWithin w = (w.position ≤ w.made) × (w.made < length w.trace)

-- ---- refusals

-- a step of an update line
abbrev pub IsLineLabel : Label → Type 0
IsLineLabel (label.Line n) = Unit {0}
IsLineLabel (label.Failed n k) = Unit {0}
IsLineLabel _ = ⊥

-- the next step is of an update line, and was never made
abbrev pub IsBeforeNewLine : Walk → Type 0
IsBeforeNewLine w = (w.made ≡ w.position) × IsLineLabel (entry_at w (w.position + 1)).label

-- a walk to the end that was refused has made each step again that was made before, and is before a new step of an
-- update line: which one is left open
pub record IsHeldUp (old new : Walk) : Type 0 where
  pub dictionary : new.dictionary ≡ old.dictionary
  pub trace : new.trace ≡ old.trace
  pub onward : old.made ≤ new.position
  pub line : IsBeforeNewLine new

-- these are the lists where such a walk is
abbrev pub IsHeldUpWith : Walk → State → Type 0
IsHeldUpWith w s = (v : Walk) × IsHeldUp w v × (s ≡ (entry v).outcome.state)

-- a move may lead from one walk to another: a new step of an update line may be refused
abbrev pub MoveMay : Walk → Move → Walk → Type 0
MoveMay w Forward v = (v ≡ moved_forward w) ⊎ ((v ≡ w) × IsBeforeNewLine w)
MoveMay w Back v = v ≡ moved_back w
MoveMay w Start v = v ≡ moved_to_start w
MoveMay w End v = (v ≡ moved_to_end w) ⊎ IsHeldUp w v

-- one move after another
abbrev pub MovesMay : Walk → List Move → Walk → Type 0
MovesMay w [] v = v ≡ w
MovesMay w (m ∷ ms) v = (u : Walk) × MoveMay w m u × MovesMay u ms v
