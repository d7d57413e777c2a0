-- A session: the trace of a run with a place in it and lines at which to stop, and what each command makes of it.
use Rattle.std.specs.Prelude.{ℕ, ◌+◌, ◌-◌, min, not, ◌==◌, if◌then◌else◌, List, [], ◌∷◌, ◌++◌, filter, length, map, slice_index_or}
use Rattle.avp_lists.specs.States.{empty_state}
use Rattle.avp_lists.specs.declared.lists.State.{State}
use Rattle.avp_step.specs.Trace.{Entry, start}
use Rattle.avp_step.specs.Walk.{Walk}
use Rattle.radpolicy_common.specs.Secrets.{Redaction}
use Rattle.radpolicy_walk_commands.specs.declared.commands.Command.{Command}
use Rattle.radpolicy_walk_commands.specs.declared.commands.Command.TheVariants.{Forward, Back, Start, End, Goto, Continue, BackToBreak, UntilFailure, Break, Delete}
use Rattle.radpolicy_walk_commands.specs.declared.steps.Step.{Step}
use Rattle.radpolicy_walk_commands.specs.Steps.{is_failure, is_on_one_of, is_one_of, next_where, previous_where, step_of}

-- what is hidden of a run, its trace, the position that is shown, and the lines that have a break
pub record Session : Type 0 where
  pub redaction : Redaction
  pub trace : List Entry
  pub position : ℕ
  pub breaks : List ℕ

-- a run at its start, with no breaks
abbrev pub session_of : Redaction → Walk → Session
session_of redaction walk = record {
  redaction = redaction;
  trace = walk.trace;
  position = 0;
  breaks = [];
}

-- another run at its start, with the breaks of this one
abbrev pub begun_anew : Redaction → Walk → Session → Session
begun_anew redaction walk session = record (session_of redaction walk) { breaks = session.breaks }

-- what each position did, from the start's
abbrev pub steps_of : Session → List Step
steps_of session = map step_of session.trace

abbrev pub last_position : Session → ℕ
last_position session = length session.trace - 1

-- the entry of the trace at the position
abbrev pub entry_of : Session → Entry
entry_of session = slice_index_or session.trace session.position (start empty_state)

-- the three lists at the position
abbrev pub lists_of : Session → State
lists_of session = (entry_of session).outcome.state

-- ---- commands

-- the position that a command leads to
abbrev pub position_after : Command → Session → ℕ
position_after (Forward n) session = min (session.position + n) (last_position session)
position_after (Back n) session = session.position - n
position_after Start session = 0
position_after End session = last_position session
position_after (Goto n) session = min n (last_position session)
position_after Continue session =
    next_where (is_on_one_of session.breaks) (steps_of session) session.position
position_after BackToBreak session =
    previous_where (is_on_one_of session.breaks) (steps_of session) session.position
position_after UntilFailure session = next_where is_failure (steps_of session) session.position
position_after _ session = session.position

-- one more line, unless it has a break
abbrev pub with_break : ℕ → List ℕ → List ℕ
with_break n breaks = if is_one_of breaks n then breaks else breaks ++ n ∷ []

abbrev pub without_break : ℕ → List ℕ → List ℕ
without_break n breaks = filter (λ own. not (own == n)) breaks

abbrev pub breaks_after : Command → List ℕ → List ℕ
breaks_after (Break n) breaks = with_break n breaks
breaks_after (Delete n) breaks = without_break n breaks
breaks_after _ breaks = breaks

-- what a command makes of a session
abbrev pub after : Command → Session → Session
after command session = record session {
  position = position_after command session;
  breaks = breaks_after command session.breaks;
}

-- one command after another
abbrev pub after_all : List Command → Session → Session
after_all [] session = session
after_all (command ∷ commands) session = after_all commands (after command session)
