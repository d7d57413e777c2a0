-- Walks of several moves, and where they end.
use Rattle.std.proofs.Common.{◌≡◌, ◌+◌, ◌-◌, List, [], ◌∷◌, ◌++◌, length, refl, sym, ◌∙◌, subst, arith}
use Rattle.avp_lists.specs.States.{empty_state}
use Rattle.avp_lists.specs.declared.lists.State.{State}
use Rattle.avp_dict.specs.Dictionary.{Dictionary}
use Rattle.avp_unlang.specs.Meaning.{meaning_of}
use Rattle.avp_unlang.specs.declared.codes.Code.TheVariants as code
use Rattle.avp_unlang.specs.declared.tree.Statement.{Statement}
use Rattle.avp_step.specs.Trace.{start, trace_of}
use Rattle.avp_step.specs.Walk.{Walk, entry_at, MoveMay, MovesMay}
use Rattle.avp_step.specs.declared.labels.Move.{Move}
use Rattle.avp_step.specs.internal.Held.{nowhere}
use Rattle.avp_step.proofs.LastSteps.{trace_end}
use Rattle.avp_step.proofs.HeldMoves.{last_of_last}

-- one more move
pub moves_push : (w u v : Walk) (ms : List Move) (m : Move) → MovesMay w ms u → MoveMay u m v → MovesMay w (ms ++ m ∷ []) v
moves_push w u v [] m h k = (v, subst (λ x. MoveMay x m v) h k, refl)
moves_push w u v (n ∷ ms) m h k = (h.0, h.1, moves_push h.0 u v ms m h.2 k)

-- the last entry of a policy's trace stands where the policy's meaning says
pub trace_last : (d : Dictionary) (ss : List Statement) (s : State) → (entry_at (record { dictionary = d; trace = trace_of d ss s; position = 0; made = 0 }) (length (trace_of d ss s) - 1)).outcome ≡ meaning_of d ss s code.Ok
trace_last d ss s =
    let last : length (trace_of d ss s) - 1 + 1 ≡ length (trace_of d ss s) = omega arith in
    sym (last_of_last nowhere (trace_of d ss s) (length (trace_of d ss s) - 1) (start empty_state) last) ∙ trace_end d ss s nowhere
