-- The line by which a run last changed an attribute, and the line that stopped it.
use Rattle.std.specs.Prelude.{ℕ, ◌-◌, Bool, true, false, ◌&&◌, if◌then◌else◌, List, [], ◌∷◌, length, slice_index_or, Option, None, Some}
use Rattle.std.specs.Option.{option_or}
use Rattle.avp_lists.specs.Instances.{instances}
use Rattle.avp_lists.specs.Pairs.{pair_eq}
use Rattle.avp_lists.specs.States.{empty_state, list_of}
use Rattle.avp_lists.specs.declared.lists.List.{List as Name}
use Rattle.avp_lists.specs.declared.pairs.AttrId.{AttrId}
use Rattle.avp_lists.specs.declared.pairs.Pair.{Pair}
use Rattle.avp_step.specs.Trace.{Entry, start}
use Rattle.avp_step.specs.declared.labels.Label.{Label}
use Rattle.avp_step.specs.declared.labels.Label.TheVariants as label

-- the line of the policy's text that a step is on; the start is on none
abbrev pub line_of : Label → Option ℕ
line_of label.Start = None
line_of (label.Line n) = Some n
line_of (label.Failed n reason) = Some n
line_of (label.If n truth) = Some n
line_of (label.Word n) = Some n
line_of (label.Enter n) = Some n
line_of (label.Commit n) = Some n
line_of (label.Rollback n) = Some n

-- the same pairs in the same order
abbrev pub are_same : List Pair → List Pair → Bool
are_same [] [] = true
are_same (p ∷ ps) (q ∷ qs) = pair_eq p q && are_same ps qs
are_same _ _ = false

-- ---- one step

-- an attribute's instances in a list after a step
abbrev pub instances_in : Name → AttrId → Entry → List Pair
instances_in list id step = instances id (list_of list step.outcome.state)

-- the line of a step with this label, where the instances after it differ from those before it
abbrev pub line_made : List Pair → List Pair → Label → Option ℕ
line_made before after label = if are_same before after then None else line_of label

abbrev pub step_line : Name → AttrId → Entry → Entry → Option ℕ
step_line list id before step =
    line_made (instances_in list id before) (instances_in list id step) step.label

-- ---- a run

-- the line of the last of these steps, which follow that one, that changed the instances
abbrev pub line_after : Name → AttrId → Entry → List Entry → Option ℕ
line_after list id before [] = None
line_after list id before (step ∷ steps) =
    option_or (line_after list id step steps) (step_line list id before step)

-- the line of the last step of a trace that changed an attribute's instances in a list, if one did; a transaction that
-- was taken back changes what it gives back, and so does an update that failed
abbrev pub changing_line : Name → AttrId → List Entry → Option ℕ
changing_line list id [] = None
changing_line list id (first ∷ steps) = line_after list id first steps

-- where a run ends
abbrev pub last_entry : List Entry → Entry
last_entry trace = slice_index_or trace (length trace - 1) (start empty_state)

-- the line that stopped a run, which is that of its last step; a run that went to the policy's end has none
abbrev pub stopping_line : List Entry → Option ℕ
stopping_line trace =
    if (last_entry trace).outcome.stopped then line_of (last_entry trace).label else None
