-- The states that steps lead to, from the first one on.
use Rattle.std.specs.Prelude.{◌≡◌, ◌<◌, ◌≤◌, ◌+◌, ◌-◌, ℕ, Bool, true, false, List, [], ◌∷◌, ◌++◌, map, length, slice_index_or, Option, None}
use Rattle.avp_lists.specs.declared.pairs.Pair.{Pair}
use Rattle.avp_lists.specs.declared.lists.State.{State}
use Rattle.avp_lists.specs.declared.slots.Slot.{Slot}
use Rattle.avp_lists.specs.declared.slots.Swap.{Swap}
use Rattle.avp_lists.specs.declared.steps.Change.{Change}
use Rattle.avp_lists.specs.declared.steps.Change.TheVariants.{Turned, Back}
use Rattle.avp_lists.specs.declared.steps.Step.{Step}
use Rattle.avp_lists.specs.internal.Slots.{at_initial, forward, PlacesWithin, SwapWithin, Housed}
use Rattle.avp_lists.specs.internal.Shown.{shown_state}
use Rattle.avp_lists.specs.States.{empty_state, IsLimited}

-- the slots of the last state so far, or those of the first state where there is none
abbrev pub last_or : List Slot → List (List Slot) → List Slot
last_or d done = slice_index_or done (length done - 1) d

-- the slots of the state after a change, by those of the states before it, and by those of the first state where there
-- are none
abbrev pub after : List Slot → List (List Slot) → Change → List Slot
after first done (Turned places by) = forward places.items by (last_or first done)
after first done (Back to) = slice_index_or done to first

-- the slots of every state, one for each step
abbrev pub replay : List Slot → List (List Slot) → List Step → List (List Slot)
replay first done [] = done
replay first done (e ∷ es) = replay first (done ++ after first done e.change ∷ []) es

abbrev pub every : List Slot → List Step → List (List Slot)
every slots steps = replay (map at_initial slots) [] steps

-- the slots of the state at a place
abbrev pub slots_at : List Slot → List Step → ℕ → List Slot
slots_at slots steps k = slice_index_or (every slots steps) k []

-- every state
abbrev pub shown_states : List Pair → List Slot → List Step → List State
shown_states pool slots steps = map (shown_state pool) (every slots steps)

-- the step that leads to a place; past the last one a step that turns and counts nothing
abbrev pub no_step : Step
no_step = record { change = Back 0; slots = 0; pairs = 0 }

abbrev pub step_at : List Step → ℕ → Step
step_at steps k = slice_index_or steps k no_step

abbrev pub change_at : List Step → ℕ → Change
change_at steps k = (step_at steps k).change

abbrev pub turns : Change → Bool
turns (Turned places by) = true
turns (Back to) = false

abbrev pub places_of : Change → List ℕ
places_of (Turned places by) = places.items
places_of (Back to) = []

abbrev pub swap_of : Change → Option Swap
swap_of (Turned places by) = by
swap_of (Back to) = None

-- the place that the state at a place stands for
abbrev pub origin_of : ℕ → Change → ℕ
origin_of k (Turned places by) = k
origin_of k (Back to) = to

abbrev pub origin : List Step → ℕ → ℕ
origin steps k = origin_of k (change_at steps k)

-- what each step turns is among n slots
abbrev pub StepsWithin : ℕ → List Step → Type 0
StepsWithin n steps =
    (k : ℕ)
    → PlacesWithin n (places_of (change_at steps k)) × SwapWithin n (swap_of (change_at steps k))

-- a step goes back to an earlier place that none of its kind leads to
abbrev pub BacksBelow : List Step → Type 0
BacksBelow steps =
    (k to : ℕ) → k < length steps → change_at steps k ≡ Back to
    → (to < k) × (turns (change_at steps to) ≡ true)

-- what a step turns is among the slots that it counts
abbrev pub PlacesCounted : Step → Type 0
PlacesCounted e = PlacesWithin e.slots (places_of e.change) × SwapWithin e.slots (swap_of e.change)

abbrev pub AllCounted : List Step → Type 0
AllCounted steps = (k : ℕ) → PlacesCounted (step_at steps k)

-- no step counts more than there is
abbrev pub CountsWithin : ℕ → ℕ → List Step → Type 0
CountsWithin m n steps = (k : ℕ) → ((step_at steps k).slots ≤ m) × ((step_at steps k).pairs ≤ n)

-- no step counts more than a later one
abbrev pub CountsGrow : List Step → Type 0
CountsGrow steps =
    (j k : ℕ) → j ≤ k → k < length steps
    → ((step_at steps j).slots ≤ (step_at steps k).slots)
    × ((step_at steps j).pairs ≤ (step_at steps k).pairs)

-- how many pairs there are at most after an edit at a place
abbrev pub max_kept : List Step → ℕ → ℕ
max_kept steps k = (step_at steps k).pairs + 1

-- in each state, the slots that show a pair and those pairs are among those that its step counts
abbrev pub AllHoused : List Slot → List Step → Type 0
AllHoused slots steps =
    (k : ℕ) → Housed (step_at steps k).slots (step_at steps k).pairs (slots_at slots steps k)

abbrev pub StatesLimited : List Pair → List Slot → List Step → Type 0
StatesLimited pool slots steps =
    (k : ℕ) → IsLimited (slice_index_or (shown_states pool slots steps) k empty_state)
