-- Slots, whose marks tell which pairs they show, and how a step turns the marks.
use Rattle.std.specs.Prelude.{◌≡◌, ◌<◌, ◌≤◌, ◌+◌, length, ◌==◌, ℕ, Bool, true, false, not, if◌then◌else◌, List, [], ◌∷◌, slice_index_or, slice_set, Option, Some, None}
use Rattle.avp_lists.specs.declared.lists.List.TheVariants.{Request}
use Rattle.avp_lists.specs.declared.slots.End.TheVariants.{Head}
use Rattle.avp_lists.specs.declared.slots.Mark.{Mark}
use Rattle.avp_lists.specs.declared.slots.Slot.{Slot}
use Rattle.avp_lists.specs.declared.slots.Swap.{Swap}

-- no pair is shown
abbrev pub no_mark : Mark
no_mark = record { live = false; pair = 0 }

abbrev pub no_slot : Slot
no_slot = record { list = Request; end = Head; mark = no_mark; initial = no_mark }

-- the slot at a place; past the last one none
abbrev pub slot_at : List Slot → ℕ → Slot
slot_at c i = slice_index_or c i no_slot

-- it shows a pair
abbrev pub is_live : Slot → Bool
is_live s = s.mark.live

-- the slot as it is in the first state
abbrev pub at_initial : Slot → Slot
at_initial s = record s { mark = s.initial }

-- the slot with the present mark as that of the first state
abbrev pub kept : Slot → Slot
kept s = record s { initial = s.mark }

-- the slot with its mark turned
abbrev pub flipped : Slot → Slot
flipped s = record s { mark = record s.mark { live = not s.mark.live } }

abbrev pub turn : List Slot → ℕ → List Slot
turn c i = slice_set c i (flipped (slot_at c i))

abbrev pub turn_all : List ℕ → List Slot → List Slot
turn_all [] c = c
turn_all (i ∷ is) c = turn_all is (turn c i)

-- each of two places in the pool becomes the other
abbrev pub other_pair : ℕ → ℕ → ℕ → ℕ
other_pair old new at = if at == old then new else if at == new then old else at

abbrev pub with_other : Swap → Slot → Slot
with_other w s = record s { mark = record s.mark { pair = other_pair w.old w.new s.mark.pair } }

abbrev pub swap_at : Option Swap → List Slot → List Slot
swap_at None c = c
swap_at (Some w) c = slice_set c w.slot (with_other w (slot_at c w.slot))

-- from the state before a step to the one after it, and back
abbrev pub forward : List ℕ → Option Swap → List Slot → List Slot
forward places by c = swap_at by (turn_all places c)

abbrev pub backward : List ℕ → Option Swap → List Slot → List Slot
backward places by c = turn_all places (swap_at by c)

-- the slots at these places are among n
abbrev pub PlacesWithin : ℕ → List ℕ → Type 0
PlacesWithin n places = (k : ℕ) → k < length places → slice_index_or places k 0 < n

abbrev pub swap_end : Option Swap → ℕ
swap_end None = 0
swap_end (Some w) = w.slot + 1

abbrev pub SwapWithin : ℕ → Option Swap → Type 0
SwapWithin n by = swap_end by ≤ n

-- the slots that show a pair are among the first m, and their pairs among the first n of the pool
abbrev pub Housed : ℕ → ℕ → List Slot → Type 0
Housed m n c = (i : ℕ) → (slot_at c i).mark.live ≡ true → (i < m) × ((slot_at c i).mark.pair < n)

-- the pairs that are shown are among the first n of the pool
abbrev pub PairsWithin : ℕ → List Slot → Type 0
PairsWithin n c = (i : ℕ) → (slot_at c i).mark.live ≡ true → (slot_at c i).mark.pair < n
