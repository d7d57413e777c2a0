-- The pairs and the lists that slots show.
use Rattle.std.specs.Prelude.{ℕ, ◌+◌, Bool, true, false, ◌&&◌, List, ◌++◌, map, filter, reverse, take, drop, slice_index_or}
use Rattle.avp_lists.specs.declared.pairs.AttrId.TheVariants.{Plain}
use Rattle.avp_lists.specs.declared.pairs.Value.TheVariants.{Int}
use Rattle.avp_lists.specs.declared.pairs.Pair.{Pair}
use Rattle.avp_lists.specs.declared.lists.List.{List as WhichList}
use Rattle.avp_lists.specs.declared.lists.List.TheVariants.{Request, Reply, Control}
use Rattle.avp_lists.specs.declared.lists.State.{State}
use Rattle.avp_lists.specs.declared.slots.End.{End}
use Rattle.avp_lists.specs.declared.slots.End.TheVariants.{Head, Tail}
use Rattle.avp_lists.specs.declared.slots.Slot.{Slot}
use Rattle.avp_lists.specs.internal.Slots.{slot_at}

abbrev pub same_list : WhichList → WhichList → Bool
same_list Request Request = true
same_list Reply Reply = true
same_list Control Control = true
same_list _ _ = false

-- the slot shows a pair, in that list
abbrev pub shows : WhichList → Slot → Bool
shows which s = s.mark.live && same_list which s.list

abbrev pub no_pair : Pair
no_pair = record { id = Plain 0; value = Int 0 }

-- the pair that a slot's mark points to
abbrev pub slot_pair : List Pair → Slot → Pair
slot_pair pool s = slice_index_or pool s.mark.pair no_pair

-- the pair that the slot at a place shows, and whether it passes a test
abbrev pub pair_at : List Pair → List Slot → ℕ → Pair
pair_at pool c i = slot_pair pool (slot_at c i)

abbrev pub passes_at : (Pair → Bool) → List Pair → List Slot → ℕ → Bool
passes_at test pool c i = test (pair_at pool c i)

-- it shows a pair that passes, in that list
abbrev pub shows_passing : WhichList → (Pair → Bool) → List Pair → Slot → Bool
shows_passing which test pool s = shows which s && test (slot_pair pool s)

abbrev pub same_end : End → End → Bool
same_end Head Head = true
same_end Tail Tail = true
same_end _ _ = false

-- the slot entered its list at that end
abbrev pub entered_at : End → Slot → Bool
entered_at end s = same_end end s.end

-- it shows a pair that entered the list at that end, or one that passes too
abbrev pub shows_at : End → WhichList → Slot → Bool
shows_at end which s = entered_at end s && shows which s

abbrev pub shows_passing_at : End → WhichList → (Pair → Bool) → List Pair → Slot → Bool
shows_passing_at end which test pool s = entered_at end s && shows_passing which test pool s

-- the pairs of a list that entered at one end, in the order of their slots
abbrev pub shown_pairs_at : End → WhichList → List Pair → List Slot → List Pair
shown_pairs_at end which pool c = map (slot_pair pool) (filter (shows_at end which) c)

-- the pairs of a list: those that entered at its head, the last one first, and then those that entered at its tail
abbrev pub shown_pairs : WhichList → List Pair → List Slot → List Pair
shown_pairs which pool c =
    reverse (shown_pairs_at Head which pool c) ++ shown_pairs_at Tail which pool c

-- the slots whose pairs come before that of a slot, which entered at this end and lies between these
abbrev pub ahead : End → List Slot → List Slot → List Slot
ahead Head before after = reverse (filter (entered_at Head) after)
ahead Tail before after =
    reverse (filter (entered_at Head) (before ++ after)) ++ filter (entered_at Tail) before

abbrev pub ahead_at : ℕ → List Slot → List Slot
ahead_at i c = ahead (slot_at c i).end (take i c) (drop (i + 1) c)

-- the state that the slots show
abbrev pub shown_state : List Pair → List Slot → State
shown_state pool c =
    record {
      request = shown_pairs Request pool c;
      reply = shown_pairs Reply pool c;
      control = shown_pairs Control pool c;
    }
