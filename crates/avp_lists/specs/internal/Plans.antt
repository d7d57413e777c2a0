-- What an edit turns in the slots, and the slots that a store begins with.
use Rattle.std.specs.Prelude.{◌≡◌, zero, suc, ◌+◌, ℕ, Bool, true, false, not, ◌&&◌, ◌||◌, if◌then◌else◌, List, [], ◌∷◌, ◌++◌, length, filter, Some}
use Rattle.std.specs.Option.{is_some, option_to_list}
use Rattle.avp_lists.specs.declared.pairs.Pair.{Pair}
use Rattle.avp_lists.specs.declared.edits.Op.{Op}
use Rattle.avp_lists.specs.declared.edits.Op.TheVariants.{Prepend, RemoveEqual, KeepEqual, RemoveAll, Replace}
use Rattle.avp_lists.specs.declared.edits.Edit.{Edit}
use Rattle.avp_lists.specs.declared.lists.List.{List as WhichList}
use Rattle.avp_lists.specs.declared.planning.Plan.{Plan}
use Rattle.avp_lists.specs.declared.slots.End.{End}
use Rattle.avp_lists.specs.declared.slots.End.TheVariants.{Head, Tail}
use Rattle.avp_lists.specs.declared.slots.Slot.{Slot}
use Rattle.avp_lists.specs.declared.tags.Selection.{Selection}
use Rattle.avp_lists.specs.Selections.{edited_selected}
use Rattle.avp_lists.specs.Tags.{is_same, is_selected}
use Rattle.avp_lists.specs.internal.Shown.{shows, shows_at, slot_pair, shown_state}
use Rattle.avp_lists.specs.internal.Slots.{slot_at, forward, PlacesWithin, SwapWithin, PairsWithin}

-- the end at which an operator adds its pair
abbrev pub end_for : Op → End
end_for Prepend = Head
end_for _ = Tail

-- an operator takes the other pair away, where it is not the first that is selected
abbrev pub is_removed : Selection → Op → Pair → Pair → Bool
is_removed selection RemoveEqual p q = is_same selection q p
is_removed selection KeepEqual p q = is_selected selection p.id q && not (is_same selection q p)
is_removed selection RemoveAll p q = is_selected selection p.id q
is_removed selection Replace p q = is_selected selection p.id q
is_removed selection _ p q = false

-- the pair of the slot is taken away
abbrev pub is_taken : Selection → Edit → List Pair → Slot → Bool
is_taken selection e pool s =
    shows e.list s && is_removed selection e.op e.pair (slot_pair pool s)

-- the places of the slots that pass, the first of these slots at n
abbrev pub places_in : (Slot → Bool) → ℕ → List Slot → List ℕ
places_in p n [] = []
places_in p n (s ∷ ss) = if p s then n ∷ places_in p (n + 1) ss else places_in p (n + 1) ss

-- the pair of the slot at a place is taken away
abbrev pub is_taken_at : Selection → Edit → List Pair → List Slot → ℕ → Bool
is_taken_at selection e pool c i = is_taken selection e pool (slot_at c i)

-- the places of the slots whose pairs are taken away, by the end at which they entered
abbrev pub taken_at_end : End → Selection → Edit → List Pair → List Slot → List ℕ
taken_at_end end selection e pool c =
    filter (is_taken_at selection e pool c) (places_in (shows_at end e.list) 0 c)

abbrev pub taken_places : Selection → Edit → List Pair → List Slot → List ℕ
taken_places selection e pool c =
    taken_at_end Head selection e pool c ++ taken_at_end Tail selection e pool c

-- the slots before a plan's marks are turned, and after it
abbrev pub widened : Plan → List Slot → List Slot
widened p c = c ++ option_to_list p.added

abbrev pub planned : Plan → List Slot → List Slot
planned p c = forward p.turned.items p.swap (widened p c)

-- the edit's pair enters the pool
abbrev pub enters : Plan → Bool
enters p = is_some p.swap || is_some p.added

abbrev pub pooled : Plan → Pair → List Pair → List Pair
pooled p pair pool = if enters p then pool ++ pair ∷ [] else pool

-- the plan makes of the slots what the edit makes of the state that they show
pub record IsPlan (selection : Selection) (e : Edit) (pool : List Pair) (c : List Slot) (p : Plan)
    : Type 0 where
  pub places : PlacesWithin (length (widened p c)) p.turned.items
  pub swap : SwapWithin (length (widened p c)) p.swap
  pub added : (s : Slot) → p.added ≡ Some s → (s.mark.live ≡ false) × (s.initial ≡ s.mark)
  pub within : PairsWithin (length (pooled p e.pair pool)) (planned p c)
  pub state :
      shown_state (pooled p e.pair pool) (planned p c)
      ≡ edited_selected selection e (shown_state pool c)

-- n slots of the first state, from a place in the pool on
abbrev pub fresh_slot : WhichList → ℕ → Slot
fresh_slot which at =
    record {
      list = which;
      end = Tail;
      mark = record { live = true; pair = at };
      initial = record { live = true; pair = at };
    }

abbrev pub fresh : WhichList → ℕ → ℕ → List Slot
fresh which at zero = []
fresh which at (suc n) = fresh_slot which at ∷ fresh which (at + 1) n
