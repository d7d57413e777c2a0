-- Slots that no step turns leave all that is before them as it was: for a slot more, and for a cut.
use Rattle.std.proofs.Common.{◌≡◌, ℕ, zero, suc, ◌-◌, ◌<◌, ◌≤◌, List, [], ◌∷◌, ◌++◌, Option, Some, None, length, get_or, set, map, refl, sym, ap, ◌∙◌, subst, inl, inr, arith}
use Rattle.std.proofs.lemmas.Bool.{cases_lt}
use Rattle.std.proofs.lemmas.List.{length-set, set-append_left, get_or_append_left, get_or_push, get_or_past, get_or_default, length-map, length_push, map_push, map-append}
use Rattle.avp_lists.specs.declared.slots.Slot.{Slot}
use Rattle.avp_lists.specs.declared.slots.Swap.{Swap}
use Rattle.avp_lists.specs.declared.steps.Change.{Change}
use Rattle.avp_lists.specs.declared.steps.Change.TheVariants.{Turned, Back}
use Rattle.avp_lists.specs.declared.steps.Step.{Step}
use Rattle.avp_lists.specs.internal.Slots.{no_slot, slot_at, flipped, turn, turn_all, with_other, swap_at, forward, PlacesWithin, SwapWithin}
use Rattle.avp_lists.specs.internal.Slots.{at_initial}
use Rattle.avp_lists.specs.internal.Steps.{last_or, after, replay, every, slots_at, places_of, swap_of, StepsWithin}
use Rattle.avp_lists.specs.internal.SlotLaws.{length-every}
use Rattle.avp_lists.proofs.Turning.{length-turn_all, length-forward}

pub set_grown : (f : Slot → Slot) (c d : List Slot) (i : ℕ) → i < length c → set (c ++ d) i (f (slot_at (c ++ d) i)) ≡ set c i (f (slot_at c i)) ++ d
set_grown f c d i within = ap (λ (s : Slot). set (c ++ d) i (f s)) (get_or_append_left c d no_slot i within) ∙ set-append_left c d i (f (slot_at c i)) within

pub turn_all-grown : (places : List ℕ) (c d : List Slot) → PlacesWithin (length c) places → turn_all places (c ++ d) ≡ turn_all places c ++ d
turn_all-grown [] c d h = refl
turn_all-grown (i ∷ is) c d h =
    let first : i < length c = h 0 (omega arith) in
    let same = length-set c i (flipped (slot_at c i)) in
    let rest : PlacesWithin (length (turn c i)) is = let P : ℕ → Type 0 = λ m. PlacesWithin m is in subst P (sym same) (λ k lt. h (suc k) (omega (arith, lt))) in
    ap (turn_all is) (set_grown flipped c d i first) ∙ turn_all-grown is (turn c i) d rest

pub swap_at-grown : (by : Option Swap) (c d : List Slot) → SwapWithin (length c) by → swap_at by (c ++ d) ≡ swap_at by c ++ d
swap_at-grown None c d h = refl
swap_at-grown (Some w) c d h = set_grown (with_other w) c d w.slot (omega (arith, h))

pub forward-grown : (places : List ℕ) (by : Option Swap) (c d : List Slot) → PlacesWithin (length c) places → SwapWithin (length c) by → forward places by (c ++ d) ≡ forward places by c ++ d
forward-grown places by c d ns sw =
    let P : ℕ → Type 0 = λ m. SwapWithin m by in
    ap (swap_at by) (turn_all-grown places c d ns) ∙ swap_at-grown by (turn_all places c) d (subst P (sym (length-turn_all places c)) sw)

get_or-all : (g : List Slot → List Slot) (xs : List (List Slot)) (k : ℕ) (d : List Slot) → get_or (map g xs) k (g d) ≡ g (get_or xs k d)
get_or-all g [] k d = refl
get_or-all g (x ∷ xs) zero d = refl
get_or-all g (x ∷ xs) (suc k) d = get_or-all g xs k d

-- every list of slots is as long as the first
abbrev pub SameLength : List Slot → List (List Slot) → Type 0
SameLength f done = (k : ℕ) → length (get_or done k f) ≡ length f

length-after : (f : List Slot) (done : List (List Slot)) (x : Change) → SameLength f done → length (after f done x) ≡ length f
length-after f done (Turned places by) same = length-forward places.items by (last_or f done) ∙ same (length done - 1)
length-after f done (Back to) same = same to

SameLength-push : (f : List Slot) (done : List (List Slot)) (a : List Slot) → SameLength f done → length a ≡ length f → SameLength f (done ++ a ∷ [])
SameLength-push f done a same e k =
    let P : List Slot → Type 0 = λ c. length c ≡ length f in
    elim (cases_lt k (length done)) [
      | inl below ↦ subst P (sym (get_or_append_left done (a ∷ []) f k below)) (same k)
      | inr past ↦ elim (cases_lt (length done) k) [
        | inl beyond ↦
            let far : length (done ++ a ∷ []) ≤ k = omega (arith, length_push done a) in
            subst P (sym (get_or_past (done ++ a ∷ []) k f far)) refl
        | inr low ↦ let at : length done ≡ k = omega arith in subst P (sym (get_or_push done a f k at)) e
      ]
    ]

after-grown : (f d : List Slot) (done : List (List Slot)) (x : Change) → SameLength f done → PlacesWithin (length f) (places_of x) → SwapWithin (length f) (swap_of x) → after (f ++ d) (map (λ (c : List Slot). c ++ d) done) x ≡ after f done x ++ d
after-grown f d done (Turned places by) same ns sw =
    let g : List Slot → List Slot = λ c. c ++ d in
    let last = last_or f done in
    let e : last_or (f ++ d) (map g done) ≡ last ++ d = ap (λ (n : ℕ). get_or (map g done) (n - 1) (f ++ d)) (length-map done g) ∙ get_or-all g done (length done - 1) f in
    let long = same (length done - 1) in
    let N : ℕ → Type 0 = λ m. PlacesWithin m places.items in
    let S : ℕ → Type 0 = λ m. SwapWithin m by in
    ap (forward places.items by) e ∙ forward-grown places.items by last d (subst N (sym long) ns) (subst S (sym long) sw)
after-grown f d done (Back to) same ns sw = get_or-all (λ (c : List Slot). c ++ d) done to f

pub replay-grown : (f d : List Slot) (done : List (List Slot)) (steps : List Step) → SameLength f done → StepsWithin (length f) steps → replay (f ++ d) (map (λ (c : List Slot). c ++ d) done) steps ≡ map (λ (c : List Slot). c ++ d) (replay f done steps)
replay-grown f d done [] same fits = refl
replay-grown f d done (e ∷ es) same fits =
    let g : List Slot → List Slot = λ c. c ++ d in
    let a = after f done e.change in
    let first = fits 0 in
    let step : map g done ++ after (f ++ d) (map g done) e.change ∷ [] ≡ map g (done ++ a ∷ []) = ap (λ (x : List Slot). map g done ++ x ∷ []) (after-grown f d done e.change same first.0 first.1) ∙ sym (map_push g done a) in
    ap (λ (xs : List (List Slot)). replay (f ++ d) xs es) step
    ∙ replay-grown f d (done ++ a ∷ []) es (SameLength-push f done a same (length-after f done e.change same)) (λ k. fits (suc k))

-- the states of slots and more slots, which no step turns
pub every-grown : (slots more : List Slot) (steps : List Step) → StepsWithin (length slots) steps → every (slots ++ more) steps ≡ map (λ (c : List Slot). c ++ map at_initial more) (every slots steps)
every-grown slots more steps fits =
    let f = map at_initial slots in
    let d = map at_initial more in
    let P : ℕ → Type 0 = λ m. StepsWithin m steps in
    ap (λ (x : List Slot). replay x [] steps) (map-append at_initial slots more)
    ∙ replay-grown f d [] steps (λ k. refl) (subst P (sym (length-map slots at_initial)) fits)

-- each state has all the slots
SameLength-replay : (f : List Slot) (done : List (List Slot)) (steps : List Step) → SameLength f done → SameLength f (replay f done steps)
SameLength-replay f done [] same = same
SameLength-replay f done (e ∷ es) same =
    let a = after f done e.change in
    SameLength-replay f (done ++ a ∷ []) es (SameLength-push f done a same (length-after f done e.change same))

pub length-each : (slots : List Slot) (steps : List Step) (k : ℕ) → k < length steps → length (slots_at slots steps k) ≡ length slots
length-each slots steps k within =
    let f = map at_initial slots in
    let inside : k < length (every slots steps) = omega (arith, length-every slots steps) in
    ap length (sym (get_or_default (every slots steps) k f [] inside))
    ∙ SameLength-replay f [] steps (λ j. refl) k
    ∙ length-map slots at_initial
