-- What a move of the marks leaves as it was, and what it makes true.
use Rattle.std.proofs.Common.{◌≡◌, ℕ, ◌<◌, ◌≤◌, true, List, [], length, get_or, map, sym, ap, ◌∙◌, subst, arith}
use Rattle.avp_lists.specs.declared.pairs.Pair.{Pair}
use Rattle.avp_lists.specs.declared.lists.State.{State}
use Rattle.avp_lists.specs.declared.slots.Slot.{Slot}
use Rattle.avp_lists.specs.declared.steps.Step.{Step}
use Rattle.avp_lists.specs.States.{empty_state, IsLimited}
use Rattle.avp_lists.specs.internal.Slots.{at_initial}
use Rattle.avp_lists.specs.internal.Steps.{replay, shown_states, slots_at, step_at, change_at, turns, origin, places_of, swap_of, BacksBelow, StepsWithin, AllCounted, CountsWithin, AllHoused, StatesLimited}
use Rattle.avp_lists.specs.internal.Shown.{shown_state}
use Rattle.avp_lists.specs.internal.Slots.{PlacesWithin, SwapWithin, Housed}
use Rattle.avp_lists.proofs.Replay.{origin_fits, slots_at-same}

module _ (pool : List Pair) (slots moved : List Slot) (steps : List Step) (initials : map at_initial moved ≡ map at_initial slots) where
  pub states-same : shown_states pool moved steps ≡ shown_states pool slots steps
  states-same = ap (λ (f : List Slot). map (shown_state pool) (replay f [] steps)) initials

  pub housed-same : AllHoused slots steps → AllHoused moved steps
  housed-same housed k = subst (Housed (step_at steps k).slots (step_at steps k).pairs) (sym (slots_at-same moved slots steps k initials)) (housed k)

  pub limited-same : StatesLimited pool slots steps → StatesLimited pool moved steps
  limited-same limited k = let P : List State → Type 0 = λ c. IsLimited (get_or c k empty_state) in subst P (sym states-same) (limited k)

  -- at the place that was moved to
  pub standing-moved : (to : ℕ) → BacksBelow steps → to < length steps → moved ≡ slots_at slots steps (origin steps to) → slots_at moved steps to ≡ moved
  standing-moved to below within at = slots_at-same moved slots steps to initials ∙ sym (origin_fits slots steps to below within).2 ∙ sym at

-- what a move asks of a place
pub origin_within : (slots : List Slot) (steps : List Step) (k n : ℕ) → BacksBelow steps → k < length steps → n ≡ origin steps k → (n < length steps) × (turns (change_at steps n) ≡ true)
origin_within slots steps k n below within e =
    let fits = origin_fits slots steps k below within in
    let low : origin steps k ≤ k = fits.0 in
    let P : ℕ → Type 0 = λ m. (m < length steps) × (turns (change_at steps m) ≡ true) in
    subst P (sym e) (omega arith, fits.1)

pub origin_standing : (slots : List Slot) (steps : List Step) (k n : ℕ) → BacksBelow steps → k < length steps → n ≡ origin steps k → slots_at slots steps k ≡ slots → slots ≡ slots_at slots steps n
origin_standing slots steps k n below within e standing = sym standing ∙ sym (origin_fits slots steps k below within).2 ∙ ap (slots_at slots steps) (sym e)

-- what steps turn is among the slots
pub places_more : (places : List ℕ) (a b : ℕ) → a ≤ b → PlacesWithin a places → PlacesWithin b places
places_more places a b le h i lt =
    let low : get_or places i 0 < a = h i lt in
    omega arith

pub steps_within : (m n : ℕ) (steps : List Step) → AllCounted steps → CountsWithin m n steps → StepsWithin m steps
steps_within m n steps counted counts k =
    let c = counted k in
    let all = counts k in
    let le : (step_at steps k).slots ≤ m = all.0 in
    let s : SwapWithin (step_at steps k).slots (swap_of (change_at steps k)) = c.1 in
    (places_more (places_of (change_at steps k)) (step_at steps k).slots m le c.0, omega (arith, s, le))
