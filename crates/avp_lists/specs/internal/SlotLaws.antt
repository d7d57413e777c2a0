-- What the slot store's laws rest on.
use Rattle.std.proofs.Common.{◌≡◌, ℕ, ◌+◌, ◌-◌, ◌<◌, ◌≤◌, List, [], ◌∷◌, ◌++◌, length, map, min, ◌∙◌, arith}
use Rattle.std.specs.declared.vec.Vec.{Vec}
use Rattle.std.specs.declared.alloc.Global.{Global}
use Rattle.std.specs.Vec.{vec_capacity}
use Rattle.std.proofs.lemmas.List.{length-map, length_push}
use Rattle.avp_lists.specs.declared.pairs.Pair.{Pair}
use Rattle.avp_lists.specs.declared.slots.Slot.{Slot}
use Rattle.avp_lists.specs.declared.steps.Step.{Step}
use Rattle.avp_lists.specs.internal.Slots.{at_initial}
use Rattle.avp_lists.specs.internal.Steps.{after, replay, every, shown_states}
use Rattle.avp_lists.specs.internal.Shown.{shown_state}

-- a state for each step
pub length-replay : (first : List Slot) (done : List (List Slot)) (steps : List Step)
    → length (replay first done steps) ≡ length done + length steps
length-replay first done [] = omega arith
length-replay first done (e ∷ es) =
    let x = after first done e.change in
    omega (arith, length-replay first (done ++ x ∷ []) es, length_push done x)

pub length-every : (slots : List Slot) (steps : List Step)
    → length (every slots steps) ≡ length steps
length-every slots steps =
    let e : length (replay (map at_initial slots) [] steps) ≡ 0 + length steps =
    length-replay (map at_initial slots) [] steps in
    omega (arith, e)

pub length-shown_states : (pool : List Pair) (slots : List Slot) (steps : List Step)
    → length (shown_states pool slots steps) ≡ length steps
length-shown_states pool slots steps =
    length-map (every slots steps) (shown_state pool) ∙ length-every slots steps

pub placed_among : (pool : List Pair) (slots : List Slot) (steps : List Step) (place : ℕ)
    → place < length steps → place < length (shown_states pool slots steps)
placed_among pool slots steps place h = omega (arith, length-shown_states pool slots steps)

pub roomy_among : (pool : List Pair) (slots : List Slot)
    (steps : Vec Step Global) (nexts : Vec ℕ Global) (place : ℕ)
    → length nexts.items ≡ length steps.items
    → length (shown_states pool slots steps.items)
    ≤ place + 1 + (min (vec_capacity steps) (vec_capacity nexts) - (place + 1))
roomy_among pool slots steps nexts place beside =
    let a : length steps.items ≤ vec_capacity steps = omega (arith, steps.ok.0, steps.ok.1) in
    let b : length nexts.items ≤ vec_capacity nexts = omega (arith, nexts.ok.0, nexts.ok.1) in
    omega (arith, length-shown_states pool slots steps.items)
