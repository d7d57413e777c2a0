-- The slots at each place, by the steps that lead there.
use Rattle.std.proofs.Common.{◌≡◌, ℕ, ◌+◌, ◌-◌, ◌<◌, ◌≤◌, true, List, [], ◌∷◌, ◌++◌, length, get_or, map, take, drop, refl, sym, ap, ◌∙◌, arith}
use Rattle.std.proofs.lemmas.List.{append-nil, append_assoc, length-take-le, get_or-take, get_or_push, get_or_default, take_more, take_at, take-append-drop}
use Rattle.avp_lists.specs.declared.slots.Slot.{Slot}
use Rattle.avp_lists.specs.declared.steps.Change.{Change}
use Rattle.avp_lists.specs.declared.steps.Change.TheVariants.{Turned, Back}
use Rattle.avp_lists.specs.declared.steps.Step.{Step}
use Rattle.avp_lists.specs.internal.Slots.{forward, backward}
use Rattle.avp_lists.specs.internal.Slots.{at_initial}
use Rattle.avp_lists.specs.internal.Steps.{last_or, after, replay, every, slots_at, change_at, places_of, swap_of, turns, origin, origin_of, BacksBelow}
use Rattle.avp_lists.specs.internal.SlotLaws.{length-every}
use Rattle.avp_lists.proofs.Turning.{backward-forward}

pub replay-append : (f : List Slot) (done : List (List Slot)) (xs ys : List Step) → replay f done (xs ++ ys) ≡ replay f (replay f done xs) ys
replay-append f done [] ys = refl
replay-append f done (x ∷ xs) ys = replay-append f (done ++ after f done x.change ∷ []) xs ys

-- what is done stays
pub replay_extends : (f : List Slot) (done : List (List Slot)) (xs : List Step) → (more : List (List Slot)) × (replay f done xs ≡ done ++ more)
replay_extends f done [] = ([], sym (append-nil done))
replay_extends f done (x ∷ xs) =
    let a = after f done x.change in
    let rest = replay_extends f (done ++ a ∷ []) xs in
    (a ∷ rest.0, rest.1 ∙ append_assoc done (a ∷ []) rest.0)

-- a prefix of the steps gives a prefix of the states
pub every-take : (slots : List Slot) (steps : List Step) (n : ℕ) → n ≤ length steps → every slots (take n steps) ≡ take n (every slots steps)
every-take slots steps n within =
    let f = map at_initial slots in
    let few = every slots (take n steps) in
    let whole : every slots steps ≡ replay f few (drop n steps) = ap (replay f []) (sym (take-append-drop n steps)) ∙ replay-append f [] (take n steps) (drop n steps) in
    let more = replay_extends f few (drop n steps) in
    let long : length few ≡ n = length-every slots (take n steps) ∙ length-take-le n steps within in
    sym (ap (take n) (whole ∙ more.1) ∙ take_at few more.0 n long)

pub every-push : (slots : List Slot) (steps : List Step) (e : Step) → every slots (steps ++ e ∷ []) ≡ every slots steps ++ after (map at_initial slots) (every slots steps) e.change ∷ []
every-push slots steps e = replay-append (map at_initial slots) [] steps (e ∷ [])

-- each state by the step that leads to it
pub slots_at-after : (slots : List Slot) (steps : List Step) (k : ℕ) → k < length steps → slots_at slots steps k ≡ after (map at_initial slots) (take k (every slots steps)) (change_at steps k)
slots_at-after slots steps k within =
    let d : Step = record { change = Back 0; slots = 0; pairs = 0 } in
    let le : k + 1 ≤ length steps = omega arith in
    let le' : k ≤ length steps = omega arith in
    let few = every slots (take k steps) in
    let cut : take (k + 1) (every slots steps) ≡ few ++ after (map at_initial slots) few (change_at steps k) ∷ [] = sym (every-take slots steps (k + 1) le) ∙ ap (every slots) (take_more steps k d within) ∙ every-push slots (take k steps) (get_or steps k d) in
    let long : length few ≡ k = length-every slots (take k steps) ∙ length-take-le k steps le' in
    let below : k < k + 1 = omega arith in
    sym (get_or-take (k + 1) (every slots steps) k [] below)
    ∙ ap (λ (xs : List (List Slot)). get_or xs k []) cut
    ∙ get_or_push few (after (map at_initial slots) few (change_at steps k)) [] k long
    ∙ ap (λ (xs : List (List Slot)). after (map at_initial slots) xs (change_at steps k)) (every-take slots steps k le')

by_turn : (x : Change) → turns x ≡ true → (f : List Slot) (done : List (List Slot)) → after f done x ≡ forward (places_of x) (swap_of x) (last_or f done)
by_turn (Turned places by) h f done = refl
by_turn (Back to) h f done = cc

by_back : (x : Change) (to : ℕ) → x ≡ Back to → (f : List Slot) (done : List (List Slot)) → after f done x ≡ get_or done to f
by_back x to e f done = ap (after f done) e

pub slots_at-turned : (slots : List Slot) (steps : List Step) (k : ℕ) → k < length steps → 0 < k → turns (change_at steps k) ≡ true → slots_at slots steps k ≡ forward (places_of (change_at steps k)) (swap_of (change_at steps k)) (slots_at slots steps (k - 1))
slots_at-turned slots steps k within above turned =
    let f = map at_initial slots in
    let all = every slots steps in
    let le : k ≤ length all = omega (arith, length-every slots steps) in
    let long : length (take k all) ≡ k = length-take-le k all le in
    let below : k - 1 < k = omega arith in
    let inside : k - 1 < length all = omega arith in
    let last : last_or f (take k all) ≡ slots_at slots steps (k - 1) = ap (λ (n : ℕ). get_or (take k all) (n - 1) f) long ∙ get_or-take k all (k - 1) f below ∙ get_or_default all (k - 1) f [] inside in
    slots_at-after slots steps k within ∙ by_turn (change_at steps k) turned f (take k all) ∙ ap (forward (places_of (change_at steps k)) (swap_of (change_at steps k))) last

pub slots_at-back : (slots : List Slot) (steps : List Step) (k to : ℕ) → k < length steps → to < k → change_at steps k ≡ Back to → slots_at slots steps k ≡ slots_at slots steps to
slots_at-back slots steps k to within below e =
    let f = map at_initial slots in
    let all = every slots steps in
    let inside : to < length all = omega (arith, length-every slots steps) in
    slots_at-after slots steps k within ∙ by_back (change_at steps k) to e f (take k all) ∙ get_or-take k all to f below ∙ get_or_default all to f [] inside

-- the place that a state's slots come from
origin_cases : (slots : List Slot) (steps : List Step) (k : ℕ) → BacksBelow steps → k < length steps → (x : Change) → change_at steps k ≡ x → (origin_of k x ≤ k) × (turns (change_at steps (origin_of k x)) ≡ true) × (slots_at slots steps (origin_of k x) ≡ slots_at slots steps k)
origin_cases slots steps k below within (Turned places by) e = (omega arith, ap turns e, refl)
origin_cases slots steps k below within (Back to) e =
    let b = below k to within e in
    let lt : to < k = b.0 in
    (omega arith, b.1, sym (slots_at-back slots steps k to within lt e))

pub origin_fits : (slots : List Slot) (steps : List Step) (k : ℕ) → BacksBelow steps → k < length steps → (origin steps k ≤ k) × (turns (change_at steps (origin steps k)) ≡ true) × (slots_at slots steps (origin steps k) ≡ slots_at slots steps k)
origin_fits slots steps k below within = origin_cases slots steps k below within (change_at steps k) refl

-- the marks of the first state decide
pub slots_at-same : (a b : List Slot) (steps : List Step) (k : ℕ) → map at_initial a ≡ map at_initial b → slots_at a steps k ≡ slots_at b steps k
slots_at-same a b steps k e = ap (λ (f : List Slot). get_or (replay f [] steps) k []) e

-- one step back
pub slots_at-before : (slots : List Slot) (steps : List Step) (k : ℕ) → k < length steps → 0 < k → turns (change_at steps k) ≡ true → backward (places_of (change_at steps k)) (swap_of (change_at steps k)) (slots_at slots steps k) ≡ slots_at slots steps (k - 1)
slots_at-before slots steps k within above turned =
    let x = change_at steps k in
    ap (backward (places_of x) (swap_of x)) (slots_at-turned slots steps k within above turned) ∙ backward-forward (places_of x) (swap_of x) (slots_at slots steps (k - 1))

-- what a step is, by what was read of it
pub change_at_read : (steps : List Step) (k : ℕ) (x : Step) (y : Change) → k < length steps → (get_or steps k x).change ≡ y → change_at steps k ≡ y
change_at_read steps k x y within e =
    let d : Step = record { change = Back 0; slots = 0; pairs = 0 } in
    ap (λ (s : Step). s.change) (get_or_default steps k d x within) ∙ e

pub ahead_by : (slots : List Slot) (steps : List Step) (k : ℕ) (x : Change) → k < length steps → 0 < k → turns (change_at steps k) ≡ true → change_at steps k ≡ x → slots ≡ slots_at slots steps (k - 1) → forward (places_of x) (swap_of x) slots ≡ slots_at slots steps k
ahead_by slots steps k x within above turned e standing =
    ap (forward (places_of x) (swap_of x)) standing
    ∙ ap (λ (y : Change). forward (places_of y) (swap_of y) (slots_at slots steps (k - 1))) (sym e)
    ∙ sym (slots_at-turned slots steps k within above turned)

pub back_by : (slots : List Slot) (steps : List Step) (k : ℕ) (x : Change) → k < length steps → 0 < k → turns (change_at steps k) ≡ true → change_at steps k ≡ x → slots ≡ slots_at slots steps k → backward (places_of x) (swap_of x) slots ≡ slots_at slots steps (k - 1)
back_by slots steps k x within above turned e standing =
    ap (backward (places_of x) (swap_of x)) standing
    ∙ ap (λ (y : Change). backward (places_of y) (swap_of y) (slots_at slots steps k)) (sym e)
    ∙ slots_at-before slots steps k within above turned
