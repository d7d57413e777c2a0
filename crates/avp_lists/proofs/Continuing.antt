-- A cut and one step more.
use Rattle.std.proofs.Common.{◌≡◌, ℕ, ◌+◌, ◌<◌, ◌≤◌, true, List, [], ◌∷◌, ◌++◌, length, get_or, map, take, sym, ap, ap₂, ◌∙◌, subst, inl, inr, arith}
use Rattle.std.proofs.lemmas.Bool.{cases_lt}
use Rattle.std.proofs.lemmas.List.{get_or-take, get_or_append_left, get_or_push, get_or_past, get_or_default, get_or-map, length-map, length-take-le, length_push, map_push, take-map}
use Rattle.avp_lists.specs.declared.pairs.Pair.{Pair}
use Rattle.avp_lists.specs.declared.lists.State.{State}
use Rattle.avp_lists.specs.declared.lists.List.TheVariants.{Request, Reply, Control}
use Rattle.avp_lists.specs.declared.slots.Slot.{Slot}
use Rattle.avp_lists.specs.declared.steps.Change.TheVariants.{Back}
use Rattle.avp_lists.specs.declared.steps.Step.{Step}
use Rattle.avp_lists.specs.States.{empty_state, IsLimited}
use Rattle.avp_lists.specs.internal.Slots.{at_initial, slot_at, Housed}
use Rattle.avp_lists.specs.internal.Steps.{after, every, slots_at, shown_states, no_step, step_at, change_at, turns, origin, BacksBelow, PlacesCounted, AllCounted, CountsWithin, CountsGrow, AllHoused}
use Rattle.avp_lists.specs.internal.Shown.{shown_state}
use Rattle.avp_lists.specs.internal.SlotLaws.{length-every}
use Rattle.avp_lists.proofs.Replay.{every-take, every-push, origin_fits}
use Rattle.avp_lists.proofs.Moves.{states-same}

-- what holds of each and of one more
pub each-continued : {X : Type 0} (P : X → Type 0) (d : X) (all : List X) (n : ℕ) (last : X) → n ≤ length all → P d → ((k : ℕ) → k < n → P (get_or all k d)) → P last → (k : ℕ) → P (get_or (take n all ++ last ∷ []) k d)
each-continued P d all n last within none each one k =
    let long : length (take n all) ≡ n = length-take-le n all within in
    elim (cases_lt k n) [
      | inl below ↦
          let inside : k < length (take n all) = omega arith in
          subst P (sym (get_or_append_left (take n all) (last ∷ []) d k inside ∙ get_or-take n all k d below)) (each k below)
      | inr past ↦ elim (cases_lt n k) [
        | inl beyond ↦
            let far : length (take n all ++ last ∷ []) ≤ k = omega (arith, length_push (take n all) last) in
            subst P (sym (get_or_past (take n all ++ last ∷ []) k d far)) none
        | inr low ↦
            let at : length (take n all) ≡ k = omega arith in
            subst P (sym (get_or_push (take n all) last d k at)) one
      ]
    ]

empty_limited : IsLimited empty_state
empty_limited Request = omega arith
empty_limited Reply = omega arith
empty_limited Control = omega arith

pub limited-continued : (all : List State) (n : ℕ) (last : State) → n ≤ length all → ((k : ℕ) → IsLimited (get_or all k empty_state)) → IsLimited last → (k : ℕ) → IsLimited (get_or (take n all ++ last ∷ []) k empty_state)
limited-continued all n last within each one = each-continued IsLimited empty_state all n last within empty_limited (λ k below. each k) one

pub state-each : (pool : List Pair) (all : List (List Slot)) (k : ℕ) → get_or (map (shown_state pool) all) k empty_state ≡ shown_state pool (get_or all k [])
state-each pool all k = elim (cases_lt k (length all)) [
  | inl within ↦ get_or-map (shown_state pool) all k [] empty_state within
  | inr past ↦
      let long : length (map (shown_state pool) all) ≤ k = omega (arith, length-map all (shown_state pool)) in
      get_or_past (map (shown_state pool) all) k empty_state long ∙ sym (ap (shown_state pool) (get_or_past all k [] past))
]

-- more are counted
pub housed_in : (c : List Slot) (m n m' n' : ℕ) → m ≤ m' → n ≤ n' → Housed m n c → Housed m' n' c
housed_in c m n m' n' ms ns housed i live =
    let h = housed i live in
    let a : i < m = h.0 in
    let b : (slot_at c i).mark.pair < n = h.1 in
    (omega arith, omega arith)

module _ (steps : List Step) (n : ℕ) (e : Step) (within : n ≤ length steps) where
  pub length-more : length (take n steps ++ e ∷ []) ≡ n + 1
  length-more = length_push (take n steps) e ∙ ap (λ m. m + 1) (length-take-le n steps within)

  pub step-kept : (k : ℕ) → k < n → step_at (take n steps ++ e ∷ []) k ≡ step_at steps k
  step-kept k below =
      let inside : k < length (take n steps) = omega (arith, length-take-le n steps within) in
      get_or_append_left (take n steps) (e ∷ []) no_step k inside ∙ get_or-take n steps k no_step below

  pub step-new : step_at (take n steps ++ e ∷ []) n ≡ e
  step-new = get_or_push (take n steps) e no_step n (length-take-le n steps within)

  pub counted-more : AllCounted steps → PlacesCounted e → AllCounted (take n steps ++ e ∷ [])
  counted-more counted new = each-continued PlacesCounted no_step steps n e within (λ i h. absurd (omega (arith, h)), omega arith) (λ k below. counted k) new

  pub counts-more : (a b : ℕ) → ((k : ℕ) → k < n → ((step_at steps k).slots ≤ a) × ((step_at steps k).pairs ≤ b)) → e.slots ≤ a → e.pairs ≤ b → CountsWithin a b (take n steps ++ e ∷ [])
  counts-more a b counts s p =
      let P : Step → Type 0 = λ x. (x.slots ≤ a) × (x.pairs ≤ b) in each-continued P no_step steps n e within (omega arith, omega arith) counts (s, p)

  pub grow-more : CountsGrow steps → ((j : ℕ) → j < n → ((step_at steps j).slots ≤ e.slots) × ((step_at steps j).pairs ≤ e.pairs)) → CountsGrow (take n steps ++ e ∷ [])
  grow-more grow new j k le inside =
      let all = take n steps ++ e ∷ [] in
      let P : Step → Step → Type 0 = λ x y. (x.slots ≤ y.slots) × (x.pairs ≤ y.pairs) in
      elim (cases_lt k n) [
        | inl below ↦
            let low : j < n = omega arith in
            let lt : k < length steps = omega arith in
            let one : P (step_at steps j) (step_at all k) = subst (P (step_at steps j)) (sym (step-kept k below)) (grow j k le lt) in
            let Q : Step → Type 0 = λ x. P x (step_at all k) in
            subst Q (sym (step-kept j low)) one
        | inr past ↦
            let at : k ≡ n = omega (arith, length-more) in
            let last : step_at all k ≡ e = ap (step_at all) at ∙ step-new in
            elim (cases_lt j n) [
              | inl low ↦
                  let one : P (step_at steps j) (step_at all k) = subst (P (step_at steps j)) (sym last) (new j low) in
                  let Q : Step → Type 0 = λ x. P x (step_at all k) in
                  subst Q (sym (step-kept j low)) one
              | inr high ↦
                  let same : step_at all k ≡ step_at all j = ap (step_at all) (let t : k ≡ j = omega arith in t) in
                  subst (P (step_at all j)) (sym same) (omega arith, omega arith)
            ]
      ]

  pub below-more : BacksBelow steps → ((to : ℕ) → e.change ≡ Back to → (to < n) × (turns (change_at steps to) ≡ true)) → BacksBelow (take n steps ++ e ∷ [])
  below-more backs new k to inside is =
      let all = take n steps ++ e ∷ [] in
      let change = λ (s : Step). s.change in
      elim (cases_lt k n) [
        | inl below ↦
            let lt : k < length steps = omega arith in
            let b = backs k to lt (sym (ap change (step-kept k below)) ∙ is) in
            let down : to < k = b.0 in
            let low : to < n = omega arith in
            (down, ap (λ (s : Step). turns s.change) (step-kept to low) ∙ b.1)
        | inr past ↦
            let at : n ≡ k = omega (arith, length-more) in
            let b = new to (sym (ap change step-new) ∙ ap (change_at all) at ∙ is) in
            let down : to < n = b.0 in
            (omega arith, ap (λ (s : Step). turns s.change) (step-kept to down) ∙ b.1)
      ]

  pub housed-more : (slots : List Slot) → ((k : ℕ) → k < n → Housed (step_at steps k).slots (step_at steps k).pairs (slots_at slots (take n steps ++ e ∷ []) k)) → Housed e.slots e.pairs (slots_at slots (take n steps ++ e ∷ []) n) → AllHoused slots (take n steps ++ e ∷ [])
  housed-more slots each new k =
      let all = take n steps ++ e ∷ [] in
      elim (cases_lt k n) [
        | inl below ↦ let P : Step → Type 0 = λ x. Housed x.slots x.pairs (slots_at slots all k) in subst P (sym (step-kept k below)) (each k below)
        | inr past ↦ elim (cases_lt n k) [
          | inl beyond ↦
              let far : length (every slots all) ≤ k = omega (arith, length-every slots all, length-more) in
              let P : List Slot → Type 0 = λ c. Housed (step_at all k).slots (step_at all k).pairs c in
              subst P (sym (get_or_past (every slots all) k [] far)) (λ i live. cc)
          | inr low ↦
              let at : n ≡ k = omega arith in
              let P : Step → Type 0 = λ x. Housed x.slots x.pairs (slots_at slots all n) in
              let Q : ℕ → Type 0 = λ m. Housed (step_at all m).slots (step_at all m).pairs (slots_at slots all m) in
              subst Q at (subst P (sym step-new) new)
        ]
      ]

-- going back once more
module _ (slots : List Slot) (steps : List Step) (n w : ℕ) (e : Step) (within : n ≤ length steps) (back : e.change ≡ Back w) (earlier : w < n) where
  pub every-back : every slots (take n steps ++ e ∷ []) ≡ take n (every slots steps) ++ slots_at slots steps w ∷ []
  every-back =
      let f = map at_initial slots in
      let all = every slots steps in
      let inside : w < length all = omega (arith, length-every slots steps) in
      let last : after f (take n all) e.change ≡ slots_at slots steps w = ap (after f (take n all)) back ∙ get_or-take n all w f earlier ∙ get_or_default all w f [] inside in
      every-push slots (take n steps) e
      ∙ ap (λ (xs : List (List Slot)). xs ++ after f xs e.change ∷ []) (every-take slots steps n within)
      ∙ ap (λ (x : List Slot). take n all ++ x ∷ []) last

  pub states-back : (pool : List Pair) → shown_states pool slots (take n steps ++ e ∷ []) ≡ take n (shown_states pool slots steps) ++ get_or (shown_states pool slots steps) w empty_state ∷ []
  states-back pool =
      ap (map (shown_state pool)) every-back
      ∙ map_push (shown_state pool) (take n (every slots steps)) (slots_at slots steps w)
      ∙ ap₂ (λ (xs : List State) (x : State). xs ++ x ∷ []) (sym (take-map (shown_state pool) n (every slots steps))) (sym (state-each pool (every slots steps) w))

  pub standing-back : slots_at slots (take n steps ++ e ∷ []) n ≡ slots_at slots steps w
  standing-back =
      let all = every slots steps in
      let le : n ≤ length all = omega (arith, length-every slots steps) in
      ap (λ (xs : List (List Slot)). get_or xs n []) every-back ∙ get_or_push (take n all) (slots_at slots steps w) [] n (length-take-le n all le)

  before-back : (k : ℕ) → k < n → slots_at slots (take n steps ++ e ∷ []) k ≡ slots_at slots steps k
  before-back k below =
      let all = every slots steps in
      let le : n ≤ length all = omega (arith, length-every slots steps) in
      let inside : k < length (take n all) = omega (arith, length-take-le n all le) in
      ap (λ (xs : List (List Slot)). get_or xs k []) every-back
      ∙ get_or_append_left (take n all) (slots_at slots steps w ∷ []) [] k inside
      ∙ get_or-take n all k [] below

  -- a later step counts no less
  pub housed-back : AllHoused slots steps → (step_at steps w).slots ≤ e.slots → (step_at steps w).pairs ≤ e.pairs → AllHoused slots (take n steps ++ e ∷ [])
  housed-back housed more_slots more_pairs =
      let each : (k : ℕ) → k < n → Housed (step_at steps k).slots (step_at steps k).pairs (slots_at slots (take n steps ++ e ∷ []) k) = λ k below. subst (Housed (step_at steps k).slots (step_at steps k).pairs) (sym (before-back k below)) (housed k) in
      let last : Housed e.slots e.pairs (slots_at slots (take n steps ++ e ∷ []) n) = subst (Housed e.slots e.pairs) (sym standing-back) (housed_in (slots_at slots steps w) (step_at steps w).slots (step_at steps w).pairs e.slots e.pairs more_slots more_pairs (housed w)) in
      housed-more steps n e within slots each last

-- going back to the place that the state at a place stands for
pub states-rolled : (pool : List Pair) (slots moved : List Slot) (steps : List Step) (n to w : ℕ) (e : Step) → n ≤ length steps → to < n → BacksBelow steps → w ≡ origin steps to → e.change ≡ Back w → map at_initial moved ≡ map at_initial slots → shown_states pool moved (take n steps ++ e ∷ []) ≡ take n (shown_states pool slots steps) ++ get_or (shown_states pool slots steps) to empty_state ∷ []
states-rolled pool slots moved steps n to w e within below backs is back initials =
    let lt : to < length steps = omega arith in
    let fits = origin_fits moved steps to backs lt in
    let low : origin steps to ≤ to = fits.0 in
    let earlier : w < n = omega arith in
    let same : get_or (shown_states pool moved steps) w empty_state ≡ get_or (shown_states pool moved steps) to empty_state =
    state-each pool (every moved steps) w
    ∙ ap (λ (m : ℕ). shown_state pool (slots_at moved steps m)) is
    ∙ ap (shown_state pool) fits.2
    ∙ sym (state-each pool (every moved steps) to) in
    states-back moved steps n w e within back earlier pool
    ∙ ap (λ (x : State). take n (shown_states pool moved steps) ++ x ∷ []) same
    ∙ ap (λ (xs : List State). take n xs ++ get_or xs to empty_state ∷ []) (states-same pool slots moved steps initials)
