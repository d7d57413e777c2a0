-- A state more, once what is after the place is cut off.
use Rattle.std.proofs.Common.{◌≡◌, ℕ, suc, ◌+◌, ◌-◌, ◌<◌, ◌≤◌, true, false, List, [], ◌∷◌, ◌++◌, Option, length, get_or, map, take, drop, refl, sym, ap, ap₂, ◌∙◌, subst, inl, inr, arith, append-nil}
use Rattle.std.specs.declared.vec.Vec.{Vec}
use Rattle.std.specs.declared.alloc.Global.{Global}
use Rattle.std.proofs.lemmas.Bool.{cases_lt}
use Rattle.std.proofs.lemmas.List.{get_or-take, get_or_append_left, get_or-append-add, get_or_push, get_or_past, get_or-map, length-map, length-take-le, map_push, take-map, take_at, take-append-drop}
use Rattle.avp_lists.specs.declared.pairs.Pair.{Pair}
use Rattle.avp_lists.specs.declared.lists.State.{State}
use Rattle.avp_lists.specs.declared.slots.Slot.{Slot}
use Rattle.avp_lists.specs.declared.slots.Swap.{Swap}
use Rattle.avp_lists.specs.declared.steps.Change.{Change}
use Rattle.avp_lists.specs.declared.steps.Change.TheVariants.{Turned, Back}
use Rattle.avp_lists.specs.declared.steps.Step.{Step}
use Rattle.avp_lists.specs.internal.Slots.{no_slot, slot_at, at_initial, forward, PlacesWithin, SwapWithin, Housed, PairsWithin}
use Rattle.avp_lists.specs.internal.Steps.{last_or, after, replay, every, slots_at, shown_states, no_step, step_at, change_at, places_of, swap_of, StepsWithin, BacksBelow, AllCounted, CountsWithin, CountsGrow, AllHoused}
use Rattle.avp_lists.specs.internal.Shown.{no_pair, slot_pair, shown_state}
use Rattle.avp_lists.specs.internal.SlotLaws.{length-every}
use Rattle.avp_lists.proofs.Turning.{length-forward, initials-forward}
use Rattle.avp_lists.proofs.Moves.{places_more}
use Rattle.avp_lists.proofs.Replay.{every-take, every-push}
use Rattle.avp_lists.proofs.Growing.{every-grown, length-each}
use Rattle.avp_lists.proofs.ShownPairs.{shown_state-same}
use Rattle.avp_lists.proofs.Settling.{housed_all}
use Rattle.avp_lists.proofs.Continuing.{counted-more, counts-more, grow-more, below-more, housed-more}

maps_agree : (f g : List Slot → State) (xs : List (List Slot)) → ((j : ℕ) → j < length xs → f (get_or xs j []) ≡ g (get_or xs j [])) → map f xs ≡ map g xs
maps_agree f g [] same = refl
maps_agree f g (x ∷ xs) same = ap₂ (λ (s : State) (ss : List State). s ∷ ss) (same 0 (omega arith)) (maps_agree f g xs (λ j lt. same (suc j) (omega (arith, lt))))

map-twice : (f : List Slot → State) (g : List Slot → List Slot) (xs : List (List Slot)) → map f (map g xs) ≡ map (λ (c : List Slot). f (g c)) xs
map-twice f g [] = refl
map-twice f g (x ∷ xs) = ap (λ (ss : List State). f (g x) ∷ ss) (map-twice f g xs)

dark : false ≡ true → ⊥
dark h = cc

-- the slots and the steps that stay, the states of those slots, and the slots that go
abbrev few : List Slot → List Step → ℕ → List Slot
few slots steps k = take (step_at steps k).slots slots

abbrev old : List Step → ℕ → List Step
old steps k = take (k + 1) steps

abbrev base : List Slot → List Step → ℕ → List (List Slot)
base slots steps k = every (few slots steps k) (old steps k)

abbrev gone : List Slot → List Step → ℕ → List Slot
gone slots steps k = map at_initial (drop (step_at steps k).slots slots)

module _ (pool : List Pair) (slots : List Slot) (steps : List Step) (k : ℕ) (placed : k < length steps) (counted : AllCounted steps) (counts : CountsWithin (length slots) (length pool) steps) (grow : CountsGrow steps) (housed : AllHoused slots steps) (standing : slots_at slots steps k ≡ slots) where
  below-end : k + 1 ≤ length steps
  below-end = omega (arith, placed)

  pub long-old : length (old steps k) ≡ k + 1
  long-old = length-take-le (k + 1) steps below-end

  pub long-few : length (few slots steps k) ≡ (step_at steps k).slots
  long-few = let c = counts k in length-take-le (step_at steps k).slots slots c.0

  pub long-pairs : length (take (step_at steps k).pairs pool) ≡ (step_at steps k).pairs
  long-pairs = let c = counts k in length-take-le (step_at steps k).pairs pool c.1

  within-old : StepsWithin (step_at steps k).slots (old steps k)
  within-old j =
      let m = (step_at steps k).slots in
      let P : Step → Type 0 = λ s. PlacesWithin m (places_of s.change) × SwapWithin m (swap_of s.change) in
      elim (cases_lt j (k + 1)) [
        | inl below ↦
            let le : j ≤ k = omega arith in
            let g = grow j k le placed in
            let more : (step_at steps j).slots ≤ m = g.0 in
            let c = counted j in
            let s : SwapWithin (step_at steps j).slots (swap_of (change_at steps j)) = c.1 in
            subst P (sym (get_or-take (k + 1) steps j no_step below)) (places_more (places_of (change_at steps j)) (step_at steps j).slots m more c.0, omega (arith, s, more))
        | inr past ↦
            let far : length (old steps k) ≤ j = omega (arith, long-old) in
            subst P (sym (get_or_past (old steps k) j no_step far)) (λ i h. absurd (omega (arith, h)), omega arith)
      ]

  within-few : StepsWithin (length (few slots steps k)) (old steps k)
  within-few = let P : ℕ → Type 0 = λ n. StepsWithin n (old steps k) in subst P (sym long-few) within-old

  pub long-base : length (base slots steps k) ≡ k + 1
  long-base = length-every (few slots steps k) (old steps k) ∙ long-old

  -- each state that stays, with the slots that go
  every-old : take (k + 1) (every slots steps) ≡ map (λ (c : List Slot). c ++ gone slots steps k) (base slots steps k)
  every-old =
      sym (every-take slots steps (k + 1) below-end)
      ∙ ap (λ (c : List Slot). every c (old steps k)) (sym (take-append-drop (step_at steps k).slots slots))
      ∙ every-grown (few slots steps k) (drop (step_at steps k).slots slots) (old steps k) within-few

  at-old : (j : ℕ) → j < k + 1 → slots_at slots steps j ≡ get_or (base slots steps k) j [] ++ gone slots steps k
  at-old j below =
      let inside : j < length (base slots steps k) = omega (arith, long-base) in
      sym (get_or-take (k + 1) (every slots steps) j [] below)
      ∙ ap (λ (xs : List (List Slot)). get_or xs j []) every-old
      ∙ get_or-map (λ (c : List Slot). c ++ gone slots steps k) (base slots steps k) j [] [] inside

  long-at : (j : ℕ) → j < k + 1 → length (get_or (base slots steps k) j []) ≡ (step_at steps k).slots
  long-at j below =
      let inside : j < length (old steps k) = omega (arith, long-old) in
      length-each (few slots steps k) (old steps k) j inside ∙ long-few

  -- the present slots are those that stay, and those that go
  standing-few : get_or (base slots steps k) k [] ≡ few slots steps k
  standing-few =
      let m = (step_at steps k).slots in
      let now = get_or (base slots steps k) k [] in
      let below : k < k + 1 = omega arith in
      sym (take_at now (gone slots steps k) m (long-at k below)) ∙ ap (take m) (sym (at-old k below) ∙ standing)

  -- what goes shows nothing
  dark-gone : (i : ℕ) → (slot_at (gone slots steps k) i).mark.live ≡ true → ⊥
  dark-gone i live =
      let now = get_or (base slots steps k) k [] in
      let below : k < k + 1 = omega arith in
      let at : slot_at (slots_at slots steps k) (length now + i) ≡ slot_at (gone slots steps k) i = ap (λ (c : List Slot). slot_at c (length now + i)) (at-old k below) ∙ get_or-append-add now (gone slots steps k) i no_slot in
      let h = housed k (length now + i) (ap (λ (s : Slot). s.mark.live) at ∙ live) in
      let low : length now + i < (step_at steps k).slots = h.0 in
      absurd (omega (arith, low, long-at k below))

  housed-at : (j : ℕ) → j < k + 1 → Housed (step_at steps j).slots (step_at steps j).pairs (get_or (base slots steps k) j [])
  housed-at j below i =
      let c = get_or (base slots steps k) j [] in
      let P : Slot → Type 0 = λ s. s.mark.live ≡ true → (i < (step_at steps j).slots) × (s.mark.pair < (step_at steps j).pairs) in
      elim (cases_lt i (length c)) [
        | inl inside ↦ subst P (ap (λ (x : List Slot). slot_at x i) (at-old j below) ∙ get_or_append_left c (gone slots steps k) no_slot i inside) (housed j i)
        | inr past ↦ subst P (sym (get_or_past c i no_slot past)) (λ live. absurd (dark live))
      ]

  -- what stays shows the present state
  pub state-few : shown_state (take (step_at steps k).pairs pool) (few slots steps k) ≡ shown_state pool slots
  state-few =
      let q = (step_at steps k).pairs in
      let now = get_or (base slots steps k) k [] in
      let below : k < k + 1 = omega arith in
      let agree : (i : ℕ) → (slot_at now i).mark.live ≡ true → slot_pair (take q pool) (slot_at now i) ≡ slot_pair pool (slot_at now i) = λ i live. let h = housed-at k below i live in get_or-take q pool (slot_at now i).mark.pair no_pair h.1 in
      ap (shown_state (take q pool)) (sym standing-few ∙ sym (append-nil now))
      ∙ shown_state-same pool (take q pool) now (gone slots steps k) [] dark-gone (λ i live. cc) agree
      ∙ ap (shown_state pool) (sym (at-old k below) ∙ standing)

  pub fits-few : PairsWithin (length (take (step_at steps k).pairs pool)) (few slots steps k)
  fits-few =
      let below : k < k + 1 = omega arith in
      let P : List Slot → Type 0 = λ c. PairsWithin (step_at steps k).pairs c in
      let Q : ℕ → Type 0 = λ n. PairsWithin n (few slots steps k) in
      subst Q (sym long-pairs) (subst P standing-few (λ i live. let h = housed-at k below i live in h.1))

  -- the slots and pairs that are added, and the new state
  module _ (more : List Slot) (initials : map at_initial more ≡ more) (dark-more : (i : ℕ) → (slot_at more i).mark.live ≡ true → ⊥) (xs : List Pair) (v : Vec ℕ Global) (by : Option Swap) (e : Step) (new : List Slot) (N : new ≡ forward v.items by (few slots steps k ++ more)) (T : e.change ≡ Turned v by) where
    grown : every (few slots steps k ++ more) (old steps k) ≡ map (λ (c : List Slot). c ++ more) (base slots steps k)
    grown = every-grown (few slots steps k) more (old steps k) within-few ∙ ap (λ (d : List Slot). map (λ (c : List Slot). c ++ d) (base slots steps k)) initials

    long-grown : length (map (λ (c : List Slot). c ++ more) (base slots steps k)) ≡ k + 1
    long-grown = length-map (base slots steps k) (λ (c : List Slot). c ++ more) ∙ long-base

    every-new : every new (old steps k ++ e ∷ []) ≡ map (λ (c : List Slot). c ++ more) (base slots steps k) ++ new ∷ []
    every-new =
        let g : List Slot → List Slot = λ c. c ++ more in
        let wide = few slots steps k ++ more in
        let f = map at_initial wide in
        let done = map g (base slots steps k) in
        let same : map at_initial new ≡ f = ap (map at_initial) N ∙ initials-forward v.items by wide in
        let inside : k < length (base slots steps k) = omega (arith, long-base) in
        let place : length done - 1 ≡ k = omega (arith, long-grown) in
        let last : last_or f done ≡ wide = ap (λ (n : ℕ). get_or done n f) place ∙ get_or-map g (base slots steps k) k [] f inside ∙ ap g standing-few in
        let turned : after f done e.change ≡ new = ap (after f done) T ∙ ap (forward v.items by) last ∙ sym N in
        ap (λ (c : List Slot). replay c [] (old steps k ++ e ∷ [])) same
        ∙ every-push wide (old steps k) e
        ∙ ap (λ (d : List (List Slot)). d ++ after f d e.change ∷ []) grown
        ∙ ap (λ (x : List Slot). done ++ x ∷ []) turned

    pub standing-new : slots_at new (old steps k ++ e ∷ []) (k + 1) ≡ new
    standing-new =
        let done = map (λ (c : List Slot). c ++ more) (base slots steps k) in
        ap (λ (all : List (List Slot)). get_or all (k + 1) []) every-new ∙ get_or_push done new [] (k + 1) long-grown

    at-new : (j : ℕ) → j < k + 1 → slots_at new (old steps k ++ e ∷ []) j ≡ get_or (base slots steps k) j [] ++ more
    at-new j below =
        let g : List Slot → List Slot = λ c. c ++ more in
        let done = map g (base slots steps k) in
        let inside : j < length done = omega (arith, long-grown) in
        let within : j < length (base slots steps k) = omega (arith, long-base) in
        ap (λ (all : List (List Slot)). get_or all j []) every-new
        ∙ get_or_append_left done (new ∷ []) [] j inside
        ∙ get_or-map g (base slots steps k) j [] [] within

    agree : (j : ℕ) → j < k + 1 → (i : ℕ) → (slot_at (get_or (base slots steps k) j []) i).mark.live ≡ true → slot_pair (take (step_at steps k).pairs pool ++ xs) (slot_at (get_or (base slots steps k) j []) i) ≡ slot_pair pool (slot_at (get_or (base slots steps k) j []) i)
    agree j below i live =
        let q = (step_at steps k).pairs in
        let at = (slot_at (get_or (base slots steps k) j []) i).mark.pair in
        let h = housed-at j below i live in
        let low : at < (step_at steps j).pairs = h.1 in
        let le : j ≤ k = omega arith in
        let g = grow j k le placed in
        let few_pairs : (step_at steps j).pairs ≤ q = g.1 in
        let lt : at < q = omega arith in
        let inside : at < length (take q pool) = omega (arith, lt, long-pairs) in
        get_or_append_left (take q pool) xs no_pair at inside ∙ get_or-take q pool at no_pair lt

    pub states-new : shown_states (take (step_at steps k).pairs pool ++ xs) new (old steps k ++ e ∷ []) ≡ take (k + 1) (shown_states pool slots steps) ++ shown_state (take (step_at steps k).pairs pool ++ xs) new ∷ []
    states-new =
        let other = take (step_at steps k).pairs pool ++ xs in
        let g : List Slot → List Slot = λ c. c ++ more in
        let h : List Slot → List Slot = λ c. c ++ gone slots steps k in
        let all = base slots steps k in
        let each : (j : ℕ) → j < length all → shown_state other (g (get_or all j [])) ≡ shown_state pool (h (get_or all j [])) = λ j lt.
        let below : j < k + 1 = omega (arith, lt, long-base) in
        shown_state-same pool other (get_or all j []) (gone slots steps k) more dark-gone dark-more (agree j below) in
        let same : map (shown_state other) (map g all) ≡ take (k + 1) (shown_states pool slots steps) =
        map-twice (shown_state other) g all
        ∙ maps_agree (λ (c : List Slot). shown_state other (g c)) (λ (c : List Slot). shown_state pool (h c)) all each
        ∙ sym (map-twice (shown_state pool) h all)
        ∙ ap (map (shown_state pool)) (sym every-old)
        ∙ sym (take-map (shown_state pool) (k + 1) (every slots steps)) in
        ap (map (shown_state other)) every-new
        ∙ map_push (shown_state other) (map g all) new
        ∙ ap (λ (ss : List State). ss ++ shown_state other new ∷ []) same

    pub below-new : BacksBelow steps → BacksBelow (old steps k ++ e ∷ [])
    below-new backs =
        let turned : (to : ℕ) → Turned v by ≡ Back to → ⊥ = λ to h. cc in
        below-more steps (k + 1) e below-end backs (λ to is. absurd (turned to (sym T ∙ is)))

    module _ (es : e.slots ≡ length new) (ep : e.pairs ≡ length (take (step_at steps k).pairs pool ++ xs)) (ls : (step_at steps k).slots ≤ e.slots) (lp : (step_at steps k).pairs ≤ e.pairs) where
      pub counted-new : PlacesWithin (length (few slots steps k ++ more)) v.items → SwapWithin (length (few slots steps k ++ more)) by → AllCounted (old steps k ++ e ∷ [])
      counted-new places swap =
          let long : length (few slots steps k ++ more) ≡ e.slots = sym (ap length N ∙ length-forward v.items by (few slots steps k ++ more)) ∙ sym es in
          let P : Change → Type 0 = λ x. PlacesWithin e.slots (places_of x) × SwapWithin e.slots (swap_of x) in
          let Q : ℕ → Type 0 = λ n. PlacesWithin n v.items × SwapWithin n by in
          counted-more steps (k + 1) e below-end counted (subst P (sym T) (subst Q long (places, swap)))

      few-counts : (j : ℕ) → j < k + 1 → ((step_at steps j).slots ≤ e.slots) × ((step_at steps j).pairs ≤ e.pairs)
      few-counts j below =
          let le : j ≤ k = omega arith in
          let g = grow j k le placed in
          let a : (step_at steps j).slots ≤ (step_at steps k).slots = g.0 in
          let b : (step_at steps j).pairs ≤ (step_at steps k).pairs = g.1 in
          (omega (arith, a, ls), omega (arith, b, lp))

      pub counts-new : CountsWithin (length new) (length (take (step_at steps k).pairs pool ++ xs)) (old steps k ++ e ∷ [])
      counts-new =
          let P : ℕ → ℕ → Type 0 = λ a b. CountsWithin a b (old steps k ++ e ∷ []) in
          let all : P e.slots e.pairs = counts-more steps (k + 1) e below-end e.slots e.pairs few-counts (omega arith) (omega arith) in
          let Q : ℕ → Type 0 = λ a. P a (length (take (step_at steps k).pairs pool ++ xs)) in
          subst Q es (subst (P e.slots) ep all)

      pub grow-new : CountsGrow (old steps k ++ e ∷ [])
      grow-new = grow-more steps (k + 1) e below-end grow few-counts

      pub housed-new : PairsWithin (length (take (step_at steps k).pairs pool ++ xs)) new → AllHoused new (old steps k ++ e ∷ [])
      housed-new fits =
          let each : (j : ℕ) → j < k + 1 → Housed (step_at steps j).slots (step_at steps j).pairs (slots_at new (old steps k ++ e ∷ []) j) = λ j below i.
          let c = get_or (base slots steps k) j [] in
          let P : Slot → Type 0 = λ s. s.mark.live ≡ true → (i < (step_at steps j).slots) × (s.mark.pair < (step_at steps j).pairs) in
          let at : slot_at (slots_at new (old steps k ++ e ∷ []) j) i ≡ slot_at (c ++ more) i = ap (λ (x : List Slot). slot_at x i) (at-new j below) in
          subst P (sym at) (elim (cases_lt i (length c)) [
            | inl inside ↦ subst P (sym (get_or_append_left c more no_slot i inside)) (housed-at j below i)
            | inr past ↦
                let n = i - length c in
                let sum : i ≡ length c + n = omega arith in
                let there : slot_at (c ++ more) i ≡ slot_at more n = ap (slot_at (c ++ more)) sum ∙ get_or-append-add c more n no_slot in
                subst P (sym there) (λ live. absurd (dark-more n live))
          ]) in
          let H : ℕ → ℕ → Type 0 = λ a b. Housed a b new in
          let one : H (length new) (length (take (step_at steps k).pairs pool ++ xs)) = housed_all (length (take (step_at steps k).pairs pool ++ xs)) new fits in
          let Q : ℕ → Type 0 = λ a. H a (length (take (step_at steps k).pairs pool ++ xs)) in
          let last : H e.slots e.pairs = subst (H e.slots) (sym ep) (subst Q (sym es) one) in
          housed-more steps (k + 1) e below-end new each (subst (Housed e.slots e.pairs) (sym standing-new) last)
