-- A state that is the only one.
use Rattle.std.proofs.Common.{◌≡◌, ℕ, zero, suc, ◌+◌, ◌<◌, ◌≤◌, Bool, true, false, cond, List, [], ◌∷◌, ◌++◌, None, length, get_or, set, take, drop, map, refl, sym, ap, ◌∙◌, subst, inl, inr, arith}
use Rattle.std.specs.List.{filter}
use Rattle.std.specs.declared.vec.Vec.{Vec}
use Rattle.std.specs.declared.alloc.Global.{Global}
use Rattle.std.proofs.lemmas.Bool.{cases_lt}
use Rattle.std.proofs.lemmas.List.{get_or-map, get_or_past, length-map, length-take-le, drop_more, take_more, map_push, get_or_at, set_at, append_assoc}
use Rattle.avp_lists.specs.declared.pairs.Pair.{Pair}
use Rattle.avp_lists.specs.declared.lists.List.{List as WhichList}
use Rattle.avp_lists.specs.declared.lists.List.TheVariants.{Request, Reply, Control}
use Rattle.avp_lists.specs.declared.lists.State.{State}
use Rattle.avp_lists.specs.declared.slots.Slot.{Slot}
use Rattle.avp_lists.specs.declared.steps.Change.{Change}
use Rattle.avp_lists.specs.declared.steps.Change.TheVariants.{Turned, Back}
use Rattle.avp_lists.specs.declared.steps.Step.{Step}
use Rattle.avp_lists.specs.States.{empty_state, IsLimited}
use Rattle.avp_lists.specs.internal.Slots.{no_slot, slot_at, is_live, at_initial, kept, turn_all, Housed, PairsWithin}
use Rattle.avp_lists.specs.internal.Steps.{shown_states, after, every, slots_at, step_at, change_at, turns, BacksBelow, PlacesCounted, AllCounted, CountsWithin, CountsGrow, AllHoused, StatesLimited}
use Rattle.avp_lists.specs.internal.Shown.{shows, slot_pair, shown_pairs, shown_state}
use Rattle.avp_lists.proofs.InOrder.{in_order, shown_of, in_order-map, in_order-filter, shown_pairs-in_order}

pub initials-kept : (c : List Slot) → map at_initial (map kept c) ≡ map kept c
initials-kept [] = refl
initials-kept (s ∷ ss) = ap (λ (xs : List Slot). kept s ∷ xs) (initials-kept ss)

shown-kept : (which : WhichList) (pool : List Pair) (c : List Slot) → shown_of which pool (map kept c) ≡ shown_of which pool c
shown-kept which pool [] = refl
shown-kept which pool (s ∷ ss) =
    elim (shows which s) as (λ b. map (slot_pair pool) (cond b (kept s ∷ filter (shows which) (map kept ss)) (filter (shows which) (map kept ss))) ≡ map (slot_pair pool) (cond b (s ∷ filter (shows which) ss) (filter (shows which) ss))) [
      | true ↦ ap (λ (xs : List Pair). slot_pair pool s ∷ xs) (shown-kept which pool ss)
      | false ↦ shown-kept which pool ss
    ]

shown_pairs-kept : (which : WhichList) (pool : List Pair) (c : List Slot) → shown_pairs which pool (map kept c) ≡ shown_pairs which pool c
shown_pairs-kept which pool c =
    shown_pairs-in_order which pool (map kept c)
    ∙ ap (shown_of which pool) (in_order-map kept (λ s. refl) c)
    ∙ shown-kept which pool (in_order c)
    ∙ sym (shown_pairs-in_order which pool c)

shown_state-kept : (pool : List Pair) (c : List Slot) → shown_state pool (map kept c) ≡ shown_state pool c
shown_state-kept pool c = rw (shown_pairs-kept Request pool c, shown_pairs-kept Reply pool c, shown_pairs-kept Control pool c) refl

kept-housed : (n : ℕ) (c : List Slot) → PairsWithin n c → PairsWithin n (map kept c)
kept-housed n c pooled i = elim (cases_lt i (length c)) [
  | inl inside ↦
      let P : Slot → Type 0 = λ s. s.mark.live ≡ true → s.mark.pair < n in
      subst P (sym (get_or-map kept c i no_slot no_slot inside)) (pooled i)
  | inr past ↦
      let far : length (map kept c) ≤ i = omega (arith, length-map c kept) in
      let P : Slot → Type 0 = λ s. s.mark.live ≡ true → s.mark.pair < n in
      subst P (sym (get_or_past (map kept c) i no_slot far)) (λ live. cc)
]

-- without the slots that show nothing
live-shows : (which : WhichList) (s : Slot) → is_live s ≡ false → shows which s ≡ false
live-shows which s h = rw h refl

shown-live : (which : WhichList) (pool : List Pair) (c : List Slot) → shown_of which pool (filter is_live c) ≡ shown_of which pool c
shown-live which pool [] = refl
shown-live which pool (s ∷ ss) =
    let rest = shown-live which pool ss in
    elim (is_live s) as (λ b. is_live s ≡ b → shown_of which pool (cond b (s ∷ filter is_live ss) (filter is_live ss)) ≡ shown_of which pool (s ∷ ss)) [
      | true ↦ λ h. elim (shows which s) as (λ b. map (slot_pair pool) (cond b (s ∷ filter (shows which) (filter is_live ss)) (filter (shows which) (filter is_live ss))) ≡ map (slot_pair pool) (cond b (s ∷ filter (shows which) ss) (filter (shows which) ss))) [
        | true ↦ ap (λ (xs : List Pair). slot_pair pool s ∷ xs) rest
        | false ↦ rest
      ]
      | false ↦ λ h. rest ∙ sym (ap (λ (b : Bool). map (slot_pair pool) (cond b (s ∷ filter (shows which) ss) (filter (shows which) ss))) (live-shows which s h))
    ] refl

shown_pairs-live : (which : WhichList) (pool : List Pair) (c : List Slot) → shown_pairs which pool (filter is_live c) ≡ shown_pairs which pool c
shown_pairs-live which pool c =
    shown_pairs-in_order which pool (filter is_live c)
    ∙ ap (shown_of which pool) (in_order-filter is_live c)
    ∙ shown-live which pool (in_order c)
    ∙ sym (shown_pairs-in_order which pool c)

live-within : (n : ℕ) (c : List Slot) → PairsWithin n c → PairsWithin n (filter is_live c)
live-within n [] pooled = pooled
live-within n (s ∷ ss) pooled =
    let rest = live-within n ss (λ i. pooled (suc i)) in
    elim (is_live s) as (λ b. PairsWithin n (cond b (s ∷ filter is_live ss) (filter is_live ss))) [
      | true ↦ one_more n s (filter is_live ss) (pooled 0) rest
      | false ↦ rest
    ]
  where
    one_more : (n : ℕ) (s : Slot) (ss : List Slot) → (s.mark.live ≡ true → s.mark.pair < n) → PairsWithin n ss → PairsWithin n (s ∷ ss)
    one_more n s ss first rest zero = first
    one_more n s ss first rest (suc i) = rest i

pub settled_within : (n : ℕ) (c after_slots : List Slot) → after_slots ≡ map kept (filter is_live c) → PairsWithin n c → PairsWithin n after_slots
settled_within n c after_slots K pooled = subst (PairsWithin n) (sym K) (kept-housed n (filter is_live c) (live-within n c pooled))

pub settled_state : (pool : List Pair) (c : List Slot) → shown_state pool (map kept (filter is_live c)) ≡ shown_state pool c
settled_state pool c = shown_state-kept pool (filter is_live c) ∙ rw (shown_pairs-live Request pool c, shown_pairs-live Reply pool c, shown_pairs-live Control pool c) refl

empty_limited : IsLimited empty_state
empty_limited Request = omega arith
empty_limited Reply = omega arith
empty_limited Control = omega arith

dark : false ≡ true → ⊥
dark h = cc

-- what shows a pair is there
pub housed_all : (n : ℕ) (c : List Slot) → PairsWithin n c → Housed (length c) n c
housed_all n c pooled i live = elim (cases_lt i (length c)) [
  | inl inside ↦ (inside, pooled i live)
  | inr past ↦
      let none : slot_at c i ≡ no_slot = get_or_past c i no_slot past in
      absurd (dark (sym (ap (λ (s : Slot). s.mark.live) none) ∙ live))
]

-- the only step turns nothing
module _ (slots : List Slot) (steps : List Step) (v : Vec ℕ Global) (e : Step) (initials : map at_initial slots ≡ slots) (N : steps ≡ e ∷ []) (T : e.change ≡ Turned v None) (Z : v.items ≡ []) where
  every-alone : every slots steps ≡ slots ∷ []
  every-alone =
      let f = map at_initial slots in
      let still : after f [] e.change ≡ f = ap (after f []) T ∙ ap (λ (ns : List ℕ). turn_all ns f) Z in
      ap (every slots) N ∙ ap (λ (x : List Slot). x ∷ []) (still ∙ initials)

  pub standing-alone : slots_at slots steps 0 ≡ slots
  standing-alone = ap (λ (xs : List (List Slot)). get_or xs 0 []) every-alone

  places-alone : (k : ℕ) → PlacesCounted (step_at (e ∷ []) k)
  places-alone zero =
      let P : Change → Type 0 = λ x. PlacesCounted (record { change = x; slots = e.slots; pairs = e.pairs }) in
      subst P (sym T) (λ i h. absurd (omega (arith, h, ap length Z)), omega arith)
  places-alone (suc k) = (λ i h. absurd (omega (arith, h)), omega arith)

  pub counted-alone : AllCounted steps
  counted-alone = subst AllCounted (sym N) places-alone

  counts-one : (m n k : ℕ) → e.slots ≤ m → e.pairs ≤ n → ((step_at (e ∷ []) k).slots ≤ m) × ((step_at (e ∷ []) k).pairs ≤ n)
  counts-one m n zero s p = (s, p)
  counts-one m n (suc k) s p = (omega arith, omega arith)

  pub counts-alone : (m n : ℕ) → e.slots ≤ m → e.pairs ≤ n → CountsWithin m n steps
  counts-alone m n s p = subst (CountsWithin m n) (sym N) (λ k. counts-one m n k s p)

  grow-one : (j k : ℕ) → j ≤ k → k < length (e ∷ []) → ((step_at (e ∷ []) j).slots ≤ (step_at (e ∷ []) k).slots) × ((step_at (e ∷ []) j).pairs ≤ (step_at (e ∷ []) k).pairs)
  grow-one zero zero le h = (omega arith, omega arith)
  grow-one (suc j) zero le h = absurd (omega (arith, le))
  grow-one j (suc k) le h = absurd (omega (arith, h))

  pub grow-alone : CountsGrow steps
  grow-alone = subst CountsGrow (sym N) grow-one

  turned-back : (to : ℕ) → Turned v None ≡ Back to → ⊥
  turned-back to h = cc

  below-one : (k to : ℕ) → k < length (e ∷ []) → change_at (e ∷ []) k ≡ Back to → (to < k) × (turns (change_at (e ∷ []) to) ≡ true)
  below-one zero to h is = absurd (turned-back to (sym T ∙ is))
  below-one (suc k) to h is = absurd (omega (arith, h))

  pub below-alone : BacksBelow steps
  below-alone = subst BacksBelow (sym N) below-one

  housed-one : (k : ℕ) → Housed e.slots e.pairs slots → Housed (step_at (e ∷ []) k).slots (step_at (e ∷ []) k).pairs (get_or (slots ∷ []) k [])
  housed-one zero housed = housed
  housed-one (suc k) housed = λ i live. cc

  pub housed-alone : Housed e.slots e.pairs slots → AllHoused slots steps
  housed-alone housed =
      let P : List Step → Type 0 = λ xs. (k : ℕ) → Housed (step_at xs k).slots (step_at xs k).pairs (slots_at slots steps k) in
      let Q : List (List Slot) → Type 0 = λ xs. (k : ℕ) → Housed (step_at (e ∷ []) k).slots (step_at (e ∷ []) k).pairs (get_or xs k []) in
      subst P (sym N) (subst Q (sym every-alone) (λ k. housed-one k housed))

  pub states-alone : (pool : List Pair) → shown_states pool slots steps ≡ shown_state pool slots ∷ []
  states-alone pool = ap (map (shown_state pool)) every-alone

  one-limited : (s : State) (k : ℕ) → IsLimited s → IsLimited (get_or (s ∷ []) k empty_state)
  one-limited s zero limited = limited
  one-limited s (suc k) limited = empty_limited

  pub limited-alone : (pool : List Pair) → IsLimited (shown_state pool slots) → StatesLimited pool slots steps
  limited-alone pool limited k = let P : List State → Type 0 = λ xs. IsLimited (get_or xs k empty_state) in subst P (sym (states-alone pool)) (one-limited (shown_state pool slots) k limited)

-- one slot more is kept
pub kept_more : (xs : List Slot) (i : ℕ) → i < length xs → set (map kept (take i xs) ++ drop i xs) i (kept (get_or (map kept (take i xs) ++ drop i xs) i no_slot)) ≡ map kept (take (i + 1) xs) ++ drop (i + 1) xs
kept_more xs i within =
    let p = map kept (take i xs) in
    let x = get_or xs i no_slot in
    let rest = drop (i + 1) xs in
    let le : i ≤ length xs = omega arith in
    let long : length p ≡ i = length-map (take i xs) kept ∙ length-take-le i xs le in
    let here : drop i xs ≡ x ∷ rest = drop_more xs i no_slot within in
    let more : map kept (take (i + 1) xs) ≡ p ++ kept x ∷ [] = ap (map kept) (take_more xs i no_slot within) ∙ map_push kept (take i xs) x in
    ap (λ (ys : List Slot). set (p ++ ys) i (kept (get_or (p ++ ys) i no_slot))) here
    ∙ ap (λ (s : Slot). set (p ++ x ∷ rest) i (kept s)) (get_or_at p x rest no_slot i long)
    ∙ set_at p x rest (kept x) i long
    ∙ sym (append_assoc p (kept x ∷ []) rest)
    ∙ ap (λ (ys : List Slot). ys ++ rest) (sym more)
