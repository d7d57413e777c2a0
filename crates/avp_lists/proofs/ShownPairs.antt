-- The pairs that slots show.
use Rattle.std.proofs.Common.{◌≡◌, ℕ, suc, ◌<◌, ◌≤◌, true, false, ◌&&◌, cond, Option, Some, None, List, [], ◌∷◌, ◌++◌, length, get_or, map, refl, sym, ap, ap₂, ◌∙◌, subst, arith, Bool}
use Rattle.std.specs.Prelude.{reverse}
use Rattle.std.specs.List.{filter, list_any}
use Rattle.std.specs.Option.{is_some, IfSome, IfNone}
use Rattle.std.proofs.lemmas.List.Folds.{list_any_at}
use Rattle.std.proofs.lemmas.List.{append-nil, get_or-map, map-append}
use Rattle.std.proofs.lemmas.List.Elements.{filter-append}
use Rattle.avp_lists.specs.declared.pairs.Pair.{Pair}
use Rattle.avp_lists.specs.declared.lists.List.{List as WhichList}
use Rattle.avp_lists.specs.declared.lists.List.TheVariants.{Request, Reply, Control}
use Rattle.avp_lists.specs.declared.slots.End.{End}
use Rattle.avp_lists.specs.declared.slots.End.TheVariants.{Head, Tail}
use Rattle.avp_lists.specs.declared.slots.Slot.{Slot}
use Rattle.avp_lists.specs.declared.steps.Step.{Step}
use Rattle.avp_lists.specs.internal.Slots.{no_slot, slot_at, Housed, PairsWithin}
use Rattle.avp_lists.specs.States.{empty_state, list_of}
use Rattle.avp_lists.specs.internal.Steps.{every, slots_at, shown_states, step_at, AllHoused, CountsWithin}
use Rattle.avp_lists.specs.internal.Shown.{same_list, shows, shows_passing, slot_pair, same_end, entered_at, shown_pairs, shown_state}
use Rattle.avp_lists.specs.internal.SlotLaws.{length-every}
use Rattle.avp_lists.proofs.InOrder.{in_order, shown_of, in_order-append, all-filter, all-reverse, all-in_order, shown_pairs-in_order}

pub list_of-shown_state : (which : WhichList) (pool : List Pair) (c : List Slot) → list_of which (shown_state pool c) ≡ shown_pairs which pool c
list_of-shown_state Request pool c = refl
list_of-shown_state Reply pool c = refl
list_of-shown_state Control pool c = refl

-- the present state is what the slots show
pub present-shown : (pool : List Pair) (slots : List Slot) (steps : List Step) (place : ℕ) → place < length steps → slots_at slots steps place ≡ slots → get_or (shown_states pool slots steps) place empty_state ≡ shown_state pool slots
present-shown pool slots steps place within standing =
    let inside : place < length (every slots steps) = omega (arith, length-every slots steps) in
    get_or-map (shown_state pool) (every slots steps) place [] empty_state inside ∙ ap (shown_state pool) standing

pub present-list : (which : WhichList) (pool : List Pair) (slots : List Slot) (steps : List Step) (place : ℕ) → place < length steps → slots_at slots steps place ≡ slots → list_of which (get_or (shown_states pool slots steps) place empty_state) ≡ shown_pairs which pool slots
present-list which pool slots steps place within standing = ap (list_of which) (present-shown pool slots steps place within standing) ∙ list_of-shown_state which pool slots

-- the pairs that are shown are in the pool
pub pairs-now : (m n : ℕ) (slots : List Slot) (steps : List Step) (place : ℕ) → AllHoused slots steps → CountsWithin m n steps → slots_at slots steps place ≡ slots → PairsWithin n slots
pairs-now m n slots steps place housed counts standing i live =
    let P : List Slot → Type 0 = λ c. Housed (step_at steps place).slots (step_at steps place).pairs c in
    let h = subst P standing (housed place) i live in
    let low : (slot_at slots i).mark.pair < (step_at steps place).pairs = h.1 in
    let all = counts place in
    let le : (step_at steps place).pairs ≤ n = all.1 in
    omega arith

-- slots more
pub shown-append : (which : WhichList) (pool : List Pair) (xs ys : List Slot) → shown_of which pool (xs ++ ys) ≡ shown_of which pool xs ++ shown_of which pool ys
shown-append which pool xs ys = ap (map (slot_pair pool)) (filter-append (shows which) xs ys) ∙ map-append (slot_pair pool) (filter (shows which) xs) (filter (shows which) ys)

-- the pairs that are put at one end of others
abbrev pub beside : End → List Pair → List Pair → List Pair
beside Head xs pairs = xs ++ pairs
beside Tail xs pairs = pairs ++ xs

pub beside_none : (end : End) (pairs : List Pair) → beside end [] pairs ≡ pairs
beside_none Head pairs = refl
beside_none Tail pairs = append-nil pairs

alone : (s : Slot) (at end : End) → s.end ≡ end → filter (entered_at at) (s ∷ []) ≡ cond (same_end at end) (s ∷ []) []
alone s at end h = ap (λ (e : End). cond (same_end at e) (s ∷ []) []) h

one_order : (end : End) (c : List Slot) (s : Slot) (which : WhichList) (pool : List Pair) → s.end ≡ end → shown_of which pool (in_order (c ++ s ∷ [])) ≡ beside end (shown_of which pool (s ∷ [])) (shown_of which pool (in_order c))
one_order Head c s which pool h =
    ap (shown_of which pool) (in_order-append c (s ∷ []) ∙ ap₂ (λ (xs ys : List Slot). reverse xs ++ (in_order c ++ ys)) (alone s Head Head h) (alone s Tail Head h) ∙ ap (λ (xs : List Slot). s ∷ xs) (append-nil (in_order c)))
    ∙ shown-append which pool (s ∷ []) (in_order c)
one_order Tail c s which pool h =
    ap (shown_of which pool) (in_order-append c (s ∷ []) ∙ ap₂ (λ (xs ys : List Slot). reverse xs ++ (in_order c ++ ys)) (alone s Head Tail h) (alone s Tail Tail h))
    ∙ shown-append which pool (in_order c) (s ∷ [])

pub shown_pairs-more : (which : WhichList) (pool : List Pair) (c : List Slot) (s : Slot) → shown_pairs which pool (c ++ s ∷ []) ≡ beside s.end (shown_of which pool (s ∷ [])) (shown_pairs which pool c)
shown_pairs-more which pool c s =
    shown_pairs-in_order which pool (c ++ s ∷ [])
    ∙ one_order s.end c s which pool refl
    ∙ ap (beside s.end (shown_of which pool (s ∷ []))) (sym (shown_pairs-in_order which pool c))

pub shown_pairs-tails : (which : WhichList) (pool : List Pair) (c d : List Slot) → filter (entered_at Head) d ≡ [] → filter (entered_at Tail) d ≡ d → shown_pairs which pool (c ++ d) ≡ shown_pairs which pool c ++ shown_of which pool d
shown_pairs-tails which pool c d heads tails =
    shown_pairs-in_order which pool (c ++ d)
    ∙ ap (shown_of which pool) (in_order-append c d ∙ ap₂ (λ (xs ys : List Slot). reverse xs ++ (in_order c ++ ys)) heads tails)
    ∙ shown-append which pool (in_order c) d
    ∙ ap (λ (xs : List Pair). xs ++ shown_of which pool d) (sym (shown_pairs-in_order which pool c))

-- whether a slot was found
pub found_where : (which : WhichList) (test : Pair → Bool) (pool : List Pair) (c : List Slot) (o : Option ℕ) → IfSome o (λ at. (at < length c) × (shows_passing which test pool (slot_at c at) ≡ true)) → IfNone o (list_any (shows_passing which test pool) c ≡ false) → is_some o ≡ list_any (shows_passing which test pool) c
found_where which test pool c None some none = rw none refl
found_where which test pool c (Some at) some none = rw (list_any_at (shows_passing which test pool) c at no_slot some.0 some.1) refl

-- slots that show nothing
pub shown-dark : (which : WhichList) (pool : List Pair) (c : List Slot) → ((i : ℕ) → (slot_at c i).mark.live ≡ true → ⊥) → shown_of which pool c ≡ []
shown-dark which pool [] dark = refl
shown-dark which pool (s ∷ ss) dark =
    let rest = shown-dark which pool ss (λ i live. dark (suc i) live) in
    elim s.mark.live as (λ b. s.mark.live ≡ b → map (slot_pair pool) (cond (b && same_list which s.list) (s ∷ filter (shows which) ss) (filter (shows which) ss)) ≡ []) [
      | true ↦ λ h. absurd (dark 0 h)
      | false ↦ λ h. rest
    ] refl

-- pools that agree on what is shown
pub shown-agree : (which : WhichList) (pool other : List Pair) (c : List Slot) → ((i : ℕ) → (slot_at c i).mark.live ≡ true → slot_pair pool (slot_at c i) ≡ slot_pair other (slot_at c i)) → shown_of which pool c ≡ shown_of which other c
shown-agree which pool other [] agree = refl
shown-agree which pool other (s ∷ ss) agree =
    let rest = shown-agree which pool other ss (λ i live. agree (suc i) live) in
    elim s.mark.live as (λ b. s.mark.live ≡ b → map (slot_pair pool) (cond (b && same_list which s.list) (s ∷ filter (shows which) ss) (filter (shows which) ss)) ≡ map (slot_pair other) (cond (b && same_list which s.list) (s ∷ filter (shows which) ss) (filter (shows which) ss))) [
      | true ↦ λ h. elim (same_list which s.list) as (λ b. map (slot_pair pool) (cond b (s ∷ filter (shows which) ss) (filter (shows which) ss)) ≡ map (slot_pair other) (cond b (s ∷ filter (shows which) ss) (filter (shows which) ss))) [
        | true ↦ ap₂ (λ (x : Pair) (xs : List Pair). x ∷ xs) (agree 0 h) rest
        | false ↦ rest
      ]
      | false ↦ λ h. rest
    ] refl

pub shown_pairs-agree : (which : WhichList) (pool other : List Pair) (c : List Slot) → ((i : ℕ) → (slot_at c i).mark.live ≡ true → slot_pair pool (slot_at c i) ≡ slot_pair other (slot_at c i)) → shown_pairs which pool c ≡ shown_pairs which other c
shown_pairs-agree which pool other c agree =
    let P : Slot → Type 0 = λ s. s.mark.live ≡ true → slot_pair pool s ≡ slot_pair other s in
    shown_pairs-in_order which pool c ∙ shown-agree which pool other (in_order c) (all-in_order P c agree) ∙ sym (shown_pairs-in_order which other c)

-- slots more that show nothing
dark_more : (which : WhichList) (pool : List Pair) (c d : List Slot) → ((i : ℕ) → (slot_at d i).mark.live ≡ true → ⊥) → shown_pairs which pool (c ++ d) ≡ shown_pairs which pool c
dark_more which pool c d dark =
    let P : Slot → Type 0 = λ s. s.mark.live ≡ true → ⊥ in
    let heads = filter (entered_at Head) d in
    let tails = filter (entered_at Tail) d in
    let none_before : shown_of which pool (reverse heads) ≡ [] = shown-dark which pool (reverse heads) (all-reverse P heads (all-filter P (entered_at Head) d dark)) in
    let none_after : shown_of which pool tails ≡ [] = shown-dark which pool tails (all-filter P (entered_at Tail) d dark) in
    shown_pairs-in_order which pool (c ++ d)
    ∙ ap (shown_of which pool) (in_order-append c d)
    ∙ shown-append which pool (reverse heads) (in_order c ++ tails)
    ∙ ap₂ (λ (a b : List Pair). a ++ b) none_before (shown-append which pool (in_order c) tails ∙ ap (λ (a : List Pair). shown_of which pool (in_order c) ++ a) none_after ∙ append-nil (shown_of which pool (in_order c)))
    ∙ sym (shown_pairs-in_order which pool c)

-- what is shown is not changed by slots that show nothing, nor by another pool that has the same pairs there
module _ (pool other : List Pair) (c d more : List Slot) (dark : (i : ℕ) → (slot_at d i).mark.live ≡ true → ⊥) (dark_more_slots : (i : ℕ) → (slot_at more i).mark.live ≡ true → ⊥) (agree : (i : ℕ) → (slot_at c i).mark.live ≡ true → slot_pair other (slot_at c i) ≡ slot_pair pool (slot_at c i)) where
  shown_pairs-same : (which : WhichList) → shown_pairs which other (c ++ more) ≡ shown_pairs which pool (c ++ d)
  shown_pairs-same which =
      dark_more which other c more dark_more_slots ∙ shown_pairs-agree which other pool c agree ∙ sym (dark_more which pool c d dark)

  pub shown_state-same : shown_state other (c ++ more) ≡ shown_state pool (c ++ d)
  shown_state-same = rw (shown_pairs-same Request, shown_pairs-same Reply, shown_pairs-same Control) refl
