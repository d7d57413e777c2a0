-- Turning marks: one place more, there and back, and what stays.
use Rattle.std.proofs.Common.{◌≡◌, ◌≢◌, ℕ, ◌≤◌, Bool, true, false, not, List, [], ◌∷◌, ◌++◌, Option, Some, None, length, set, map, refl, sym, ap, ◌∙◌, inl, inr, arith}
use Rattle.std.proofs.lemmas.Bool.{cases_lt}
use Rattle.std.proofs.lemmas.List.{length-set, get_or-set_same, get_or-set_other, set-set, set_comm, set-get_or, set_past, map-set, get_or-map, length-map}
use Rattle.avp_lists.specs.declared.slots.Slot.{Slot}
use Rattle.avp_lists.specs.declared.slots.Swap.{Swap}
use Rattle.avp_lists.specs.internal.Slots.{no_slot, slot_at, flipped, turn, turn_all, other_pair, with_other, swap_at, forward, backward}
use Rattle.avp_lists.specs.internal.Slots.{at_initial}

pub turn_all_more : (places : List ℕ) (i : ℕ) (c : List Slot) → turn_all (places ++ i ∷ []) c ≡ turn (turn_all places c) i
turn_all_more [] i c = refl
turn_all_more (j ∷ js) i c = turn_all_more js i (turn c j)

-- lengths
pub length-turn_all : (places : List ℕ) (c : List Slot) → length (turn_all places c) ≡ length c
length-turn_all [] c = refl
length-turn_all (i ∷ is) c = length-turn_all is (turn c i) ∙ length-set c i (flipped (slot_at c i))

pub length-swap_at : (by : Option Swap) (c : List Slot) → length (swap_at by c) ≡ length c
length-swap_at None c = refl
length-swap_at (Some w) c = length-set c w.slot (with_other w (slot_at c w.slot))

pub length-forward : (places : List ℕ) (by : Option Swap) (c : List Slot) → length (forward places by c) ≡ length c
length-forward places by c = length-swap_at by (turn_all places c) ∙ length-turn_all places c

-- there and back
not-not : (b : Bool) → not (not b) ≡ b
not-not true = refl
not-not false = refl

slot_of : Bool → Slot → Slot
slot_of b s = record { list = s.list; end = s.end; mark = record { live = b; pair = s.mark.pair }; initial = s.initial }

pub flipped-flipped : (s : Slot) → flipped (flipped s) ≡ s
flipped-flipped s = ap (λ (b : Bool). let r : Slot = record { list = s.list; end = s.end; mark = record { live = b; pair = s.mark.pair }; initial = s.initial } in r) (not-not s.mark.live)

pub set_twice : (f : Slot → Slot) → ((s : Slot) → f (f s) ≡ s) → (c : List Slot) (i : ℕ) → set (set c i (f (slot_at c i))) i (f (slot_at (set c i (f (slot_at c i))) i)) ≡ c
set_twice f back c i =
    let once = set c i (f (slot_at c i)) in
    elim (cases_lt i (length c)) [
      | inl within ↦
          ap (λ (s : Slot). set once i (f s)) (get_or-set_same c i (f (slot_at c i)) no_slot within)
          ∙ ap (λ (s : Slot). set once i s) (back (slot_at c i))
          ∙ set-set c i (f (slot_at c i)) (slot_at c i)
          ∙ set-get_or c i no_slot
      | inr past ↦
          let same : once ≡ c = set_past c i (f (slot_at c i)) past in
          let long : length once ≤ i = omega (arith, length-set c i (f (slot_at c i))) in
          set_past once i (f (slot_at once i)) long ∙ same
    ]

pub turn-turn : (c : List Slot) (i : ℕ) → turn (turn c i) i ≡ c
turn-turn c i = set_twice flipped flipped-flipped c i

-- turns commute
pub turn_comm : (c : List Slot) (i j : ℕ) → i ≢ j → turn (turn c i) j ≡ turn (turn c j) i
turn_comm c i j ne =
    let x = flipped (slot_at c i) in
    let y = flipped (slot_at c j) in
    let ne' : j ≢ i = omega arith in
    ap (λ (s : Slot). set (set c i x) j (flipped s)) (get_or-set_other c i j x no_slot ne')
    ∙ set_comm c i j x y ne
    ∙ sym (ap (λ (s : Slot). set (set c j y) i (flipped s)) (get_or-set_other c j i y no_slot ne))

pub turn_over : (places : List ℕ) (c : List Slot) (i : ℕ) → turn (turn_all places c) i ≡ turn_all places (turn c i)
turn_over [] c i = refl
turn_over (j ∷ js) c i = turn_over js (turn c j) i ∙ ap (turn_all js) (elim (cases_lt i j) [
  | inl lt ↦ turn_comm c j i (let ne : j ≢ i = omega arith in ne)
  | inr ge ↦ elim (cases_lt j i) [
    | inl lt ↦ turn_comm c j i (let ne : j ≢ i = omega arith in ne)
    | inr le ↦ let e : i ≡ j = omega arith in ap (λ (k : ℕ). turn (turn c j) k) e ∙ sym (ap (λ (k : ℕ). turn (turn c k) j) e)
  ]
])

pub turn_all-twice : (places : List ℕ) (c : List Slot) → turn_all places (turn_all places c) ≡ c
turn_all-twice [] c = refl
turn_all-twice (i ∷ is) c =
    ap (turn_all is) (turn_over is (turn c i) i ∙ ap (turn_all is) (turn-turn c i))
    ∙ turn_all-twice is c

other_pair-twice : (old new at : ℕ) → other_pair old new (other_pair old new at) ≡ at
other_pair-twice old new at = grind arith

with_other-twice : (w : Swap) (s : Slot) → with_other w (with_other w s) ≡ s
with_other-twice w s = ap (λ (n : ℕ). let r : Slot = record { list = s.list; end = s.end; mark = record { live = s.mark.live; pair = n }; initial = s.initial } in r) (other_pair-twice w.old w.new s.mark.pair)

pub swap_at-twice : (by : Option Swap) (c : List Slot) → swap_at by (swap_at by c) ≡ c
swap_at-twice None c = refl
swap_at-twice (Some w) c = set_twice (with_other w) (with_other-twice w) c w.slot

pub backward-forward : (places : List ℕ) (by : Option Swap) (c : List Slot) → backward places by (forward places by c) ≡ c
backward-forward places by c = ap (turn_all places) (swap_at-twice by (turn_all places c)) ∙ turn_all-twice places c

-- the first state's slots stay
pub initials-set : (f : Slot → Slot) → ((s : Slot) → at_initial (f s) ≡ at_initial s) → (c : List Slot) (i : ℕ) → map at_initial (set c i (f (slot_at c i))) ≡ map at_initial c
initials-set f same c i = map-set at_initial c i (f (slot_at c i)) ∙ elim (cases_lt i (length c)) [
  | inl within ↦
      ap (set (map at_initial c) i) (same (slot_at c i) ∙ sym (get_or-map at_initial c i no_slot no_slot within))
      ∙ set-get_or (map at_initial c) i no_slot
  | inr past ↦
      let long : length (map at_initial c) ≤ i = omega (arith, length-map c at_initial) in
      set_past (map at_initial c) i (at_initial (f (slot_at c i))) long
]

pub initials-turn_all : (places : List ℕ) (c : List Slot) → map at_initial (turn_all places c) ≡ map at_initial c
initials-turn_all [] c = refl
initials-turn_all (i ∷ is) c = initials-turn_all is (turn c i) ∙ initials-set flipped (λ s. refl) c i

pub initials-swap_at : (by : Option Swap) (c : List Slot) → map at_initial (swap_at by c) ≡ map at_initial c
initials-swap_at None c = refl
initials-swap_at (Some w) c = initials-set (with_other w) (λ s. refl) c w.slot

pub initials-forward : (places : List ℕ) (by : Option Swap) (c : List Slot) → map at_initial (forward places by c) ≡ map at_initial c
initials-forward places by c = initials-swap_at by (turn_all places c) ∙ initials-turn_all places c

pub initials-backward : (places : List ℕ) (by : Option Swap) (c : List Slot) → map at_initial (backward places by c) ≡ map at_initial c
initials-backward places by c = initials-turn_all places (swap_at by c) ∙ initials-swap_at by c

pub same-length : (c d : List Slot) → map at_initial c ≡ map at_initial d → length c ≡ length d
same-length c d same = sym (length-map c at_initial) ∙ ap length same ∙ length-map d at_initial
