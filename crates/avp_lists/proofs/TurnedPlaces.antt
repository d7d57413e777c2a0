-- What a list of places turns is told by how often each stands in it, in whatever order.
use Rattle.std.proofs.Common.{◌≡◌, ◌≢◌, ℕ, zero, suc, ◌+◌, ◌<◌, ◌≤◌, Bool, true, false, not, ◌&&◌, cond, List, [], ◌∷◌, ◌++◌, length, get_or, refl, sym, ap, ap₂, ◌∙◌, arith}
use Rattle.std.specs.List.{filter}
use Rattle.std.specs.Bool.{nat_eq}
use Rattle.std.proofs.lemmas.Bool.{eqb-true, eq-eqb, ne_eqb}
use Rattle.std.proofs.lemmas.List.{get_or-set_same, get_or-set_other, length-set, same_lists}
use Rattle.std.proofs.lemmas.List.Elements.{filter-append}
use Rattle.avp_lists.specs.declared.slots.Slot.{Slot}
use Rattle.avp_lists.specs.internal.Plans.{places_in}
use Rattle.avp_lists.specs.internal.Slots.{no_slot, slot_at, flipped, turn, turn_all}
use Rattle.avp_lists.proofs.LivePlaces.{places-middle}
use Rattle.avp_lists.proofs.Turning.{flipped-flipped, length-turn_all}

-- exactly one of them holds
abbrev pub either : Bool → Bool → Bool
either true y = not y
either false y = y

-- the place stands in the list an odd number of times
abbrev pub odd : ℕ → List ℕ → Bool
odd i [] = false
odd i (x ∷ xs) = either (nat_eq x i) (odd i xs)

abbrev flipped_if : Bool → Slot → Slot
flipped_if b s = cond b (flipped s) s

either_not : (x y : Bool) → either (not x) y ≡ not (either x y)
either_not true true = refl
either_not true false = refl
either_not false y = refl

either_assoc : (x y z : Bool) → either (either x y) z ≡ either x (either y z)
either_assoc true y z = either_not y z
either_assoc false y z = refl

either_swap : (x y z : Bool) → either x (either y z) ≡ either y (either x z)
either_swap true true z = refl
either_swap true false z = refl
either_swap false true z = refl
either_swap false false z = refl

-- a place more
step-turned : (c : List Slot) (x i : ℕ) → i < length c → (b : Bool) → nat_eq x i ≡ b → slot_at (turn c x) i ≡ flipped_if b (slot_at c i)
step-turned c x i within true h =
    let e : x ≡ i = eqb-true x i h in
    ap (λ (k : ℕ). slot_at (turn c k) i) e ∙ get_or-set_same c i (flipped (slot_at c i)) no_slot within
step-turned c x i within false h =
    let ne : i ≢ x = λ e. let t : false ≡ true = sym h ∙ eq-eqb x i (sym e) in cc in
    get_or-set_other c x i (flipped (slot_at c x)) no_slot ne

flipped_both : (a b : Bool) (s : Slot) → flipped_if a (flipped_if b s) ≡ flipped_if (either b a) s
flipped_both true true s = flipped-flipped s
flipped_both false true s = refl
flipped_both a false s = refl

turned-odd : (xs : List ℕ) (c : List Slot) (i : ℕ) → i < length c → slot_at (turn_all xs c) i ≡ flipped_if (odd i xs) (slot_at c i)
turned-odd [] c i within = refl
turned-odd (x ∷ xs) c i within =
    let long = length-set c x (flipped (slot_at c x)) in
    turned-odd xs (turn c x) i (omega (arith, long, within))
    ∙ ap (flipped_if (odd i xs)) (step-turned c x i within (nat_eq x i) refl)
    ∙ flipped_both (odd i xs) (nat_eq x i) (slot_at c i)

-- the order does not matter
pub turn_all-odd : (xs ys : List ℕ) (c : List Slot) → ((i : ℕ) → odd i xs ≡ odd i ys) → turn_all xs c ≡ turn_all ys c
turn_all-odd xs ys c same =
    let x = length-turn_all xs c in
    let y = length-turn_all ys c in
    same_lists (turn_all xs c) (turn_all ys c) (x ∙ sym y) (λ i d h.
    let within : i < length c = omega (arith, x, h) in
    let hy : i < length (turn_all ys c) = omega (arith, y, within) in
    get_or_any (turn_all xs c) i d h
    ∙ turned-odd xs c i within
    ∙ ap (λ (b : Bool). flipped_if b (slot_at c i)) (same i)
    ∙ sym (turned-odd ys c i within)
    ∙ sym (get_or_any (turn_all ys c) i d hy))
  where
    get_or_any : (c : List Slot) (i : ℕ) (d : Slot) → i < length c → get_or c i d ≡ slot_at c i
    get_or_any [] i d h = absurd (omega (arith, h))
    get_or_any (s ∷ ss) zero d h = refl
    get_or_any (s ∷ ss) (suc i) d h = get_or_any ss i d (omega (arith, h))

pub odd-append : (i : ℕ) (xs ys : List ℕ) → odd i (xs ++ ys) ≡ either (odd i xs) (odd i ys)
odd-append i [] ys = refl
odd-append i (x ∷ xs) ys = ap (either (nat_eq x i)) (odd-append i xs ys) ∙ sym (either_assoc (nat_eq x i) (odd i xs) (odd i ys))

-- those that pass
kept_odd : (a b o : Bool) → (a ≡ true → b ≡ true) → either a (o && b) ≡ (either a o && b)
kept_odd true true true h = refl
kept_odd true true false h = refl
kept_odd true false o h = let t : false ≡ true = h refl in cc
kept_odd false b o h = refl

dropped_odd : (a b o : Bool) → (a ≡ true → b ≡ false) → (o && b) ≡ (either a o && b)
dropped_odd true true o h = let t : true ≡ false = h refl in cc
dropped_odd true false true h = refl
dropped_odd true false false h = refl
dropped_odd false b o h = refl

pub odd-filter : (q : ℕ → Bool) (i : ℕ) (xs : List ℕ) → odd i (filter q xs) ≡ (odd i xs && q i)
odd-filter q i [] = refl
odd-filter q i (x ∷ xs) =
    let rest = odd-filter q i xs in
    let at : nat_eq x i ≡ true → q x ≡ q i = λ h. ap q (eqb-true x i h) in
    elim (q x) as (λ b. q x ≡ b → odd i (cond b (x ∷ filter q xs) (filter q xs)) ≡ (either (nat_eq x i) (odd i xs) && q i)) [
      | true ↦ λ e. ap (either (nat_eq x i)) rest ∙ kept_odd (nat_eq x i) (q i) (odd i xs) (λ h. sym (at h) ∙ e)
      | false ↦ λ e. rest ∙ dropped_odd (nat_eq x i) (q i) (odd i xs) (λ h. sym (at h) ∙ e)
    ] refl

-- places of slots that pass exactly one of two tests
one_of : (a b e x y : Bool) → either (cond a (either e x) x) (cond b (either e y) y) ≡ cond (either a b) (either e (either x y)) (either x y)
one_of true true e x y = both_out e x y
  where
    both_out : (e x y : Bool) → either (either e x) (either e y) ≡ either x y
    both_out true true true = refl
    both_out true true false = refl
    both_out true false true = refl
    both_out true false false = refl
    both_out false x y = refl
one_of true false e x y = either_assoc e x y
one_of false true e x y = either_swap x e y
one_of false false e x y = refl

odd_in : (p : Slot → Bool) (i n : ℕ) (s : Slot) (ss : List Slot) → odd i (places_in p n (s ∷ ss)) ≡ cond (p s) (either (nat_eq n i) (odd i (places_in p (n + 1) ss))) (odd i (places_in p (n + 1) ss))
odd_in p i n s ss = elim (p s) as (λ b. odd i (cond b (n ∷ places_in p (n + 1) ss) (places_in p (n + 1) ss)) ≡ cond b (either (nat_eq n i) (odd i (places_in p (n + 1) ss))) (odd i (places_in p (n + 1) ss))) [ true ↦ refl | false ↦ refl ]

pub odd-either : (p q r : Slot → Bool) → ((s : Slot) → either (p s) (q s) ≡ r s) → (i n : ℕ) (c : List Slot) → either (odd i (places_in p n c)) (odd i (places_in q n c)) ≡ odd i (places_in r n c)
odd-either p q r one i n [] = refl
odd-either p q r one i n (s ∷ ss) =
    let x = odd i (places_in p (n + 1) ss) in
    let y = odd i (places_in q (n + 1) ss) in
    let e = nat_eq n i in
    let rest : either x y ≡ odd i (places_in r (n + 1) ss) = odd-either p q r one i (n + 1) ss in
    ap₂ either (odd_in p i n s ss) (odd_in q i n s ss)
    ∙ one_of (p s) (q s) e x y
    ∙ ap (λ (b : Bool). cond b (either e (either x y)) (either x y)) (one s)
    ∙ ap (λ (z : Bool). cond (r s) (either e z) z) rest
    ∙ sym (odd_in r i n s ss)

-- all places but one
abbrev pub is_not : ℕ → ℕ → Bool
is_not place other = not (nat_eq other place)

pub others-all : (p : Slot → Bool) (n : ℕ) (c : List Slot) (m : ℕ) → n + length c ≤ m → filter (is_not m) (places_in p n c) ≡ places_in p n c
others-all p n [] m le = refl
others-all p n (s ∷ ss) m le =
    let P = places_in p (n + 1) ss in
    let rest = others-all p (n + 1) ss m (omega (arith, le)) in
    let ne : n ≢ m = omega (arith, le) in
    let here : is_not m n ≡ true = ap not (ne_eqb n m ne) in
    elim (p s) as (λ b. filter (is_not m) (cond b (n ∷ P) P) ≡ cond b (n ∷ P) P) [
      | true ↦ ap (λ (b : Bool). cond b (n ∷ filter (is_not m) P) (filter (is_not m) P)) here ∙ ap (λ (xs : List ℕ). n ∷ xs) rest
      | false ↦ rest
    ]

pub others-after : (p : Slot → Bool) (n : ℕ) (c : List Slot) (m : ℕ) → m < n → filter (is_not m) (places_in p n c) ≡ places_in p n c
others-after p n [] m lt = refl
others-after p n (s ∷ ss) m lt =
    let P = places_in p (n + 1) ss in
    let rest = others-after p (n + 1) ss m (omega (arith, lt)) in
    let ne : n ≢ m = omega (arith, lt) in
    let here : is_not m n ≡ true = ap not (ne_eqb n m ne) in
    elim (p s) as (λ b. filter (is_not m) (cond b (n ∷ P) P) ≡ cond b (n ∷ P) P) [
      | true ↦ ap (λ (b : Bool). cond b (n ∷ filter (is_not m) P) (filter (is_not m) P)) here ∙ ap (λ (xs : List ℕ). n ∷ xs) rest
      | false ↦ rest
    ]

pub others-middle : (p : Slot → Bool) (front back : List Slot) (s : Slot) (m : ℕ) → length front ≡ m → filter (is_not m) (places_in p 0 (front ++ s ∷ back)) ≡ places_in p 0 front ++ places_in p (length front + 1) back
others-middle p front back s m long =
    let left = places_in p 0 front in
    let right = places_in p (length front + 1) back in
    let n = length front in
    let self : is_not m n ≡ false = ap not (eq-eqb n m long) in
    let low : filter (is_not m) left ≡ left = others-all p 0 front m (omega (arith, long)) in
    let high : filter (is_not m) right ≡ right = others-after p (n + 1) back m (omega (arith, long)) in
    let rest : (b : Bool) → filter (is_not m) (cond b (n ∷ right) right) ≡ right = λ b. elim b as (λ t. filter (is_not m) (cond t (n ∷ right) right) ≡ right) [
      | true ↦ ap (λ (t : Bool). cond t (n ∷ filter (is_not m) right) (filter (is_not m) right)) self ∙ high
      | false ↦ high
    ] in
    ap (filter (is_not m)) (places-middle p front back s (p s) refl)
    ∙ filter-append (is_not m) left (cond (p s) (n ∷ right) right)
    ∙ ap₂ (λ (xs ys : List ℕ). xs ++ ys) low (rest (p s))
