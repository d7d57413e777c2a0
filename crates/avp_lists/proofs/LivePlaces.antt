-- The places of the slots that pass a test: what is among them, and what a slot more, a cut and a turn make of them.
use Rattle.std.proofs.Common.{◌≡◌, ℕ, suc, ◌+◌, ◌-◌, ◌<◌, ◌≤◌, Bool, true, false, not, cond, List, [], ◌∷◌, ◌++◌, length, set, take, drop, refl, sym, ap, ◌∙◌, subst, inl, inr, arith, append-nil, length-append}
use Rattle.std.specs.List.{filter, insert, remove}
use Rattle.std.proofs.lemmas.Bool.{cases_lt, lt-ltb, le-ltb}
use Rattle.std.proofs.lemmas.List.{set_at, set_past, length-take-le, take-append-drop, drop_more, get_or-drop}
use Rattle.std.proofs.lemmas.List.Edits.{insert-append_right, remove-append_right}
use Rattle.std.proofs.lemmas.List.Elements.{filter-append}
use Rattle.avp_lists.specs.declared.slots.Slot.{Slot}
use Rattle.avp_lists.specs.internal.Live.{before, turned_place}
use Rattle.avp_lists.specs.internal.Plans.{places_in}
use Rattle.avp_lists.specs.internal.Slots.{no_slot, slot_at}

-- slots more
pub places-append : (p : Slot → Bool) (n : ℕ) (xs ys : List Slot) → places_in p n (xs ++ ys) ≡ places_in p n xs ++ places_in p (n + length xs) ys
places-append p n [] ys = let e : n ≡ n + 0 = omega arith in ap (λ (m : ℕ). places_in p m ys) e
places-append p n (s ∷ ss) ys =
    let P = places_in p (n + 1) ss in
    let Q = places_in p (n + length (s ∷ ss)) ys in
    let e : n + 1 + length ss ≡ n + length (s ∷ ss) = omega arith in
    let all : places_in p (n + 1) (ss ++ ys) ≡ P ++ Q = places-append p (n + 1) ss ys ∙ ap (λ (m : ℕ). P ++ places_in p m ys) e in
    elim (p s) as (λ b. cond b (n ∷ places_in p (n + 1) (ss ++ ys)) (places_in p (n + 1) (ss ++ ys)) ≡ cond b (n ∷ P) P ++ Q) [
      | true ↦ ap (λ (xs : List ℕ). n ∷ xs) all
      | false ↦ all
    ]

-- as many as pass
pub length-places : (p : Slot → Bool) (n : ℕ) (c : List Slot) → length (places_in p n c) ≡ length (filter p c)
length-places p n [] = refl
length-places p n (s ∷ ss) =
    let rest = length-places p (n + 1) ss in
    elim (p s) as (λ b. length (cond b (n ∷ places_in p (n + 1) ss) (places_in p (n + 1) ss)) ≡ length (cond b (s ∷ filter p ss) (filter p ss))) [
      | true ↦ omega (arith, rest)
      | false ↦ rest
    ]

pub none-places : (p : Slot → Bool) (n : ℕ) (c : List Slot) → ((i : ℕ) → p (slot_at c i) ≡ true → ⊥) → places_in p n c ≡ []
none-places p n [] none = refl
none-places p n (s ∷ ss) none =
    let rest = none-places p (n + 1) ss (λ i h. none (suc i) h) in
    elim (p s) as (λ b. p s ≡ b → cond b (n ∷ places_in p (n + 1) ss) (places_in p (n + 1) ss) ≡ []) [
      | true ↦ λ h. absurd (none 0 h)
      | false ↦ λ h. rest
    ] refl

-- tests that agree
pub places-agree : (p q : Slot → Bool) (n : ℕ) (c : List Slot) → ((s : Slot) → p s ≡ q s) → places_in p n c ≡ places_in q n c
places-agree p q n [] same = refl
places-agree p q n (s ∷ ss) same =
    ap (λ (b : Bool). cond b (n ∷ places_in p (n + 1) ss) (places_in p (n + 1) ss)) (same s)
    ∙ ap (λ (xs : List ℕ). cond (q s) (n ∷ xs) xs) (places-agree p q (n + 1) ss same)

-- a cut after the last one that passes
pub places-cut : (p : Slot → Bool) (n : ℕ) (c : List Slot) → ((i : ℕ) → p (slot_at c i) ≡ true → i < n) → places_in p 0 (take n c) ≡ places_in p 0 c
places-cut p n c below =
    let rest = drop n c in
    let none : (i : ℕ) → p (slot_at rest i) ≡ true → ⊥ = λ i h.
    let at : slot_at rest i ≡ slot_at c (n + i) = get_or-drop n c i no_slot in
    let lt : n + i < n = below (n + i) (sym (ap p at) ∙ h) in
    omega (arith, lt) in
    sym (append-nil (places_in p 0 (take n c)))
    ∙ ap (λ (xs : List ℕ). places_in p 0 (take n c) ++ xs) (sym (none-places p (0 + length (take n c)) rest none))
    ∙ sym (places-append p 0 (take n c) rest)
    ∙ ap (places_in p 0) (take-append-drop n c)

-- which come before a place
pub all-before : (p : Slot → Bool) (n : ℕ) (c : List Slot) (m : ℕ) → n + length c ≤ m → filter (before m) (places_in p n c) ≡ places_in p n c
all-before p n [] m le = refl
all-before p n (s ∷ ss) m le =
    let P = places_in p (n + 1) ss in
    let rest = all-before p (n + 1) ss m (omega (arith, le)) in
    let here : before m n ≡ true = lt-ltb n m (omega (arith, le)) in
    elim (p s) as (λ b. filter (before m) (cond b (n ∷ P) P) ≡ cond b (n ∷ P) P) [
      | true ↦ ap (λ (b : Bool). cond b (n ∷ filter (before m) P) (filter (before m) P)) here ∙ ap (λ (xs : List ℕ). n ∷ xs) rest
      | false ↦ rest
    ]

pub none-before : (p : Slot → Bool) (n : ℕ) (c : List Slot) (m : ℕ) → m ≤ n → filter (before m) (places_in p n c) ≡ []
none-before p n [] m le = refl
none-before p n (s ∷ ss) m le =
    let P = places_in p (n + 1) ss in
    let rest = none-before p (n + 1) ss m (omega (arith, le)) in
    let here : before m n ≡ false = le-ltb n m le in
    elim (p s) as (λ b. filter (before m) (cond b (n ∷ P) P) ≡ []) [
      | true ↦ ap (λ (b : Bool). cond b (n ∷ filter (before m) P) (filter (before m) P)) here ∙ rest
      | false ↦ rest
    ]

-- a slot in the middle
module _ (p : Slot → Bool) (front back : List Slot) where
  abbrev pub left : List ℕ
  left = places_in p 0 front

  abbrev pub right : List ℕ
  right = places_in p (length front + 1) back

  pub places-middle : (s : Slot) (b : Bool) → p s ≡ b → places_in p 0 (front ++ s ∷ back) ≡ left ++ cond b (length front ∷ right) right
  places-middle s b h =
      let e : 0 + length front ≡ length front = omega arith in
      places-append p 0 front (s ∷ back)
      ∙ ap (λ (m : ℕ). left ++ places_in p m (s ∷ back)) e
      ∙ ap (λ (t : Bool). left ++ cond t (length front ∷ right) right) h

  right-none : filter (before (length front)) right ≡ []
  right-none = none-before p (length front + 1) back (length front) (omega arith)

  self-none : before (length front) (length front) ≡ false
  self-none = le-ltb (length front) (length front) (omega arith)

  tail-none : (b : Bool) → filter (before (length front)) (cond b (length front ∷ right) right) ≡ []
  tail-none true = ap (λ (b : Bool). cond b (length front ∷ filter (before (length front)) right) (filter (before (length front)) right)) self-none ∙ right-none
  tail-none false = right-none

  pub count-middle : (b : Bool) → length (filter (before (length front)) (left ++ cond b (length front ∷ right) right)) ≡ length left
  count-middle b =
      let le : 0 + length front ≤ length front = omega arith in
      ap length (filter-append (before (length front)) left (cond b (length front ∷ right) right)
      ∙ ap (λ (xs : List ℕ). xs ++ filter (before (length front)) (cond b (length front ∷ right) right)) (all-before p 0 front (length front) le)
      ∙ ap (λ (xs : List ℕ). left ++ xs) (tail-none b)
      ∙ append-nil left)

  zero-at : length left - length left ≡ 0
  zero-at = omega arith

  put-in : insert (left ++ right) (length left) (length front) ≡ left ++ length front ∷ right
  put-in =
      insert-append_right left right (length left) (length left) (length front) refl (omega arith)
      ∙ ap (λ (k : ℕ). left ++ insert right k (length front)) zero-at

  taken-out : remove (left ++ length front ∷ right) (length left) ≡ left ++ right
  taken-out =
      remove-append_right left (length front ∷ right) (length left) (length left) refl (omega arith)
      ∙ ap (λ (k : ℕ). left ++ remove (length front ∷ right) k) zero-at

  -- a slot that passes where it did not, or the other way round
  pub places-turned : (s t : Slot) (b : Bool) → p s ≡ not b → p t ≡ b → turned_place (length front) b (places_in p 0 (front ++ s ∷ back)) ≡ places_in p 0 (front ++ t ∷ back)
  places-turned s t true hs ht =
      ap (turned_place (length front) true) (places-middle s false hs)
      ∙ ap (λ (k : ℕ). insert (left ++ right) k (length front)) (count-middle false)
      ∙ put-in
      ∙ sym (places-middle t true ht)
  places-turned s t false hs ht =
      ap (turned_place (length front) false) (places-middle s true hs)
      ∙ ap (λ (k : ℕ). remove (left ++ length front ∷ right) k) (count-middle true)
      ∙ taken-out
      ∙ sym (places-middle t false ht)

  pub places-same : (s t : Slot) → p s ≡ p t → places_in p 0 (front ++ s ∷ back) ≡ places_in p 0 (front ++ t ∷ back)
  places-same s t h = places-middle s (p t) h ∙ sym (places-middle t (p t) refl)

  pub some-before : (s : Slot) → p s ≡ true → length (filter (before (length front)) (places_in p 0 (front ++ s ∷ back))) < length (places_in p 0 (front ++ s ∷ back))
  some-before s h =
      let is = places-middle s true h in
      let long = ap length is in
      let count = ap (λ (xs : List ℕ). length (filter (before (length front)) xs)) is ∙ count-middle true in
      omega (arith, count, long, length-after)
    where
      length-after : length (left ++ length front ∷ right) ≡ length left + suc (length right)
      length-after = length-append left (length front ∷ right)

-- the same for a slot at a place
split-at : (c : List Slot) (i : ℕ) → i < length c → c ≡ take i c ++ slot_at c i ∷ drop (i + 1) c
split-at c i within = sym (take-append-drop i c) ∙ ap (λ (xs : List Slot). take i c ++ xs) (drop_more c i no_slot within)

set-split : (c : List Slot) (i : ℕ) (t : Slot) → i < length c → set c i t ≡ take i c ++ t ∷ drop (i + 1) c
set-split c i t within =
    let long : length (take i c) ≡ i = length-take-le i c (omega (arith, within)) in
    ap (λ (xs : List Slot). set xs i t) (split-at c i within)
    ∙ set_at (take i c) (slot_at c i) (drop (i + 1) c) t i long

pub places-turned_at : (p : Slot → Bool) (c : List Slot) (i : ℕ) (t : Slot) (b : Bool) → i < length c → p (slot_at c i) ≡ not b → p t ≡ b → turned_place i b (places_in p 0 c) ≡ places_in p 0 (set c i t)
places-turned_at p c i t b within hs ht =
    let long : length (take i c) ≡ i = length-take-le i c (omega (arith, within)) in
    ap (λ (k : ℕ). turned_place k b (places_in p 0 c)) (sym long)
    ∙ ap (λ (xs : List Slot). turned_place (length (take i c)) b (places_in p 0 xs)) (split-at c i within)
    ∙ places-turned p (take i c) (drop (i + 1) c) (slot_at c i) t b hs ht
    ∙ ap (places_in p 0) (sym (set-split c i t within))

pub places-same_at : (p : Slot → Bool) (c : List Slot) (i : ℕ) (t : Slot) → p (slot_at c i) ≡ p t → places_in p 0 (set c i t) ≡ places_in p 0 c
places-same_at p c i t h = elim (cases_lt i (length c)) [
  | inl within ↦
      ap (places_in p 0) (set-split c i t within)
      ∙ places-same p (take i c) (drop (i + 1) c) t (slot_at c i) (sym h)
      ∙ ap (places_in p 0) (sym (split-at c i within))
  | inr past ↦ ap (places_in p 0) (set_past c i t past)
]

pub some-before_at : (p : Slot → Bool) (c : List Slot) (i : ℕ) → i < length c → p (slot_at c i) ≡ true → length (filter (before i) (places_in p 0 c)) < length (places_in p 0 c)
some-before_at p c i within h =
    let long : length (take i c) ≡ i = length-take-le i c (omega (arith, within)) in
    let at = some-before p (take i c) (drop (i + 1) c) (slot_at c i) h in
    let P : ℕ → List Slot → Type 0 = λ k xs. length (filter (before k) (places_in p 0 xs)) < length (places_in p 0 xs) in
    let Q : List Slot → Type 0 = λ xs. P i xs in
    let R : ℕ → Type 0 = λ k. P k (take i c ++ slot_at c i ∷ drop (i + 1) c) in
    subst Q (sym (split-at c i within)) (subst R long at)
