-- What stands at a place among those of the slots that pass a test, and what comes before and after it.
use Rattle.std.proofs.Common.{◌≡◌, ℕ, zero, suc, ◌+◌, ◌-◌, ◌<◌, ◌≤◌, Bool, true, false, ◌&&◌, ◌||◌, cond, List, [], ◌∷◌, ◌++◌, length, get_or, take, drop, map, refl, sym, ap, ap₂, ◌∙◌, subst, arith}
use Rattle.std.specs.List.{AllWithin, filter, list_any}
use Rattle.std.specs.List.Sorted.{IsPartitionedBy}
use Rattle.std.proofs.lemmas.Bool.{ltb-true, lt-ltb}
use Rattle.std.proofs.lemmas.List.{append_assoc, get_or_at, length_push}
use Rattle.avp_lists.specs.declared.slots.Slot.{Slot}
use Rattle.avp_lists.specs.internal.Live.{before, AllLive}
use Rattle.avp_lists.specs.internal.Plans.{places_in}
use Rattle.avp_lists.specs.internal.Slots.{no_slot, slot_at}

-- they rise
low_from : (p : Slot → Bool) (n : ℕ) (c : List Slot) (i d : ℕ) → i < length (places_in p n c) → n ≤ get_or (places_in p n c) i d
low_from p n [] i d lt = absurd (omega (arith, lt))
low_from p n (s ∷ ss) i d lt =
    elim (p s) as (λ b. i < length (cond b (n ∷ places_in p (n + 1) ss) (places_in p (n + 1) ss)) → n ≤ get_or (cond b (n ∷ places_in p (n + 1) ss) (places_in p (n + 1) ss)) i d) [
      | true ↦ λ h. first_or_rest n (places_in p (n + 1) ss) (low_from p (n + 1) ss) i d h
      | false ↦ λ h. omega (arith, low_from p (n + 1) ss i d h)
    ] lt
  where
    first_or_rest : (n : ℕ) (xs : List ℕ) → ((i d : ℕ) → i < length xs → n + 1 ≤ get_or xs i d) → (i d : ℕ) → i < length (n ∷ xs) → n ≤ get_or (n ∷ xs) i d
    first_or_rest n xs rest zero d lt = omega arith
    first_or_rest n xs rest (suc i) d lt = omega (arith, rest i d (omega (arith, lt)))

rising : (p : Slot → Bool) (n : ℕ) (c : List Slot) (i j d : ℕ) → i ≤ j → j < length (places_in p n c) → get_or (places_in p n c) i d ≤ get_or (places_in p n c) j d
rising p n [] i j d le lt = absurd (omega (arith, lt))
rising p n (s ∷ ss) i j d le lt =
    elim (p s) as (λ b. j < length (cond b (n ∷ places_in p (n + 1) ss) (places_in p (n + 1) ss)) → get_or (cond b (n ∷ places_in p (n + 1) ss) (places_in p (n + 1) ss)) i d ≤ get_or (cond b (n ∷ places_in p (n + 1) ss) (places_in p (n + 1) ss)) j d) [
      | true ↦ λ h. from_first n (places_in p (n + 1) ss) (low_from p (n + 1) ss) (rising p (n + 1) ss) i j d le h
      | false ↦ λ h. rising p (n + 1) ss i j d le h
    ] lt
  where
    from_first : (n : ℕ) (xs : List ℕ) → ((i d : ℕ) → i < length xs → n + 1 ≤ get_or xs i d) → ((i j d : ℕ) → i ≤ j → j < length xs → get_or xs i d ≤ get_or xs j d) → (i j d : ℕ) → i ≤ j → j < length (n ∷ xs) → get_or (n ∷ xs) i d ≤ get_or (n ∷ xs) j d
    from_first n xs low rest zero zero d le lt = omega arith
    from_first n xs low rest zero (suc j) d le lt = omega (arith, low j d (omega (arith, lt)))
    from_first n xs low rest (suc i) zero d le lt = absurd (omega (arith, le))
    from_first n xs low rest (suc i) (suc j) d le lt = rest i j d (omega (arith, le)) (omega (arith, lt))

pub partitioned : (p : Slot → Bool) (n : ℕ) (c : List Slot) (m : ℕ) → IsPartitionedBy (before m) (places_in p n c)
partitioned p n c m i j d le lt h =
    let xs = places_in p n c in
    lt-ltb (get_or xs i d) m (omega (arith, rising p n c i j d le lt, ltb-true (get_or xs j d) m h))

-- where a test turns from true to false is how many pass it
pub partition-count : (q : ℕ → Bool) (xs : List ℕ) (k : ℕ) → k ≤ length xs → AllWithin (λ y. q y ≡ true) xs 0 k → AllWithin (λ y. q y ≡ false) xs k (length xs) → k ≡ length (filter q xs)
partition-count q [] k le on off = omega (arith, le)
partition-count q (x ∷ xs) zero le on off =
    let rest = partition-count q xs 0 (omega arith) (λ j d low high. absurd (omega (arith, high))) (λ j d low high. off (suc j) d (omega arith) (omega (arith, high))) in
    let here : q x ≡ false = off 0 0 (omega arith) (omega arith) in
    rest ∙ sym (ap (λ (b : Bool). length (cond b (x ∷ filter q xs) (filter q xs))) here)
partition-count q (x ∷ xs) (suc k) le on off =
    let rest = partition-count q xs k (omega (arith, le)) (λ j d low high. on (suc j) d (omega arith) (omega (arith, high))) (λ j d low high. off (suc j) d (omega (arith, low)) (omega (arith, high))) in
    let here : q x ≡ true = on 0 0 (omega arith) (omega arith) in
    ap suc rest ∙ sym (ap (λ (b : Bool). length (cond b (x ∷ filter q xs) (filter q xs))) here)

-- what is known of one of them, the first slot having the place n
pub record PlaceOf (p : Slot → Bool) (n : ℕ) (c : List Slot) (xs : List ℕ) (k : ℕ) : Type 0 where
  pub low : n ≤ get_or xs k 0
  pub high : get_or xs k 0 < n + length c
  pub passes : p (slot_at c (get_or xs k 0 - n)) ≡ true
  pub front : take k xs ≡ places_in p n (take (get_or xs k 0 - n) c)
  pub back : drop (k + 1) xs ≡ places_in p (get_or xs k 0 + 1) (drop (get_or xs k 0 - n + 1) c)

-- a slot more in front, which passes or not
later : (p : Slot → Bool) (n : ℕ) (s : Slot) (ss : List Slot) (b : Bool) → p s ≡ b → (xs : List ℕ) (k at : ℕ) → n + 1 ≤ at → at < n + 1 + length ss → p (slot_at ss (at - (n + 1))) ≡ true → (take_k : List ℕ) → take_k ≡ cond b (n ∷ places_in p (n + 1) (take (at - (n + 1)) ss)) (places_in p (n + 1) (take (at - (n + 1)) ss)) → (drop_k : List ℕ) → drop_k ≡ places_in p (at + 1) (drop (at - (n + 1) + 1) ss) → (n ≤ at) × (at < n + length (s ∷ ss)) × (p (slot_at (s ∷ ss) (at - n)) ≡ true) × (take_k ≡ places_in p n (take (at - n) (s ∷ ss))) × (drop_k ≡ places_in p (at + 1) (drop (at - n + 1) (s ∷ ss)))
later p n s ss b h xs k at low high passes take_k front drop_k back =
    let e : at - n ≡ suc (at - (n + 1)) = omega (arith, low) in
    let f : at - n + 1 ≡ suc (at - (n + 1) + 1) = omega (arith, low) in
    let rest = places_in p (n + 1) (take (at - (n + 1)) ss) in (
      omega (arith, low),
      omega (arith, high),
      ap (λ (m : ℕ). p (slot_at (s ∷ ss) m)) e ∙ passes,
      front ∙ sym (ap (λ (t : Bool). cond t (n ∷ rest) rest) h) ∙ sym (ap (λ (m : ℕ). places_in p n (take m (s ∷ ss))) e),
      back ∙ sym (ap (λ (m : ℕ). places_in p (at + 1) (drop m (s ∷ ss))) f),
    )

pub place_of : (p : Slot → Bool) (n : ℕ) (c : List Slot) (k : ℕ) → k < length (places_in p n c) → PlaceOf p n c (places_in p n c) k
place_of p n [] k lt = absurd (omega (arith, lt))
place_of p n (s ∷ ss) k lt =
    elim (p s) as (λ b. p s ≡ b → k < length (cond b (n ∷ places_in p (n + 1) ss) (places_in p (n + 1) ss)) → PlaceOf p n (s ∷ ss) (cond b (n ∷ places_in p (n + 1) ss) (places_in p (n + 1) ss)) k) [
      | true ↦ λ h lt. first_or_later p n s ss h (place_of p (n + 1) ss) k lt
      | false ↦ λ h lt.
          let xs = places_in p (n + 1) ss in
          let r = place_of p (n + 1) ss k lt in
          let all = later p n s ss false h xs k (get_or xs k 0) r.low r.high r.passes (take k xs) r.front (drop (k + 1) xs) r.back in
          record { low = all.0; high = all.1; passes = all.2; front = all.3; back = all.4 }
    ] refl lt
  where
    first_or_later : (p : Slot → Bool) (n : ℕ) (s : Slot) (ss : List Slot) → p s ≡ true → ((k : ℕ) → k < length (places_in p (n + 1) ss) → PlaceOf p (n + 1) ss (places_in p (n + 1) ss) k) → (k : ℕ) → k < length (n ∷ places_in p (n + 1) ss) → PlaceOf p n (s ∷ ss) (n ∷ places_in p (n + 1) ss) k
    first_or_later p n s ss h rest zero lt =
        let e : n - n ≡ 0 = omega arith in
        let f : n - n + 1 ≡ 1 = omega arith in
        record {
          low = omega arith;
          high = omega arith;
          passes = ap (λ (m : ℕ). p (slot_at (s ∷ ss) m)) e ∙ h;
          front = sym (ap (λ (m : ℕ). places_in p n (take m (s ∷ ss))) e);
          back = sym (ap (λ (m : ℕ). places_in p (n + 1) (drop m (s ∷ ss))) f);
        }
    first_or_later p n s ss h rest (suc k) lt =
        let xs = places_in p (n + 1) ss in
        let r = rest k (omega (arith, lt)) in
        let all = later p n s ss true h xs k (get_or xs k 0) r.low r.high r.passes (n ∷ take k xs) (ap (λ (ys : List ℕ). n ∷ ys) r.front) (drop (k + 1) xs) r.back in
        let g : suc k + 1 ≡ suc (k + 1) = omega arith in
        record { low = all.0; high = all.1; passes = all.2; front = all.3; back = ap (λ (m : ℕ). drop m (n ∷ xs)) g ∙ all.4 }

-- of those of all slots
module _ (p : Slot → Bool) (c : List Slot) (k : ℕ) (lt : k < length (places_in p 0 c)) where
  abbrev pub at : ℕ
  at = get_or (places_in p 0 c) k 0

  known : PlaceOf p 0 c (places_in p 0 c) k
  known = place_of p 0 c k lt

  at_zero : at - 0 ≡ at
  at_zero = omega arith

  pub place-within : get_or (places_in p 0 c) k 0 < length c
  place-within = omega (arith, known.high)

  pub place-passes : p (slot_at c (get_or (places_in p 0 c) k 0)) ≡ true
  place-passes = ap (λ (m : ℕ). p (slot_at c m)) (sym at_zero) ∙ known.passes

  pub place-front : take k (places_in p 0 c) ≡ places_in p 0 (take (get_or (places_in p 0 c) k 0) c)
  place-front = known.front ∙ ap (λ (m : ℕ). places_in p 0 (take m c)) at_zero

  pub place-back : drop (k + 1) (places_in p 0 c) ≡ places_in p (get_or (places_in p 0 c) k 0 + 1) (drop (get_or (places_in p 0 c) k 0 + 1) c)
  place-back = known.back ∙ ap (λ (m : ℕ). places_in p (at + 1) (drop (m + 1) c)) at_zero

pub all-live : (p : Slot → Bool) → ((s : Slot) → p s ≡ true → s.mark.live ≡ true) → (c : List Slot) (xs : List ℕ) → xs ≡ places_in p 0 c → AllLive c xs
all-live p live c xs is = subst (AllLive c) (sym is) (λ k lt. (place-within p c k lt, live (slot_at c (get_or (places_in p 0 c) k 0)) (place-passes p c k lt)))

-- one slot further on
advance : (pre ss : List Slot) (s : Slot) (T : List Slot → ℕ → Type 0) → T ((pre ++ s ∷ []) ++ ss) (length (pre ++ s ∷ [])) → T (pre ++ s ∷ ss) (length pre + 1)
advance pre ss s T h =
    let A : ℕ → Type 0 = λ n. T (pre ++ s ∷ ss) n in
    let B : List Slot → Type 0 = λ xs. T xs (length (pre ++ s ∷ [])) in
    subst A (length_push pre s) (subst B (append_assoc pre (s ∷ []) ss) h)

-- the slots at these places
slots-from : (p : Slot → Bool) (pre c : List Slot) → map (slot_at (pre ++ c)) (places_in p (length pre) c) ≡ filter p c
slots-from p pre [] = refl
slots-from p pre (s ∷ ss) =
    let R = places_in p (length pre + 1) ss in
    let all = pre ++ s ∷ ss in
    let here : slot_at all (length pre) ≡ s = get_or_at pre s ss no_slot (length pre) refl in
    let rest : map (slot_at all) R ≡ filter p ss = advance pre ss s (λ xs n. map (slot_at xs) (places_in p n ss) ≡ filter p ss) (slots-from p (pre ++ s ∷ []) ss) in
    elim (p s) as (λ b. map (slot_at all) (cond b (length pre ∷ R) R) ≡ cond b (s ∷ filter p ss) (filter p ss)) [
      | true ↦ ap₂ (λ (x : Slot) (xs : List Slot). x ∷ xs) here rest
      | false ↦ rest
    ]

pub slots-at-places : (p : Slot → Bool) (c : List Slot) → map (slot_at c) (places_in p 0 c) ≡ filter p c
slots-at-places p c = slots-from p [] c

-- those of them that pass another test
passing-from : (q r : Slot → Bool) (pre c : List Slot) → filter (λ i. r (slot_at (pre ++ c) i)) (places_in q (length pre) c) ≡ places_in (λ s. q s && r s) (length pre) c
passing-from q r pre [] = refl
passing-from q r pre (s ∷ ss) =
    let n = length pre in
    let R = places_in q (n + 1) ss in
    let Q = places_in (λ s. q s && r s) (n + 1) ss in
    let all = pre ++ s ∷ ss in
    let t : ℕ → Bool = λ i. r (slot_at all i) in
    let here : slot_at all n ≡ s = get_or_at pre s ss no_slot n refl in
    let rest : filter t R ≡ Q = advance pre ss s (λ xs n. filter (λ i. r (slot_at xs i)) (places_in q n ss) ≡ places_in (λ s. q s && r s) n ss) (passing-from q r (pre ++ s ∷ []) ss) in
    elim (q s) as (λ b. filter t (cond b (n ∷ R) R) ≡ cond (b && r s) (n ∷ Q) Q) [
      | true ↦ ap (λ (x : Slot). cond (r x) (n ∷ filter t R) (filter t R)) here ∙ ap (λ (xs : List ℕ). cond (r s) (n ∷ xs) xs) rest
      | false ↦ rest
    ]

pub places-passing : (q r : Slot → Bool) (c : List Slot) → filter (λ i. r (slot_at c i)) (places_in q 0 c) ≡ places_in (λ s. q s && r s) 0 c
places-passing q r c = passing-from q r [] c

-- whether one passes
pub any-part : (p h g : Slot → Bool) → ((s : Slot) → (p s && h s) ≡ g s) → (pre d post all : List Slot) → pre ++ (d ++ post) ≡ all → list_any (λ i. h (slot_at all i)) (places_in p (length pre) d) ≡ list_any g d
any-part p h g same pre [] post all is = refl
any-part p h g same pre (s ∷ ss) post all is =
    let n = length pre in
    let R = places_in p (n + 1) ss in
    let t : ℕ → Bool = λ i. h (slot_at all i) in
    let here : slot_at all n ≡ s = ap (λ (xs : List Slot). slot_at xs n) (sym is) ∙ get_or_at pre s (ss ++ post) no_slot n refl in
    let next : (pre ++ s ∷ []) ++ (ss ++ post) ≡ all = append_assoc pre (s ∷ []) (ss ++ post) ∙ is in
    let rest : list_any t R ≡ list_any g ss = ap (λ (m : ℕ). list_any t (places_in p m ss)) (sym (length_push pre s)) ∙ any-part p h g same (pre ++ s ∷ []) ss post all next in
    elim (p s) as (λ b. (b && h s) ≡ g s → list_any t (cond b (n ∷ R) R) ≡ (g s || list_any g ss)) [
      | true ↦ λ e. ap₂ (λ (x y : Bool). x || y) (ap h here ∙ e) rest
      | false ↦ λ e. rest ∙ ap (λ (x : Bool). x || list_any g ss) e
    ] (same s)
