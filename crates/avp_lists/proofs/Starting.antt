-- The slots of a new store.
use Rattle.std.proofs.Common.{◌≡◌, ℕ, zero, suc, ◌+◌, ◌-◌, ◌<◌, ◌≤◌, true, false, cond, List, [], ◌∷◌, ◌++◌, length, get_or, map, take, drop, refl, sym, ap, ap₂, ◌∙◌, subst, arith, append_assoc, append-nil, length-append}
use Rattle.std.specs.List.{filter}
use Rattle.std.proofs.lemmas.List.{drop_more, drop_at, take_all, map-append, get_or_append_left}
use Rattle.avp_lists.specs.declared.pairs.Pair.{Pair}
use Rattle.avp_lists.specs.declared.lists.List.{List as WhichList}
use Rattle.avp_lists.specs.declared.lists.List.TheVariants.{Request, Reply, Control}
use Rattle.avp_lists.specs.declared.slots.End.TheVariants.{Head, Tail}
use Rattle.avp_lists.specs.declared.slots.Slot.{Slot}
use Rattle.avp_lists.specs.internal.Shown.{same_list, shows, no_pair, slot_pair, entered_at, shown_pairs, shown_state}
use Rattle.avp_lists.specs.internal.Slots.{slot_at, at_initial, PairsWithin}
use Rattle.avp_lists.proofs.Edited.{same_itself, within-append, within-more}
use Rattle.avp_lists.proofs.InOrder.{shown_of}
use Rattle.avp_lists.proofs.ShownPairs.{shown_pairs-tails, shown_pairs-agree}
use Rattle.avp_lists.specs.internal.Plans.{fresh_slot, fresh}

pub fresh_more : (which : WhichList) (at n : ℕ) → fresh which at (suc n) ≡ fresh which at n ++ fresh_slot which (at + n) ∷ []
fresh_more which at zero = let e : at ≡ at + 0 = omega arith in ap (λ (k : ℕ). fresh_slot which k ∷ []) e
fresh_more which at (suc n) =
    let e : (at + 1) + n ≡ at + suc n = omega arith in
    ap (λ (xs : List Slot). fresh_slot which at ∷ xs) (fresh_more which (at + 1) n ∙ ap (λ (k : ℕ). fresh which (at + 1) n ++ fresh_slot which k ∷ []) e)

-- one slot more
pub fresh_step : (which : WhichList) (from at : ℕ) (xs : List Slot) → from ≤ at → (xs ++ fresh which from (at - from)) ++ fresh_slot which at ∷ [] ≡ xs ++ fresh which from (at + 1 - from)
fresh_step which from at xs le =
    let n : at + 1 - from ≡ suc (at - from) = omega arith in
    let e : from + (at - from) ≡ at = omega arith in
    append_assoc xs (fresh which from (at - from)) (fresh_slot which at ∷ [])
    ∙ ap (λ (k : ℕ). xs ++ (fresh which from (at - from) ++ fresh_slot which k ∷ [])) (sym e)
    ∙ ap (λ (ys : List Slot). xs ++ ys) (sym (fresh_more which from (at - from)) ∙ ap (fresh which from) (sym n))

pub length-fresh : (which : WhichList) (at n : ℕ) → length (fresh which at n) ≡ n
length-fresh which at zero = refl
length-fresh which at (suc n) = omega (arith, length-fresh which (at + 1) n)

-- they are of one list
pub fresh-shown : (which : WhichList) (at n : ℕ) → filter (shows which) (fresh which at n) ≡ fresh which at n
fresh-shown which at zero = refl
fresh-shown which at (suc n) = rw (same_itself which) (ap (λ (xs : List Slot). fresh_slot which at ∷ xs) (fresh-shown which (at + 1) n))

pub fresh-hidden : (which other : WhichList) → same_list which other ≡ false → (at n : ℕ) → filter (shows which) (fresh other at n) ≡ []
fresh-hidden which other h at zero = refl
fresh-hidden which other h at (suc n) = rw h (fresh-hidden which other h (at + 1) n)

pub fresh-of : (one which : WhichList) → same_list one which ≡ true → (at n : ℕ) → filter (shows one) (fresh which at n) ≡ fresh which at n
fresh-of Request Request h at n = fresh-shown Request at n
fresh-of Reply Reply h at n = fresh-shown Reply at n
fresh-of Control Control h at n = fresh-shown Control at n
fresh-of _ _ h at n = cc

-- and entered at its tail
fresh-heads : (which : WhichList) (at n : ℕ) → filter (entered_at Head) (fresh which at n) ≡ []
fresh-heads which at zero = refl
fresh-heads which at (suc n) = fresh-heads which (at + 1) n

fresh-tails : (which : WhichList) (at n : ℕ) → filter (entered_at Tail) (fresh which at n) ≡ fresh which at n
fresh-tails which at zero = refl
fresh-tails which at (suc n) = ap (λ (xs : List Slot). fresh_slot which at ∷ xs) (fresh-tails which (at + 1) n)

-- and stand for a part of the pool
pub fresh-pairs : (pool : List Pair) (which : WhichList) (at n : ℕ) → at + n ≤ length pool → map (slot_pair pool) (fresh which at n) ≡ take n (drop at pool)
fresh-pairs pool which at zero h = refl
fresh-pairs pool which at (suc n) h =
    let lt : at < length pool = omega (arith, h) in
    let le : (at + 1) + n ≤ length pool = omega (arith, h) in
    ap (λ (xs : List Pair). get_or pool at no_pair ∷ xs) (fresh-pairs pool which (at + 1) n le)
    ∙ ap (take (suc n)) (sym (drop_more pool at no_pair lt))

fresh-initials : (which : WhichList) (at n : ℕ) → map at_initial (fresh which at n) ≡ fresh which at n
fresh-initials which at zero = refl
fresh-initials which at (suc n) = ap (λ (xs : List Slot). fresh_slot which at ∷ xs) (fresh-initials which (at + 1) n)

fresh-within : (which : WhichList) (at n m : ℕ) → at + n ≤ m → PairsWithin m (fresh which at n)
fresh-within which at zero m le i live = cc
fresh-within which at (suc n) m le zero live = omega (arith, le)
fresh-within which at (suc n) m le (suc i) live = fresh-within which (at + 1) n m (omega (arith, le)) i live

-- a list more
module _ (which : WhichList) (pool xs other : List Pair) (slots more : List Slot) (P : other ≡ pool ++ xs) (N : more ≡ slots ++ fresh which (length pool) (length xs)) where
  pub started-length : length more ≡ length slots + length xs
  started-length = ap length N ∙ length-append slots (fresh which (length pool) (length xs)) ∙ ap (λ (n : ℕ). length slots + n) (length-fresh which (length pool) (length xs))

  pub started-initials : map at_initial slots ≡ slots → map at_initial more ≡ more
  started-initials initials =
      let end = fresh which (length pool) (length xs) in
      ap (map at_initial) N ∙ map-append at_initial slots end ∙ ap₂ (λ (a b : List Slot). a ++ b) initials (fresh-initials which (length pool) (length xs)) ∙ sym N

  pub started-within : PairsWithin (length pool) slots → PairsWithin (length other) more
  started-within within =
      let end = fresh which (length pool) (length xs) in
      let long : length other ≡ length pool + length xs = ap length P ∙ length-append pool xs in
      let A : List Slot → Type 0 = λ c. PairsWithin (length other) c in
      subst A (sym N) (within-append (length other) slots end (within-more (length pool) (length other) slots (omega (arith, long)) within) (fresh-within which (length pool) (length xs) (length other) (omega (arith, long))))

  pub started-pairs : PairsWithin (length pool) slots → (one : WhichList) → shown_pairs one other more ≡ shown_pairs one pool slots ++ cond (same_list one which) xs []
  started-pairs within one =
      let end = fresh which (length pool) (length xs) in
      let long : length other ≡ length pool + length xs = ap length P ∙ length-append pool xs in
      let agree : (i : ℕ) → (slot_at slots i).mark.live ≡ true → slot_pair other (slot_at slots i) ≡ slot_pair pool (slot_at slots i) = λ i live. ap (λ (x : List Pair). slot_pair x (slot_at slots i)) P ∙ get_or_append_left pool xs no_pair (slot_at slots i).mark.pair (within i live) in
      let new : shown_of one other end ≡ cond (same_list one which) xs [] = elim (same_list one which) as (λ b. same_list one which ≡ b → shown_of one other end ≡ cond b xs []) [
        | true ↦ λ h.
            ap (map (slot_pair other)) (fresh-of one which h (length pool) (length xs))
            ∙ fresh-pairs other which (length pool) (length xs) (omega (arith, long))
            ∙ ap (λ (x : List Pair). take (length xs) (drop (length pool) x)) P
            ∙ ap (take (length xs)) (drop_at pool xs (length pool) refl)
            ∙ take_all (length xs) xs (omega arith)
        | false ↦ λ h. ap (map (slot_pair other)) (fresh-hidden one which h (length pool) (length xs))
      ] refl in
      ap (shown_pairs one other) N
      ∙ shown_pairs-tails one other slots end (fresh-heads which (length pool) (length xs)) (fresh-tails which (length pool) (length xs))
      ∙ ap₂ (λ (a b : List Pair). a ++ b) (shown_pairs-agree one other pool slots agree) new

-- the three lists
pub started-state : (pool0 pool1 pool2 pool : List Pair) (slots0 slots1 slots2 slots : List Slot) (R P C : List Pair) → pool0 ≡ [] → slots0 ≡ [] → pool1 ≡ pool0 ++ R → slots1 ≡ slots0 ++ fresh Request (length pool0) (length R) → pool2 ≡ pool1 ++ P → slots2 ≡ slots1 ++ fresh Reply (length pool1) (length P) → pool ≡ pool2 ++ C → slots ≡ slots2 ++ fresh Control (length pool2) (length C) → (shown_state pool slots ≡ record { request = R; reply = P; control = C }) × (map at_initial slots ≡ slots) × PairsWithin (length pool) slots
started-state pool0 pool1 pool2 pool slots0 slots1 slots2 slots R P C zp zs p1 s1 p2 s2 p3 s3 =
    let A : List Slot → Type 0 = λ c. PairsWithin (length pool0) c in
    let w0 : PairsWithin (length pool0) slots0 = subst A (sym zs) (λ i live. cc) in
    let f0 : map at_initial slots0 ≡ slots0 = ap (map at_initial) zs ∙ sym zs in
    let w1 = started-within Request pool0 R pool1 slots0 slots1 p1 s1 w0 in
    let w2 = started-within Reply pool1 P pool2 slots1 slots2 p2 s2 w1 in
    let w3 = started-within Control pool2 C pool slots2 slots p3 s3 w2 in
    let f1 = started-initials Request pool0 R pool1 slots0 slots1 p1 s1 f0 in
    let f2 = started-initials Reply pool1 P pool2 slots1 slots2 p2 s2 f1 in
    let f3 = started-initials Control pool2 C pool slots2 slots p3 s3 f2 in
    let all : (one : WhichList) → shown_pairs one pool slots ≡ (cond (same_list one Request) R [] ++ cond (same_list one Reply) P []) ++ cond (same_list one Control) C [] = λ one.
    let none : shown_pairs one pool0 slots0 ≡ [] = ap (shown_pairs one pool0) zs in
    started-pairs Control pool2 C pool slots2 slots p3 s3 w2 one
    ∙ ap (λ (x : List Pair). x ++ cond (same_list one Control) C []) (started-pairs Reply pool1 P pool2 slots1 slots2 p2 s2 w1 one
    ∙ ap (λ (x : List Pair). x ++ cond (same_list one Reply) P []) (started-pairs Request pool0 R pool1 slots0 slots1 p1 s1 w0 one ∙ ap (λ (x : List Pair). x ++ cond (same_list one Request) R []) none)) in
    let request : shown_pairs Request pool slots ≡ R = all Request ∙ append-nil (R ++ []) ∙ append-nil R in
    let reply : shown_pairs Reply pool slots ≡ P = all Reply ∙ append-nil P in
    let control : shown_pairs Control pool slots ≡ C = all Control in
    (rw (request, reply, control) refl, f3, w3)
