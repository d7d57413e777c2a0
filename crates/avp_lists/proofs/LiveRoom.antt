-- How many slots entered a list at an end, and so how much room their places need.
use Rattle.std.proofs.Common.{◌≡◌, ℕ, zero, suc, ◌+◌, ◌<◌, ◌≤◌, Bool, true, false, ◌&&◌, cond, List, [], ◌∷◌, ◌++◌, length, take, drop, map, refl, sym, ap, ◌∙◌, arith, length-append}
use Rattle.std.specs.Prelude.{vec_capacity}
use Rattle.std.specs.List.{filter}
use Rattle.std.proofs.lemmas.List.{take-append-drop}
use Rattle.std.proofs.lemmas.List.Elements.{filter-append}
use Rattle.avp_lists.specs.declared.lists.List.{List as WhichList}
use Rattle.avp_lists.specs.declared.lists.List.TheVariants.{Request, Reply, Control}
use Rattle.avp_lists.specs.declared.live.Live.{Live}
use Rattle.avp_lists.specs.declared.slots.End.{End}
use Rattle.avp_lists.specs.declared.slots.End.TheVariants.{Head, Tail}
use Rattle.avp_lists.specs.declared.slots.Slot.{Slot}
use Rattle.avp_lists.specs.internal.Live.{live_at, entered_in, HaveRoom, HasTailRoom}
use Rattle.avp_lists.specs.internal.Plans.{fresh_slot, fresh}
use Rattle.avp_lists.specs.internal.Shown.{same_list, same_end, shows_at}
use Rattle.avp_lists.specs.internal.Slots.{slot_at, is_live, at_initial, kept}

-- a stricter test passes no more
pub fewer : (p q : Slot → Bool) → ((s : Slot) → p s ≡ true → q s ≡ true) → (c : List Slot) → length (filter p c) ≤ length (filter q c)
fewer p q also [] = omega arith
fewer p q also (s ∷ ss) =
    let rest = fewer p q also ss in
    elim (p s) as (λ a. p s ≡ a → length (cond a (s ∷ filter p ss) (filter p ss)) ≤ length (cond (q s) (s ∷ filter q ss) (filter q ss))) [
      | true ↦ λ h. ap_le (q s) (length (s ∷ filter p ss)) s (filter q ss) (also s h) (omega (arith, rest))
      | false ↦ λ h. elim (q s) as (λ b. length (filter p ss) ≤ length (cond b (s ∷ filter q ss) (filter q ss))) [ true ↦ omega (arith, rest) | false ↦ rest ]
    ] refl
  where
    ap_le : (b : Bool) (n : ℕ) (s : Slot) (xs : List Slot) → b ≡ true → n ≤ length (s ∷ xs) → n ≤ length (cond b (s ∷ xs) xs)
    ap_le b n s xs h le = rw h le

-- and fewer where one passes the other test alone
pub strictly_fewer : (p q : Slot → Bool) → ((s : Slot) → p s ≡ true → q s ≡ true) → (c : List Slot) (i : ℕ) → i < length c → p (slot_at c i) ≡ false → q (slot_at c i) ≡ true → length (filter p c) < length (filter q c)
strictly_fewer p q also [] i within hp hq = absurd (omega (arith, within))
strictly_fewer p q also (s ∷ ss) zero within hp hq =
    let rest = fewer p q also ss in
    rw (hp, hq) (omega (arith, rest))
strictly_fewer p q also (s ∷ ss) (suc i) within hp hq =
    let rest = strictly_fewer p q also ss i (omega (arith, within)) hp hq in
    elim (p s) as (λ a. p s ≡ a → length (cond a (s ∷ filter p ss) (filter p ss)) < length (cond (q s) (s ∷ filter q ss) (filter q ss))) [
      | true ↦ λ h. rw (also s h) (omega (arith, rest))
      | false ↦ λ h. elim (q s) as (λ b. length (filter p ss) < length (cond b (s ∷ filter q ss) (filter q ss))) [ true ↦ omega (arith, rest) | false ↦ rest ]
    ] refl

-- a cut leaves no more
pub fewer-take : (q : Slot → Bool) (n : ℕ) (c : List Slot) → length (filter q (take n c)) ≤ length (filter q c)
fewer-take q n c =
    let whole = ap (λ (xs : List Slot). length (filter q xs)) (take-append-drop n c) in
    let parts = ap length (filter-append q (take n c) (drop n c)) ∙ length-append (filter q (take n c)) (filter q (drop n c)) in
    omega (arith, whole, parts)

-- where a slot entered does not change
count-initial : (end : End) (which : WhichList) (c : List Slot) → length (filter (entered_in end which) (map at_initial c)) ≡ length (filter (entered_in end which) c)
count-initial end which [] = refl
count-initial end which (s ∷ ss) =
    let rest = count-initial end which ss in
    elim (entered_in end which s) as (λ b. length (cond b (at_initial s ∷ filter (entered_in end which) (map at_initial ss)) (filter (entered_in end which) (map at_initial ss))) ≡ length (cond b (s ∷ filter (entered_in end which) ss) (filter (entered_in end which) ss))) [
      | true ↦ omega (arith, rest)
      | false ↦ rest
    ]

pub room-same : (c d : List Slot) (l : Live) → map at_initial d ≡ map at_initial c → HaveRoom c l → HaveRoom d l
room-same c d l same room end which =
    let e = sym (count-initial end which d) ∙ ap (λ (xs : List Slot). length (filter (entered_in end which) xs)) same ∙ count-initial end which c in
    omega (arith, e, room end which)

-- what is forgotten needs no room
pub count-settled : (end : End) (which : WhichList) (c : List Slot) → length (filter (entered_in end which) (map kept (filter is_live c))) ≤ length (filter (entered_in end which) c)
count-settled end which [] = omega arith
count-settled end which (s ∷ ss) =
    let q = entered_in end which in
    let rest = count-settled end which ss in
    elim (is_live s) as (λ a. length (filter q (map kept (cond a (s ∷ filter is_live ss) (filter is_live ss)))) ≤ length (cond (q s) (s ∷ filter q ss) (filter q ss))) [
      | true ↦ elim (q s) as (λ b. length (cond b (kept s ∷ filter q (map kept (filter is_live ss))) (filter q (map kept (filter is_live ss)))) ≤ length (cond b (s ∷ filter q ss) (filter q ss))) [ true ↦ omega (arith, rest) | false ↦ rest ]
      | false ↦ elim (q s) as (λ b. length (filter q (map kept (filter is_live ss))) ≤ length (cond b (s ∷ filter q ss) (filter q ss))) [ true ↦ omega (arith, rest) | false ↦ rest ]
    ]

-- a slot that shows a pair entered there
and_ends : (a l b : Bool) → (a && (l && b)) ≡ true → (a && b) ≡ true
and_ends true true b h = h
and_ends true false b h = cc
and_ends false l b h = cc

pub shows-entered : (end : End) (which : WhichList) (s : Slot) → shows_at end which s ≡ true → entered_in end which s ≡ true
shows-entered end which s h = and_ends (same_end end s.end) s.mark.live (same_list which s.list) h

-- the slots that a store begins with
count-fresh : (end : End) (which w : WhichList) (at n : ℕ) → length (filter (entered_in end which) (fresh w at n)) ≡ cond (same_end end Tail && same_list which w) n 0
count-fresh end which w at zero = elim (same_end end Tail && same_list which w) as (λ b. length (filter (entered_in end which) []) ≡ cond b 0 0) [ true ↦ refl | false ↦ refl ]
count-fresh end which w at (suc n) =
    let q = entered_in end which in
    let rest = count-fresh end which w (at + 1) n in
    elim (same_end end Tail && same_list which w) as (λ b. length (filter q (fresh w (at + 1) n)) ≡ cond b n 0 → length (cond b (fresh_slot w at ∷ filter q (fresh w (at + 1) n)) (filter q (fresh w (at + 1) n))) ≡ cond b (suc n) 0) [
      | true ↦ λ h. omega (arith, h)
      | false ↦ λ h. h
    ] rest

room-cases : (end : End) (which : WhichList) (total x y z r p c : ℕ) (l : Live) → x ≡ cond (same_end end Tail && same_list which Request) r 0 → y ≡ cond (same_end end Tail && same_list which Reply) p 0 → z ≡ cond (same_end end Tail && same_list which Control) c 0 → total ≡ (x + y) + z → HasTailRoom r p c l → total ≤ vec_capacity (live_at end which l)
room-cases Head which total x y z r p c l hx hy hz sum room = omega (arith, hx, hy, hz, sum)
room-cases Tail Request total x y z r p c l hx hy hz sum room = omega (arith, hx, hy, hz, sum, room.0)
room-cases Tail Reply total x y z r p c l hx hy hz sum room = omega (arith, hx, hy, hz, sum, room.1)
room-cases Tail Control total x y z r p c l hx hy hz sum room = omega (arith, hx, hy, hz, sum, room.2)

pub room-fresh : (r p c a b d : ℕ) (l : Live) → HasTailRoom r p c l → (slots : List Slot) → slots ≡ (fresh Request a r ++ fresh Reply b p) ++ fresh Control d c → HaveRoom slots l
room-fresh r p c a b d l room slots is end which =
    let q = entered_in end which in
    let first = fresh Request a r in
    let second = fresh Reply b p in
    let third = fresh Control d c in
    let two : length (filter q (first ++ second)) ≡ length (filter q first) + length (filter q second) = ap length (filter-append q first second) ∙ length-append (filter q first) (filter q second) in
    let all : length (filter q slots) ≡ (length (filter q first) + length (filter q second)) + length (filter q third) =
    ap (λ (xs : List Slot). length (filter q xs)) is
    ∙ ap length (filter-append q (first ++ second) third)
    ∙ length-append (filter q (first ++ second)) (filter q third)
    ∙ ap (λ (n : ℕ). n + length (filter q third)) two in
    room-cases end which (length (filter q slots)) (length (filter q first)) (length (filter q second)) (length (filter q third)) r p c l (count-fresh end which Request a r) (count-fresh end which Reply b p) (count-fresh end which Control d c) all room
