-- The first that passes a test, in the order of the slots.
use Rattle.std.proofs.Common.{◌≡◌, ℕ, zero, suc, ◌+◌, ◌-◌, ◌<◌, ◌≤◌, Bool, true, false, ◌||◌, cond, Some, None, List, [], ◌∷◌, ◌++◌, length, get_or, take, drop, map, refl, sym, ap, ◌∙◌, arith}
use Rattle.std.specs.Prelude.{reverse, slice_get}
use Rattle.std.specs.List.{filter, find, list_any}
use Rattle.std.proofs.lemmas.List.{take-append-drop, drop_more, get_or-reverse, length-map, length-reverse}
use Rattle.std.proofs.lemmas.List.Folds.{list_any-append}
use Rattle.std.proofs.lemmas.Option.{slice_get-get_or}
use Rattle.avp_lists.specs.declared.pairs.Pair.{Pair}
use Rattle.avp_lists.specs.declared.lists.List.{List as WhichList}
use Rattle.avp_lists.specs.declared.slots.End.{End}
use Rattle.avp_lists.specs.declared.slots.End.TheVariants.{Head, Tail}
use Rattle.avp_lists.specs.declared.slots.Slot.{Slot}
use Rattle.avp_lists.specs.internal.Shown.{shows, shows_at, shows_passing, shows_passing_at, same_end, entered_at, no_pair, slot_pair, shown_pairs_at, shown_pairs, ahead, ahead_at}
use Rattle.avp_lists.specs.internal.Slots.{no_slot, slot_at}
use Rattle.avp_lists.proofs.Edited.{any-shown, any_of_shown, and_first, and_second}
use Rattle.avp_lists.proofs.InOrder.{in_order, shown_of, any-reverse, any_filter, any-ends, in_order-middle, behind, shown_pairs-in_order}
use Rattle.avp_lists.proofs.ShownPairs.{shown-append}

-- a place among the pairs of both ends
get_left : (xs ys : List Pair) (i : ℕ) → i < length xs → slice_get (xs ++ ys) i ≡ slice_get xs i
get_left [] ys i h = absurd (omega (arith, h))
get_left (x ∷ xs) ys zero h = refl
get_left (x ∷ xs) ys (suc i) h = get_left xs ys i (omega (arith, h))

get_right : (xs ys : List Pair) (i n : ℕ) → n ≡ length xs + i → slice_get (xs ++ ys) n ≡ slice_get ys i
get_right [] ys i n e = let same : n ≡ i = omega (arith, e) in ap (slice_get ys) same
get_right (x ∷ xs) ys i zero e = absurd (omega (arith, e))
get_right (x ∷ xs) ys i (suc n) e = get_right xs ys i n (omega (arith, e))

pub get_at_head : (which : WhichList) (pool : List Pair) (c : List Slot) (heads at : ℕ) → heads ≡ length (filter (shows_at Head which) c) → at < heads → slice_get (shown_pairs which pool c) at ≡ slice_get (shown_pairs_at Head which pool c) (heads - 1 - at)
get_at_head which pool c heads at count lt =
    let xs = shown_pairs_at Head which pool c in
    let long : length xs ≡ heads = length-map (filter (shows_at Head which) c) (slot_pair pool) ∙ sym count in
    let same = length-reverse xs in
    let inside : at < length (reverse xs) = omega (arith, same, long, lt) in
    let below : at < length xs = omega (arith, long, lt) in
    let back : heads - 1 - at < length xs = omega (arith, long, lt) in
    get_left (reverse xs) (shown_pairs_at Tail which pool c) at inside
    ∙ slice_get-get_or (reverse xs) at no_pair inside
    ∙ ap (λ (p : Pair). Some p) (get_or-reverse xs at no_pair below)
    ∙ ap (λ (n : ℕ). Some (get_or xs (n - 1 - at) no_pair)) long
    ∙ sym (slice_get-get_or xs (heads - 1 - at) no_pair back)

pub get_at_tail : (which : WhichList) (pool : List Pair) (c : List Slot) (heads at : ℕ) → heads ≡ length (filter (shows_at Head which) c) → heads ≤ at → slice_get (shown_pairs which pool c) at ≡ slice_get (shown_pairs_at Tail which pool c) (at - heads)
get_at_tail which pool c heads at count ge =
    let xs = shown_pairs_at Head which pool c in
    let long : length (reverse xs) ≡ heads = length-reverse xs ∙ length-map (filter (shows_at Head which) c) (slot_pair pool) ∙ sym count in
    get_right (reverse xs) (shown_pairs_at Tail which pool c) (at - heads) at (omega (arith, long, ge))

-- the first that passes a test
find_none : (p : Pair → Bool) (xs : List Pair) → list_any p xs ≡ false → find p xs ≡ None
find_none p [] none = refl
find_none p (x ∷ xs) none =
    elim (p x) as (λ b. (b || list_any p xs) ≡ false → cond b (Some x) (find p xs) ≡ None) [
      | true ↦ λ h. cc
      | false ↦ λ h. find_none p xs h
    ] none

find_after : (p : Pair → Bool) (before after : List Pair) (x : Pair) → list_any p before ≡ false → p x ≡ true → find p (before ++ x ∷ after) ≡ Some x
find_after p [] after x none h = rw h refl
find_after p (b ∷ bs) after x none h =
    elim (p b) as (λ t. (t || list_any p bs) ≡ false → cond t (Some b) (find p (bs ++ x ∷ after)) ≡ Some x) [
      | true ↦ λ e. cc
      | false ↦ λ e. find_after p bs after x e h
    ] none

-- the first slot that shows one that passes shows the first that passes
pub found-first : (which : WhichList) (test : Pair → Bool) (pool : List Pair) (c : List Slot) (at : ℕ) → at < length c → shows_passing which test pool (slot_at c at) ≡ true → list_any (shows_passing which test pool) (ahead_at at c) ≡ false → find test (shown_pairs which pool c) ≡ Some (slot_pair pool (slot_at c at))
found-first which test pool c at within shown none =
    let before = take at c in
    let s = slot_at c at in
    let after = drop (at + 1) c in
    let first = ahead s.end before after in
    let last = behind s.end before after in
    let whole : c ≡ before ++ s ∷ after = sym (take-append-drop at c) ∙ ap (λ (xs : List Slot). before ++ xs) (drop_more c at no_slot within) in
    let order : in_order c ≡ first ++ s ∷ last = ap in_order whole ∙ in_order-middle before after s in
    let here : shows which s ≡ true = and_first (shows which s) (test (slot_pair pool s)) shown in
    let parts : shown_pairs which pool c ≡ shown_of which pool first ++ slot_pair pool s ∷ shown_of which pool last =
    shown_pairs-in_order which pool c
    ∙ ap (shown_of which pool) order
    ∙ shown-append which pool first (s ∷ last)
    ∙ ap (λ (b : Bool). shown_of which pool first ++ map (slot_pair pool) (cond b (s ∷ filter (shows which) last) (filter (shows which) last))) here in
    ap (find test) parts
    ∙ find_after test (shown_of which pool first) (shown_of which pool last) (slot_pair pool s) (sym (any_of_shown which test pool first) ∙ none) (and_second (shows which s) (test (slot_pair pool s)) shown)

pub found-none : (which : WhichList) (test : Pair → Bool) (pool : List Pair) (c : List Slot) → list_any (shows_passing which test pool) c ≡ false → find test (shown_pairs which pool c) ≡ None
found-none which test pool c none = find_none test (shown_pairs which pool c) (sym (any-shown which test pool c) ∙ none)

-- the last one at the head, or else the first one at the tail, is the first
pub end_is : (a b : End) → same_end a b ≡ true → b ≡ a
end_is Head Head h = refl
end_is Tail Tail h = refl
end_is Head Tail h = cc
end_is Tail Head h = cc

or_none : (a b : Bool) → a ≡ false → b ≡ false → (a || b) ≡ false
or_none a b ha hb = rw (ha, hb) refl

or_left : (a b : Bool) → (a || b) ≡ false → a ≡ false
or_left false b h = refl
or_left true b h = cc

or_right : (a b : Bool) → (a || b) ≡ false → b ≡ false
or_right false b h = h
or_right true b h = cc

pub first-head : (which : WhichList) (test : Pair → Bool) (pool : List Pair) (c : List Slot) (at : ℕ) → shows_passing_at Head which test pool (slot_at c at) ≡ true → list_any (shows_passing_at Head which test pool) (drop (at + 1) c) ≡ false → (shows_passing which test pool (slot_at c at) ≡ true) × (list_any (shows_passing which test pool) (ahead_at at c) ≡ false)
first-head which test pool c at shown none =
    let s = slot_at c at in
    let f = shows_passing which test pool in
    let before = take at c in
    let after = drop (at + 1) c in
    let end : s.end ≡ Head = end_is Head s.end (and_first (entered_at Head s) (f s) shown) in
    (and_second (entered_at Head s) (f s) shown, ap (λ (e : End). list_any f (ahead e before after)) end ∙ any-reverse f (filter (entered_at Head) after) ∙ any_filter f (entered_at Head) after ∙ none)

pub first-tail : (which : WhichList) (test : Pair → Bool) (pool : List Pair) (c : List Slot) (at : ℕ) → at < length c → shows_passing_at Tail which test pool (slot_at c at) ≡ true → list_any (shows_passing_at Tail which test pool) (take at c) ≡ false → list_any (shows_passing_at Head which test pool) c ≡ false → (shows_passing which test pool (slot_at c at) ≡ true) × (list_any (shows_passing which test pool) (ahead_at at c) ≡ false)
first-tail which test pool c at within shown none heads =
    let s = slot_at c at in
    let f = shows_passing which test pool in
    let h = shows_passing_at Head which test pool in
    let before = take at c in
    let after = drop (at + 1) c in
    let end : s.end ≡ Tail = end_is Tail s.end (and_first (entered_at Tail s) (f s) shown) in
    let whole : before ++ s ∷ after ≡ c = ap (λ (xs : List Slot). before ++ xs) (sym (drop_more c at no_slot within)) ∙ take-append-drop at c in
    let all : (list_any h before || (h s || list_any h after)) ≡ false = sym (list_any-append h before (s ∷ after)) ∙ ap (list_any h) whole ∙ heads in
    let left : list_any h before ≡ false = or_left (list_any h before) (h s || list_any h after) all in
    let right : list_any h after ≡ false = or_right (h s) (list_any h after) (or_right (list_any h before) (h s || list_any h after) all) in
    let none_head : list_any f (reverse (filter (entered_at Head) (before ++ after))) ≡ false =
    any-reverse f (filter (entered_at Head) (before ++ after))
    ∙ any_filter f (entered_at Head) (before ++ after)
    ∙ list_any-append h before after
    ∙ or_none (list_any h before) (list_any h after) left right in
    let none_tail : list_any f (filter (entered_at Tail) before) ≡ false = any_filter f (entered_at Tail) before ∙ none in (
      and_second (entered_at Tail s) (f s) shown,
      ap (λ (e : End). list_any f (ahead e before after)) end
          ∙ list_any-append f (reverse (filter (entered_at Head) (before ++ after))) (filter (entered_at Tail) before)
          ∙ or_none (list_any f (reverse (filter (entered_at Head) (before ++ after)))) (list_any f (filter (entered_at Tail) before)) none_head none_tail,
    )

pub none-at_all : (which : WhichList) (test : Pair → Bool) (pool : List Pair) (c : List Slot) → list_any (shows_passing_at Head which test pool) c ≡ false → list_any (shows_passing_at Tail which test pool) c ≡ false → list_any (shows_passing which test pool) c ≡ false
none-at_all which test pool c heads tails =
    let f = shows_passing which test pool in
    sym (any-ends f c)
    ∙ or_none (list_any f (filter (entered_at Head) c)) (list_any f (filter (entered_at Tail) c)) (any_filter f (entered_at Head) c ∙ heads) (any_filter f (entered_at Tail) c ∙ tails)
