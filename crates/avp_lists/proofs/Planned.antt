-- Each operator's plan makes of the slots what the operator makes of the list.
use Rattle.std.proofs.Common.{◌≡◌, ℕ, zero, suc, ◌+◌, ◌<◌, ◌≤◌, Bool, true, false, not, ◌&&◌, cond, List, [], ◌∷◌, ◌++◌, Some, None, length, map, take, drop, refl, sym, ap, ap₂, ◌∙◌, subst, arith, append-nil}
use Rattle.std.specs.List.{filter, list_any}
use Rattle.std.specs.declared.vec.Vec.{Vec}
use Rattle.std.specs.declared.alloc.Global.{Global}
use Rattle.std.proofs.lemmas.List.{length-take-le, take-append-drop, drop_more, length_push}
use Rattle.avp_lists.specs.declared.pairs.Pair.{Pair}
use Rattle.avp_lists.specs.declared.edits.Edit.{Edit}
use Rattle.avp_lists.specs.declared.edits.Op.{Op}
use Rattle.avp_lists.specs.declared.edits.Op.TheVariants.{AddNew, Replace}
use Rattle.avp_lists.specs.declared.slots.End.{End}
use Rattle.avp_lists.specs.declared.slots.End.TheVariants.{Head, Tail}
use Rattle.avp_lists.specs.declared.slots.Slot.{Slot}
use Rattle.avp_lists.specs.declared.slots.Swap.{Swap}
use Rattle.avp_lists.specs.internal.Growth.{adds_one, removes}
use Rattle.avp_lists.specs.Selections.{apply_selected, edited_selected}
use Rattle.avp_lists.specs.internal.Plans.{end_for, is_removed, is_taken, is_taken_at, taken_at_end, taken_places, places_in, IsPlan}
use Rattle.avp_lists.specs.internal.Shown.{same_end, shows, shows_at, shows_passing, slot_pair, ahead_at, shown_pairs, shown_state}
use Rattle.avp_lists.specs.internal.Slots.{no_slot, slot_at, flipped, turn_all, swap_at, with_other, forward, PlacesWithin, PairsWithin}
use Rattle.avp_lists.specs.declared.tags.Selection.{Selection}
use Rattle.avp_lists.specs.Tags.{is_selected}
use Rattle.avp_lists.proofs.Editing.{turned_if, turned_where}
use Rattle.avp_lists.proofs.Edited.{state_edited, places_in-within, taken-within, state-removed}
use Rattle.avp_lists.proofs.PlacesInOrder.{places-passing}
use Rattle.avp_lists.proofs.TurnedPlaces.{either, odd, turn_all-odd, odd-append, odd-filter, odd-either, is_not, others-middle}
use Rattle.avp_lists.proofs.Entering.{added-turned, added-within, state-added, replaced-turned, replaced-within, state-replaced}

one_place : (n m : ℕ) → n < m → PlacesWithin m (n ∷ [])
one_place n m lt zero h = lt
one_place n m lt (suc i) h = absurd (omega (arith, h))

none_added : (s : Slot) → None ≡ Some s → ⊥
none_added s h = cc

-- the pair gets a slot of its own
pub plan-added : (selection : Selection) (e : Edit) (pool : List Pair) (c : List Slot) (s : Slot) (v : Vec ℕ Global) → PairsWithin (length pool) c → adds_one e.op (is_selected selection e.pair.id) (shown_pairs e.list pool c) ≡ true → s.list ≡ e.list → s.end ≡ end_for e.op → s.mark.live ≡ false → s.mark.pair ≡ length pool → s.initial ≡ s.mark → v.items ≡ length c ∷ [] → IsPlan selection e pool c (record { turned = v; swap = None; added = Some s })
plan-added selection e pool c s v fits adds of_list at_end off pair first N =
    let turned : turn_all v.items (c ++ s ∷ []) ≡ c ++ flipped s ∷ [] = ap (λ (ns : List ℕ). turn_all ns (c ++ s ∷ [])) N ∙ added-turned selection e pool c s fits adds of_list at_end off pair in
    let P : List Slot → Type 0 = λ d. PairsWithin (length (pool ++ e.pair ∷ [])) d in
    let Q : List ℕ → Type 0 = λ ns. PlacesWithin (length (c ++ s ∷ [])) ns in
    let R : Slot → Type 0 = λ t. (t.mark.live ≡ false) × (t.initial ≡ t.mark) in
    record {
      places = subst Q (sym N) (one_place (length c) (length (c ++ s ∷ [])) (omega (arith, length_push c s)));
      swap = omega arith;
      added = λ t is. let same : s ≡ t = cc in subst R same (off, first);
      within = subst P (sym turned) (added-within selection e pool c s fits adds of_list at_end off pair);
      state = ap (shown_state (pool ++ e.pair ∷ [])) turned ∙ state-added selection e pool c s fits adds of_list at_end off pair;
    }

-- what is turned without a swap and without a slot more
plain : (selection : Selection) (e : Edit) (pool : List Pair) (c d : List Slot) (v : Vec ℕ Global) → PlacesWithin (length c) v.items → turn_all v.items c ≡ d → PairsWithin (length pool) d → shown_state pool d ≡ edited_selected selection e (shown_state pool c) → IsPlan selection e pool c (record { turned = v; swap = None; added = None })
plain selection e pool c d v places turned within state =
    let same : turn_all v.items (c ++ []) ≡ d = ap (turn_all v.items) (append-nil c) ∙ turned in
    let P : List Slot → Type 0 = λ x. PairsWithin (length pool) x in
    let Q : List Slot → Type 0 = λ x. PlacesWithin (length x) v.items in
    record {
      places = subst Q (sym (append-nil c)) places;
      swap = omega arith;
      added = λ t is. absurd (none_added t is);
      within = subst P (sym same) within;
      state = ap (shown_state pool) same ∙ state;
    }

-- places of two parts
places_both : (n : ℕ) (a b : List ℕ) → PlacesWithin n a → PlacesWithin n b → PlacesWithin n (a ++ b)
places_both n [] b left right i h = right i h
places_both n (x ∷ xs) b left right zero h = left 0 (omega arith)
places_both n (x ∷ xs) b left right (suc i) h = places_both n xs b (λ j lt. left (suc j) (omega (arith, lt))) right i (omega (arith, h))

within-filter : (n : ℕ) (q : ℕ → Bool) (xs : List ℕ) → PlacesWithin n xs → PlacesWithin n (filter q xs)
within-filter n q [] h = h
within-filter n q (x ∷ xs) h =
    let rest = within-filter n q xs (λ i lt. h (suc i) (omega (arith, lt))) in
    elim (q x) as (λ b. PlacesWithin n (cond b (x ∷ filter q xs) (filter q xs))) [
      | true ↦ one_more n x (filter q xs) (h 0 (omega arith)) rest
      | false ↦ rest
    ]
  where
    one_more : (n x : ℕ) (xs : List ℕ) → x < n → PlacesWithin n xs → PlacesWithin n (x ∷ xs)
    one_more n x xs first rest zero lt = first
    one_more n x xs first rest (suc i) lt = rest i (omega (arith, lt))

-- what is taken away is turned, in the order of its places or in another
end-inside : (end : End) (selection : Selection) (e : Edit) (pool : List Pair) (c : List Slot) → PlacesWithin (length c) (taken_at_end end selection e pool c)
end-inside end selection e pool c = within-filter (length c) (is_taken_at selection e pool c) (places_in (shows_at end e.list) 0 c) (λ i h. omega (arith, places_in-within (shows_at end e.list) 0 c i h))

taken-inside : (selection : Selection) (e : Edit) (pool : List Pair) (c : List Slot) → PlacesWithin (length c) (taken_places selection e pool c)
taken-inside selection e pool c = places_both (length c) (taken_at_end Head selection e pool c) (taken_at_end Tail selection e pool c) (end-inside Head selection e pool c) (end-inside Tail selection e pool c)

either_end : (end : End) (l r : Bool) → either ((same_end Head end && l) && (l && r)) ((same_end Tail end && l) && (l && r)) ≡ (l && r)
either_end Head true true = refl
either_end Head true false = refl
either_end Head false r = refl
either_end Tail true r = refl
either_end Tail false r = refl

taken-odd : (selection : Selection) (e : Edit) (pool : List Pair) (c : List Slot) (i : ℕ) → odd i (taken_places selection e pool c) ≡ odd i (places_in (is_taken selection e pool) 0 c)
taken-odd selection e pool c i =
    let t = is_taken selection e pool in
    let p = shows_at Head e.list in
    let q = shows_at Tail e.list in
    odd-append i (taken_at_end Head selection e pool c) (taken_at_end Tail selection e pool c)
    ∙ ap₂ either (ap (odd i) (places-passing p t c)) (ap (odd i) (places-passing q t c))
    ∙ odd-either (λ s. p s && t s) (λ s. q s && t s) t (λ s. either_end s.end (shows e.list s) (is_removed selection e.op e.pair (slot_pair pool s))) i 0 c

-- but one
others-odd : (selection : Selection) (e : Edit) (pool : List Pair) (before after : List Slot) (s : Slot) (first : ℕ) → length before ≡ first → (i : ℕ) → odd i (filter (is_not first) (taken_places selection e pool (before ++ s ∷ after))) ≡ odd i (places_in (is_taken selection e pool) 0 before ++ places_in (is_taken selection e pool) (length before + 1) after)
others-odd selection e pool before after s first long i =
    let c = before ++ s ∷ after in
    let p = is_taken selection e pool in
    odd-filter (is_not first) i (taken_places selection e pool c)
    ∙ ap (λ (b : Bool). b && is_not first i) (taken-odd selection e pool c i)
    ∙ sym (odd-filter (is_not first) i (places_in p 0 c))
    ∙ ap (odd i) (others-middle p before after s first long)

-- pairs go
pub plan-removed : (selection : Selection) (e : Edit) (pool : List Pair) (c : List Slot) (v : Vec ℕ Global) → PairsWithin (length pool) c → removes e.op ≡ true → v.items ≡ taken_places selection e pool c → IsPlan selection e pool c (record { turned = v; swap = None; added = None })
plan-removed selection e pool c v fits rem N =
    let Q : List ℕ → Type 0 = λ ns. PlacesWithin (length c) ns in
    plain selection e pool c (map (turned_if (is_taken selection e pool)) c) v (subst Q (sym N) (taken-inside selection e pool c))
    (ap (λ (ns : List ℕ). turn_all ns c) N ∙ turn_all-odd (taken_places selection e pool c) (places_in (is_taken selection e pool) 0 c) c (taken-odd selection e pool c) ∙ turned_where (is_taken selection e pool) [] c)
    (taken-within selection e pool (length pool) c fits)
    (state-removed selection e pool c rem)

-- nothing changes
kept_applied : (selection : Selection) (op : Op) (p : Pair) (xs : List Pair) → op ≡ AddNew → adds_one op (is_selected selection p.id) xs ≡ false → apply_selected selection op p xs ≡ xs
kept_applied selection op p xs is none =
    let there : not (list_any (is_selected selection p.id) xs) ≡ false = sym (ap (λ (o : Op). adds_one o (is_selected selection p.id) xs) is) ∙ none in
    ap (λ (o : Op). apply_selected selection o p xs) is
    ∙ elim (list_any (is_selected selection p.id) xs) as (λ b. not b ≡ false → cond b xs (xs ++ p ∷ []) ≡ xs) [ true ↦ λ h. refl | false ↦ λ h. cc ] there

pub plan-kept : (selection : Selection) (e : Edit) (pool : List Pair) (c : List Slot) (v : Vec ℕ Global) → PairsWithin (length pool) c → e.op ≡ AddNew → adds_one e.op (is_selected selection e.pair.id) (shown_pairs e.list pool c) ≡ false → v.items ≡ [] → IsPlan selection e pool c (record { turned = v; swap = None; added = None })
plan-kept selection e pool c v fits op none N =
    let Q : List ℕ → Type 0 = λ ns. PlacesWithin (length c) ns in
    plain selection e pool c c v (subst Q (sym N) (λ i h. absurd (omega (arith, h)))) (ap (λ (ns : List ℕ). turn_all ns c) N) fits
    (state_edited selection e pool pool c c (sym (kept_applied selection e.op e.pair (shown_pairs e.list pool c) op none)) (λ which ne. refl))

-- the pair takes the place of another
pub plan-replaced : (selection : Selection) (e : Edit) (pool : List Pair) (c : List Slot) (first : ℕ) (w : Swap) (v : Vec ℕ Global) → PairsWithin (length pool) c → e.op ≡ Replace → first < length c → shows_passing e.list (is_selected selection e.pair.id) pool (slot_at c first) ≡ true → list_any (shows_passing e.list (is_selected selection e.pair.id) pool) (ahead_at first c) ≡ false → w.slot ≡ first → w.old ≡ (slot_at c first).mark.pair → w.new ≡ length pool → v.items ≡ filter (is_not first) (taken_places selection e pool c) → IsPlan selection e pool c (record { turned = v; swap = Some w; added = None })
plan-replaced selection e pool c first w v fits op within shown none at old new N =
    let before = take first c in
    let s = slot_at c first in
    let after = drop (first + 1) c in
    let other = pool ++ e.pair ∷ [] in
    let p = is_taken selection e pool in
    let le : first ≤ length c = omega (arith, within) in
    let long : length before ≡ first = length-take-le first c le in
    let whole : c ≡ before ++ s ∷ after = sym (take-append-drop first c) ∙ ap (λ (xs : List Slot). before ++ xs) (drop_more c first no_slot within) in
    let P : List Slot → Type 0 = λ x. PairsWithin (length pool) x in
    let parts_fit : PairsWithin (length pool) (before ++ s ∷ after) = subst P whole fits in
    let here : w.slot ≡ length before = at ∙ sym long in
    let d = (map (turned_if p) before ++ with_other w s ∷ []) ++ map (turned_if p) after in
    let two = places_in p 0 before ++ places_in p (length before + 1) after in
    let same : (i : ℕ) → odd i v.items ≡ odd i two = λ i.
    ap (odd i) N
    ∙ ap (λ (xs : List Slot). odd i (filter (is_not first) (taken_places selection e pool xs))) whole
    ∙ others-odd selection e pool before after s first long i in
    let turned : forward v.items (Some w) (c ++ []) ≡ d =
    ap (forward v.items (Some w)) (append-nil c ∙ whole)
    ∙ ap (swap_at (Some w)) (turn_all-odd v.items two (before ++ s ∷ after) same)
    ∙ replaced-turned selection e pool before after s w op parts_fit shown none here old new in
    let A : List Slot → Type 0 = λ x. PairsWithin (length other) x in
    let Q : List ℕ → Type 0 = λ ns. PlacesWithin (length (c ++ [])) ns in
    let end : length (c ++ []) ≡ length c = ap length (append-nil c) in
    let all : PlacesWithin (length (c ++ [])) (filter (is_not first) (taken_places selection e pool c)) = λ i h.
    omega (arith, within-filter (length c) (is_not first) (taken_places selection e pool c) (taken-inside selection e pool c) i h, end) in
    record {
      places = subst Q (sym N) all;
      swap = omega (arith, at, end, within);
      added = λ t is. absurd (none_added t is);
      within = subst A (sym turned) (replaced-within selection e pool before after s w op parts_fit shown none here old new);
      state = ap (shown_state other) turned ∙ state-replaced selection e pool before after s w op parts_fit shown none here old new ∙ ap (λ (x : List Slot). edited_selected selection e (shown_state pool x)) (sym whole);
    }
