-- What the turning of marks makes of a list.
use Rattle.std.proofs.Common.{◌≡◌, ℕ, ◌+◌, Bool, true, false, not, ◌&&◌, cond, List, [], ◌∷◌, ◌++◌, length, set, map, refl, sym, ap, ◌∙◌}
use Rattle.std.specs.List.{filter}
use Rattle.std.proofs.lemmas.List.{append_assoc, get_or_at, set_at, length_push}
use Rattle.avp_lists.specs.declared.pairs.Pair.{Pair}
use Rattle.avp_lists.specs.declared.lists.List.{List as WhichList}
use Rattle.avp_lists.specs.declared.slots.Slot.{Slot}
use Rattle.avp_lists.specs.internal.Slots.{no_slot, flipped, turn, turn_all}
use Rattle.avp_lists.specs.internal.Shown.{same_list, shows, slot_pair, shown_pairs}
use Rattle.avp_lists.specs.internal.Plans.{places_in}
use Rattle.avp_lists.proofs.InOrder.{in_order, shown_of, in_order-map, shown_pairs-in_order}

abbrev pub turned_if : (Slot → Bool) → Slot → Slot
turned_if p s = cond (p s) (flipped s) s

pub turn_at : (before after : List Slot) (s : Slot) → turn (before ++ s ∷ after) (length before) ≡ (before ++ flipped s ∷ []) ++ after
turn_at before after s =
    ap (λ (x : Slot). set (before ++ s ∷ after) (length before) (flipped x)) (get_or_at before s after no_slot (length before) refl)
    ∙ set_at before s after (flipped s) (length before) refl
    ∙ sym (append_assoc before (flipped s ∷ []) after)

-- those that pass are turned, each once
pub turned_where : (p : Slot → Bool) (before c : List Slot) → turn_all (places_in p (length before) c) (before ++ c) ≡ before ++ map (turned_if p) c
turned_where p before [] = refl
turned_where p before (s ∷ ss) =
    let step : (x : Slot) → turn_all (places_in p (length before + 1) ss) ((before ++ x ∷ []) ++ ss) ≡ before ++ x ∷ map (turned_if p) ss =
    λ x.
    ap (λ (n : ℕ). turn_all (places_in p n ss) ((before ++ x ∷ []) ++ ss)) (sym (length_push before x))
    ∙ turned_where p (before ++ x ∷ []) ss
    ∙ append_assoc before (x ∷ []) (map (turned_if p) ss) in
    elim (p s) as (λ b. turn_all (cond b (length before ∷ places_in p (length before + 1) ss) (places_in p (length before + 1) ss)) (before ++ s ∷ ss) ≡ before ++ cond b (flipped s) s ∷ map (turned_if p) ss) [
      | true ↦ ap (turn_all (places_in p (length before + 1) ss)) (turn_at before ss s) ∙ step (flipped s)
      | false ↦ ap (turn_all (places_in p (length before + 1) ss)) (sym (append_assoc before (s ∷ []) ss)) ∙ step s
    ]

and_true : (b x : Bool) → (b && x) ≡ true → (not b && x) ≡ false
and_true true x h = refl
and_true false x h = cc

cases_of : (which : WhichList) (pool : List Pair) (q : Pair → Bool) (s : Slot) (ss more : List Slot) → shown_of which pool more ≡ filter (λ x. not (q x)) (shown_of which pool ss) → (shows which s ≡ true → shows which (flipped s) ≡ false) → (b r : Bool) → shows which s ≡ b → q (slot_pair pool s) ≡ r → shown_of which pool (cond (b && r) (flipped s) s ∷ more) ≡ filter (λ y. not (q y)) (map (slot_pair pool) (cond b (s ∷ filter (shows which) ss) (filter (shows which) ss)))
cases_of which pool q s ss more rest hidden true true e h = rw (hidden e, h) rest
cases_of which pool q s ss more rest hidden true false e h = rw (e, h) (ap (λ (xs : List Pair). slot_pair pool s ∷ xs) rest)
cases_of which pool q s ss more rest hidden false r e h = rw e rest

pub shown_taken : (which : WhichList) (pool : List Pair) (q : Pair → Bool) (c : List Slot) → shown_of which pool (map (turned_if (λ s. shows which s && q (slot_pair pool s))) c) ≡ filter (λ x. not (q x)) (shown_of which pool c)
shown_taken which pool q [] = refl
shown_taken which pool q (s ∷ ss) =
    let p : Slot → Bool = λ t. shows which t && q (slot_pair pool t) in
    let rest = shown_taken which pool q ss in
    let x = slot_pair pool s in
    let hidden : shows which s ≡ true → shows which (flipped s) ≡ false = and_true s.mark.live (same_list which s.list) in
    cases_of which pool q s ss (map (turned_if p) ss) rest hidden (shows which s) (q x) refl refl

pub end-turned : (p : Slot → Bool) (s : Slot) → (turned_if p s).end ≡ s.end
end-turned p s = elim (p s) as (λ b. (cond b (flipped s) s).end ≡ s.end) [ true ↦ refl | false ↦ refl ]

-- the pairs that pass are taken away, and the others stay in order
pub taken_away : (which : WhichList) (pool : List Pair) (q : Pair → Bool) (c : List Slot) → shown_pairs which pool (map (turned_if (λ s. shows which s && q (slot_pair pool s))) c) ≡ filter (λ x. not (q x)) (shown_pairs which pool c)
taken_away which pool q c =
    let f = turned_if (λ s. shows which s && q (slot_pair pool s)) in
    shown_pairs-in_order which pool (map f c)
    ∙ ap (shown_of which pool) (in_order-map f (end-turned (λ s. shows which s && q (slot_pair pool s))) c)
    ∙ shown_taken which pool q (in_order c)
    ∙ sym (ap (filter (λ x. not (q x))) (shown_pairs-in_order which pool c))
