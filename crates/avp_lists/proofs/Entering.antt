-- A pair that enters a list: at an end, or in the place of the first instance.
use Rattle.std.proofs.Common.{◌≡◌, ℕ, zero, suc, ◌+◌, ◌<◌, ◌≤◌, Bool, true, false, not, ◌&&◌, ◌||◌, cond, List, [], ◌∷◌, ◌++◌, Some, length, get_or, set, map, take, drop, refl, sym, ap, ap₂, ◌∙◌, subst, arith, append-nil}
use Rattle.std.specs.List.{filter, list_any, before_first, after_first, position_or_len}
use Rattle.std.proofs.lemmas.List.{append_assoc, get_or_at, get_or_push, set_at, length-map, length_push, take_at, drop_at}
use Rattle.avp_lists.specs.declared.pairs.Pair.{Pair}
use Rattle.avp_lists.specs.declared.edits.Edit.{Edit}
use Rattle.avp_lists.specs.declared.edits.Op.{Op}
use Rattle.avp_lists.specs.declared.edits.Op.TheVariants.{Replace}
use Rattle.avp_lists.specs.declared.lists.List.{List as WhichList}
use Rattle.avp_lists.specs.declared.slots.End.{End}
use Rattle.avp_lists.specs.declared.slots.Slot.{Slot}
use Rattle.avp_lists.specs.declared.slots.Swap.{Swap}
use Rattle.avp_lists.specs.internal.Growth.{adds_one}
use Rattle.avp_lists.specs.Selections.{replace_selected, apply_selected, edited_selected, is_unselected}
use Rattle.avp_lists.specs.internal.Plans.{end_for, is_removed, is_taken, places_in}
use Rattle.avp_lists.specs.internal.Shown.{same_list, shows, shows_passing, no_pair, slot_pair, shown_pairs, ahead, shown_state}
use Rattle.avp_lists.specs.internal.Slots.{no_slot, flipped, turn, turn_all, swap_at, forward, other_pair, with_other, PairsWithin}
use Rattle.avp_lists.specs.declared.tags.Selection.{Selection}
use Rattle.avp_lists.specs.Tags.{is_selected}
use Rattle.avp_lists.proofs.Editing.{turned_if, turned_where, end-turned, shown_taken, turn_at}
use Rattle.avp_lists.proofs.Edited.{state_edited, same_itself, hidden_elsewhere, and_first, and_second, shown_stay, places_in-within, taken-within, any_of_shown, added-applied, agree-more, within-more, within-append, within-one}
use Rattle.avp_lists.proofs.Growing.{turn_all-grown}
use Rattle.avp_lists.proofs.InOrder.{in_order, shown_of, in_order-middle, behind, ahead-map, behind-map, all-in_order, shown_pairs-in_order}
use Rattle.avp_lists.proofs.ShownPairs.{shown-append, shown-agree, beside, beside_none, shown_pairs-more, shown_pairs-agree}

-- the pair is in the pool of one more
there : (pool : List Pair) (p : Pair) → get_or (pool ++ p ∷ []) (length pool) no_pair ≡ p
there pool p = get_or_push pool p no_pair (length pool) refl

-- what one slot shows
one_shown : (which : WhichList) (pool : List Pair) (s : Slot) → shows which s ≡ true → shown_of which pool (s ∷ []) ≡ slot_pair pool s ∷ []
one_shown which pool s h = rw h refl

one_hidden : (which : WhichList) (pool : List Pair) (s : Slot) → shows which s ≡ false → shown_of which pool (s ∷ []) ≡ []
one_hidden which pool s h = rw h refl

-- at an end: the slot is the last one, shows the pair, its list is the edit's, and its end is that of the operator
module _ (selection : Selection) (e : Edit) (pool : List Pair) (c : List Slot) (s : Slot) (pooled : PairsWithin (length pool) c) (adds : adds_one e.op (is_selected selection e.pair.id) (shown_pairs e.list pool c) ≡ true) (of_list : s.list ≡ e.list) (at_end : s.end ≡ end_for e.op) (off : s.mark.live ≡ false) (pair : s.mark.pair ≡ length pool) where
  pub added-turned : turn_all (length c ∷ []) (c ++ s ∷ []) ≡ c ++ flipped s ∷ []
  added-turned = turn_at c [] s ∙ append-nil (c ++ flipped s ∷ [])

  last_shows : (which : WhichList) → shows which (flipped s) ≡ same_list which e.list
  last_shows which = ap (λ (b : Bool). not b && same_list which s.list) off ∙ ap (same_list which) of_list

  last_pair : slot_pair (pool ++ e.pair ∷ []) (flipped s) ≡ e.pair
  last_pair = ap (λ (n : ℕ). get_or (pool ++ e.pair ∷ []) n no_pair) pair ∙ there pool e.pair

  pub state-added : shown_state (pool ++ e.pair ∷ []) (c ++ flipped s ∷ []) ≡ edited_selected selection e (shown_state pool c)
  state-added =
      let other = pool ++ e.pair ∷ [] in
      let d = c ++ flipped s ∷ [] in
      let kept : (which : WhichList) → shown_pairs which other d ≡ beside (end_for e.op) (shown_of which other (flipped s ∷ [])) (shown_pairs which pool c) = λ which.
      shown_pairs-more which other c (flipped s)
      ∙ ap₂ (λ (end : End) (xs : List Pair). beside end (shown_of which other (flipped s ∷ [])) xs) at_end (shown_pairs-agree which other pool c (agree-more pool e.pair c pooled)) in
      state_edited selection e pool other c d
      (
      kept e.list
      ∙ ap (λ (xs : List Pair). beside (end_for e.op) xs (shown_pairs e.list pool c)) (one_shown e.list other (flipped s) (last_shows e.list ∙ same_itself e.list) ∙ ap (λ (x : Pair). x ∷ []) last_pair)
      ∙ sym (added-applied selection e.op e.pair (shown_pairs e.list pool c) adds)
      )
      (λ which ne.
      kept which
      ∙ ap (λ (xs : List Pair). beside (end_for e.op) xs (shown_pairs which pool c)) (one_hidden which other (flipped s) (last_shows which ∙ ne))
      ∙ beside_none (end_for e.op) (shown_pairs which pool c))

  pub added-within : PairsWithin (length (pool ++ e.pair ∷ [])) (c ++ flipped s ∷ [])
  added-within =
      let long = length_push pool e.pair in
      let n = length (pool ++ e.pair ∷ []) in
      within-append n c (flipped s ∷ []) (within-more (length pool) n c (omega (arith, long)) pooled) (within-one n (flipped s) (λ live. omega (arith, long, pair)))

-- the first that passes
first_at : (q : Pair → Bool) (before after : List Pair) (x : Pair) → list_any q before ≡ false → q x ≡ true → position_or_len q (before ++ x ∷ after) ≡ length before
first_at q [] after x none h = rw h refl
first_at q (b ∷ bs) after x none h =
    elim (q b) as (λ t. (t || list_any q bs) ≡ false → cond (not t) (1 + position_or_len q (bs ++ x ∷ after)) 0 ≡ length (b ∷ bs)) [
      | true ↦ λ e. cc
      | false ↦ λ e. omega (arith, first_at q bs after x e h)
    ] none

replace_at : (selection : Selection) (p : Pair) (before after : List Pair) (x : Pair) → list_any (is_selected selection p.id) before ≡ false → is_selected selection p.id x ≡ true → replace_selected selection p (before ++ x ∷ after) ≡ before ++ p ∷ filter (is_unselected selection p.id) after
replace_at selection p before after x none h =
    let q = is_selected selection p.id in
    let all = before ++ x ∷ after in
    let first = first_at q before after x none h in
    let left : before_first q all ≡ before = ap (λ (n : ℕ). take n all) first ∙ take_at before (x ∷ after) (length before) refl in
    let long : length (before ++ x ∷ []) ≡ length before + 1 = length_push before x in
    let right : after_first q all ≡ after = ap (λ (n : ℕ). drop (n + 1) all) first ∙ ap (drop (length before + 1)) (sym (append_assoc before (x ∷ []) after)) ∙ drop_at (before ++ x ∷ []) after (length before + 1) long in
    ap₂ (λ (a b : List Pair). a ++ p ∷ filter (is_unselected selection p.id) b) left right

within-left : (n : ℕ) (c d : List Slot) → PairsWithin n (c ++ d) → PairsWithin n c
within-left n [] d h i = λ live. cc
within-left n (s ∷ ss) d h zero = h 0
within-left n (s ∷ ss) d h (suc i) = within-left n ss d (λ j. h (suc j)) i

within-right : (n : ℕ) (c d : List Slot) → PairsWithin n (c ++ d) → PairsWithin n d
within-right n [] d h = h
within-right n (s ∷ ss) d h = within-right n ss d (λ j. h (suc j))

same_now : (n m : ℕ) → other_pair m n m ≡ n
same_now n m = grind arith

-- places of the slots before a place, and of those after it
turn_all-both : (a b : List ℕ) (c : List Slot) → turn_all (a ++ b) c ≡ turn_all b (turn_all a c)
turn_all-both [] b c = refl
turn_all-both (i ∷ is) b c = turn_all-both is b (turn c i)

turned_before : (p : Slot → Bool) (before rest : List Slot) → turn_all (places_in p 0 before) (before ++ rest) ≡ map (turned_if p) before ++ rest
turned_before p before rest =
    turn_all-grown (places_in p 0 before) before rest (λ i h. omega (arith, places_in-within p 0 before i h))
    ∙ ap (λ (xs : List Slot). xs ++ rest) (turned_where p [] before)

turned_after : (p : Slot → Bool) (before after : List Slot) (s : Slot) → turn_all (places_in p (length before + 1) after) (before ++ s ∷ after) ≡ before ++ s ∷ map (turned_if p) after
turned_after p before after s =
    ap (λ (n : ℕ). turn_all (places_in p n after) (before ++ s ∷ after)) (sym (length_push before s))
    ∙ ap (turn_all (places_in p (length (before ++ s ∷ [])) after)) (sym (append_assoc before (s ∷ []) after))
    ∙ turned_where p (before ++ s ∷ []) after
    ∙ append_assoc before (s ∷ []) (map (turned_if p) after)

none_filtered : (q : Pair → Bool) (xs : List Pair) → list_any q xs ≡ false → filter (λ x. not (q x)) xs ≡ xs
none_filtered q [] none = refl
none_filtered q (x ∷ xs) none =
    elim (q x) as (λ b. (b || list_any q xs) ≡ false → cond (not b) (x ∷ filter (λ y. not (q y)) xs) (filter (λ y. not (q y)) xs) ≡ x ∷ xs) [
      | true ↦ λ h. cc
      | false ↦ λ h. ap (λ (ys : List Pair). x ∷ ys) (none_filtered q xs h)
    ] none

-- in the place of the first instance
module _ (selection : Selection) (e : Edit) (pool : List Pair) (before after : List Slot) (s : Slot) (w : Swap) (op : e.op ≡ Replace) (pooled : PairsWithin (length pool) (before ++ s ∷ after)) (first : shows_passing e.list (is_selected selection e.pair.id) pool s ≡ true) (none : list_any (shows_passing e.list (is_selected selection e.pair.id) pool) (ahead s.end before after) ≡ false) (at : w.slot ≡ length before) (old : w.old ≡ s.mark.pair) (new : w.new ≡ length pool) where
  pub replaced-turned : forward (places_in (is_taken selection e pool) 0 before ++ places_in (is_taken selection e pool) (length before + 1) after) (Some w) (before ++ s ∷ after) ≡ (map (turned_if (is_taken selection e pool)) before ++ with_other w s ∷ []) ++ map (turned_if (is_taken selection e pool)) after
  replaced-turned =
      let p = is_taken selection e pool in
      let left = map (turned_if p) before in
      let rest = map (turned_if p) after in
      let long : length left ≡ length before = length-map before (turned_if p) in
      let here : length left ≡ w.slot = long ∙ sym at in
      let turned : turn_all (places_in p 0 before ++ places_in p (length before + 1) after) (before ++ s ∷ after) ≡ left ++ s ∷ rest =
      turn_all-both (places_in p 0 before) (places_in p (length before + 1) after) (before ++ s ∷ after)
      ∙ ap (turn_all (places_in p (length before + 1) after)) (turned_before p before (s ∷ after))
      ∙ ap (λ (n : ℕ). turn_all (places_in p (n + 1) after) (left ++ s ∷ after)) (sym long)
      ∙ turned_after p left after s in
      ap (swap_at (Some w)) turned
      ∙ ap (λ (x : Slot). set (left ++ s ∷ rest) w.slot (with_other w x)) (get_or_at left s rest no_slot w.slot here)
      ∙ set_at left s rest (with_other w s) w.slot here
      ∙ sym (append_assoc left (with_other w s ∷ []) rest)

  shown_here : shows e.list s ≡ true
  shown_here = and_first (shows e.list s) (is_selected selection e.pair.id (slot_pair pool s)) first

  new_pair : (with_other w s).mark.pair ≡ length pool
  new_pair = ap (λ (n : ℕ). other_pair n w.new s.mark.pair) old ∙ same_now w.new s.mark.pair ∙ new

  left_within : PairsWithin (length pool) (map (turned_if (is_taken selection e pool)) before)
  left_within = taken-within selection e pool (length pool) before (within-left (length pool) before (s ∷ after) pooled)

  rest_within : PairsWithin (length pool) (map (turned_if (is_taken selection e pool)) after)
  rest_within =
      let all : PairsWithin (length pool) (s ∷ after) = within-right (length pool) before (s ∷ after) pooled in
      taken-within selection e pool (length pool) after (λ i. all (suc i))

  pub replaced-within : PairsWithin (length (pool ++ e.pair ∷ [])) ((map (turned_if (is_taken selection e pool)) before ++ with_other w s ∷ []) ++ map (turned_if (is_taken selection e pool)) after)
  replaced-within =
      let n = length (pool ++ e.pair ∷ []) in
      let long = length_push pool e.pair in
      let le : length pool ≤ n = omega (arith, long) in
      let left = map (turned_if (is_taken selection e pool)) before in
      let rest = map (turned_if (is_taken selection e pool)) after in
      let one : PairsWithin n (with_other w s ∷ []) = within-one n (with_other w s) (λ live. omega (arith, new_pair, long)) in
      within-append n (left ++ with_other w s ∷ []) rest (within-append n left (with_other w s ∷ []) (within-more (length pool) n left le left_within) one) (within-more (length pool) n rest le rest_within)

  -- the same slots in order
  abbrev first_slots : List Slot
  first_slots = ahead s.end before after

  abbrev last_slots : List Slot
  last_slots = behind s.end before after

  was_in_order : in_order (before ++ s ∷ after) ≡ first_slots ++ s ∷ last_slots
  was_in_order = in_order-middle before after s

  is_in_order : in_order ((map (turned_if (is_taken selection e pool)) before ++ with_other w s ∷ []) ++ map (turned_if (is_taken selection e pool)) after) ≡ (map (turned_if (is_taken selection e pool)) first_slots ++ with_other w s ∷ []) ++ map (turned_if (is_taken selection e pool)) last_slots
  is_in_order =
      let g = turned_if (is_taken selection e pool) in
      let s' = with_other w s in
      ap in_order (append_assoc (map g before) (s' ∷ []) (map g after))
      ∙ in_order-middle (map g before) (map g after) s'
      ∙ ap₂ (λ (xs ys : List Slot). xs ++ s' ∷ ys) (ahead-map g (end-turned (is_taken selection e pool)) s.end before after) (behind-map g (end-turned (is_taken selection e pool)) s.end before after)
      ∙ sym (append_assoc (map g first_slots) (s' ∷ []) (map g last_slots))

  order_within : PairsWithin (length pool) (first_slots ++ s ∷ last_slots)
  order_within =
      let P : Slot → Type 0 = λ t. t.mark.live ≡ true → t.mark.pair < length pool in
      let Q : List Slot → Type 0 = λ c. PairsWithin (length pool) c in
      subst Q was_in_order (all-in_order P (before ++ s ∷ after) pooled)

  firsts_within : PairsWithin (length pool) (map (turned_if (is_taken selection e pool)) first_slots)
  firsts_within = taken-within selection e pool (length pool) first_slots (within-left (length pool) first_slots (s ∷ last_slots) order_within)

  lasts_within : PairsWithin (length pool) (map (turned_if (is_taken selection e pool)) last_slots)
  lasts_within =
      let all : PairsWithin (length pool) (s ∷ last_slots) = within-right (length pool) first_slots (s ∷ last_slots) order_within in
      taken-within selection e pool (length pool) last_slots (λ i. all (suc i))

  parts : (which : WhichList) → shown_pairs which (pool ++ e.pair ∷ []) ((map (turned_if (is_taken selection e pool)) before ++ with_other w s ∷ []) ++ map (turned_if (is_taken selection e pool)) after) ≡ (shown_of which pool (map (turned_if (is_taken selection e pool)) first_slots) ++ shown_of which (pool ++ e.pair ∷ []) (with_other w s ∷ [])) ++ shown_of which pool (map (turned_if (is_taken selection e pool)) last_slots)
  parts which =
      let g = turned_if (is_taken selection e pool) in
      let other = pool ++ e.pair ∷ [] in
      let s' = with_other w s in
      let left = map g first_slots in
      let rest = map g last_slots in
      shown_pairs-in_order which other ((map g before ++ s' ∷ []) ++ map g after)
      ∙ ap (shown_of which other) is_in_order
      ∙ shown-append which other (left ++ s' ∷ []) rest
      ∙ ap (λ (xs : List Pair). xs ++ shown_of which other rest) (shown-append which other left (s' ∷ []))
      ∙ ap₂ (λ (xs ys : List Pair). (xs ++ shown_of which other (s' ∷ [])) ++ ys) (shown-agree which other pool left (agree-more pool e.pair left firsts_within)) (shown-agree which other pool rest (agree-more pool e.pair rest lasts_within))

  pub state-replaced : shown_state (pool ++ e.pair ∷ []) ((map (turned_if (is_taken selection e pool)) before ++ with_other w s ∷ []) ++ map (turned_if (is_taken selection e pool)) after) ≡ edited_selected selection e (shown_state pool (before ++ s ∷ after))
  state-replaced =
      let g = turned_if (is_taken selection e pool) in
      let other = pool ++ e.pair ∷ [] in
      let s' = with_other w s in
      let d = (map g before ++ s' ∷ []) ++ map g after in
      let x = slot_pair pool s in
      let B = shown_of e.list pool first_slots in
      let A = shown_of e.list pool last_slots in
      let is_pair : slot_pair other s' ≡ e.pair = ap (λ (n : ℕ). get_or other n no_pair) new_pair ∙ there pool e.pair in
      let old_list : (which : WhichList) → shown_pairs which pool (before ++ s ∷ after) ≡ shown_of which pool first_slots ++ shown_of which pool (s ∷ last_slots) = λ which.
      shown_pairs-in_order which pool (before ++ s ∷ after) ∙ ap (shown_of which pool) was_in_order ∙ shown-append which pool first_slots (s ∷ last_slots) in
      let none_shown : list_any (is_selected selection e.pair.id) B ≡ false = sym (any_of_shown e.list (is_selected selection e.pair.id) pool first_slots) ∙ none in
      let kept : shown_of e.list pool (map g first_slots) ≡ B = shown_taken e.list pool (is_removed selection e.op e.pair) first_slots ∙ ap (λ (o : Op). filter (λ y. not (is_removed selection o e.pair y)) B) op ∙ none_filtered (is_selected selection e.pair.id) B none_shown in
      let gone : shown_of e.list pool (map g last_slots) ≡ filter (is_unselected selection e.pair.id) A = shown_taken e.list pool (is_removed selection e.op e.pair) last_slots ∙ ap (λ (o : Op). filter (λ y. not (is_removed selection o e.pair y)) A) op in
      let own : shown_pairs e.list other d ≡ apply_selected selection e.op e.pair (shown_pairs e.list pool (before ++ s ∷ after)) =
      parts e.list
      ∙ ap₂ (λ (xs ys : List Pair). (xs ++ shown_of e.list other (s' ∷ [])) ++ ys) kept gone
      ∙ ap (λ (xs : List Pair). (B ++ xs) ++ filter (is_unselected selection e.pair.id) A) (one_shown e.list other s' shown_here ∙ ap (λ (y : Pair). y ∷ []) is_pair)
      ∙ append_assoc B (e.pair ∷ []) (filter (is_unselected selection e.pair.id) A)
      ∙ sym (replace_at selection e.pair B A x none_shown (and_second (shows e.list s) (is_selected selection e.pair.id x) first))
      ∙ sym (ap (replace_selected selection e.pair) (old_list e.list ∙ ap (λ (xs : List Pair). B ++ xs) (rw shown_here refl)))
      ∙ sym (ap (λ (o : Op). apply_selected selection o e.pair (shown_pairs e.list pool (before ++ s ∷ after))) op) in
      state_edited selection e pool other (before ++ s ∷ after) d own (λ which ne.
      let hidden : shows which s ≡ false = hidden_elsewhere which e.list s.mark.live s ne shown_here in
      let stay : (c : List Slot) → shown_of which pool (map g c) ≡ shown_of which pool c = λ c. shown_stay which e.list pool (λ t. is_removed selection e.op e.pair (slot_pair pool t)) c ne in
      parts which
      ∙ ap₂ (λ (xs ys : List Pair). (xs ++ shown_of which other (s' ∷ [])) ++ ys) (stay first_slots) (stay last_slots)
      ∙ ap (λ (xs : List Pair). (shown_of which pool first_slots ++ xs) ++ shown_of which pool last_slots) (one_hidden which other s' hidden)
      ∙ ap (λ (xs : List Pair). xs ++ shown_of which pool last_slots) (append-nil (shown_of which pool first_slots))
      ∙ sym (old_list which ∙ ap (λ (xs : List Pair). shown_of which pool first_slots ++ xs) (rw hidden refl)))
