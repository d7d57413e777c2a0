-- What a plan makes of the lists.
use Rattle.std.proofs.Common.{◌≡◌, ℕ, zero, suc, ◌+◌, ◌<◌, ◌≤◌, Bool, true, false, not, ◌&&◌, ◌||◌, cond, List, [], ◌∷◌, ◌++◌, length, get_or, map, refl, sym, ap, ap₂, ◌∙◌, subst, inl, inr, arith}
use Rattle.std.specs.List.{filter, list_any, position_or_len}
use Rattle.std.proofs.lemmas.Bool.{cases_lt}
use Rattle.std.proofs.lemmas.List.{get_or_past, get_or_append_left, get_or-map, length-map, take_all, drop_all}
use Rattle.avp_lists.specs.declared.pairs.Pair.{Pair}
use Rattle.avp_lists.specs.declared.edits.Edit.{Edit}
use Rattle.avp_lists.specs.declared.edits.Op.{Op}
use Rattle.avp_lists.specs.declared.edits.Op.TheVariants.{AddNew, Replace, Append, Prepend, RemoveEqual, KeepEqual, RemoveAll}
use Rattle.avp_lists.specs.declared.lists.List.{List as WhichList}
use Rattle.avp_lists.specs.declared.lists.List.TheVariants.{Request, Reply, Control}
use Rattle.avp_lists.specs.declared.slots.Slot.{Slot}
use Rattle.avp_lists.specs.internal.Growth.{adds_one, removes}
use Rattle.avp_lists.specs.Selections.{agrees_selected, replace_selected, apply_selected, edited_list_selected, edited_selected, is_unselected}
use Rattle.avp_lists.specs.internal.Plans.{end_for, is_removed, is_taken, places_in}
use Rattle.avp_lists.specs.internal.Shown.{same_list, shows, shows_passing, no_pair, slot_pair, shown_pairs, shown_state}
use Rattle.avp_lists.specs.internal.Slots.{no_slot, slot_at, flipped, PairsWithin}
use Rattle.avp_lists.specs.States.{with_list}
use Rattle.avp_lists.specs.declared.tags.Selection.{Selection}
use Rattle.avp_lists.specs.Tags.{is_selected, is_same}
use Rattle.avp_lists.proofs.Editing.{turned_if, end-turned, taken_away}
use Rattle.avp_lists.proofs.InOrder.{in_order, shown_of, in_order-map, any-in_order, shown_pairs-in_order}
use Rattle.avp_lists.proofs.Lengths.{none_first}
use Rattle.avp_lists.proofs.ShownPairs.{list_of-shown_state, beside}

-- an edit's list, and the other two
by_list : (w : WhichList) (L : List Pair) (pool other : List Pair) (c d : List Slot) → shown_pairs w other d ≡ L → ((which : WhichList) → same_list which w ≡ false → shown_pairs which other d ≡ shown_pairs which pool c) → shown_state other d ≡ with_list w L (shown_state pool c)
by_list Request L pool other c d own others = rw (own, others Reply refl, others Control refl) refl
by_list Reply L pool other c d own others = rw (own, others Request refl, others Control refl) refl
by_list Control L pool other c d own others = rw (own, others Request refl, others Reply refl) refl

pub state_edited : (selection : Selection) (e : Edit) (pool other : List Pair) (c d : List Slot) → shown_pairs e.list other d ≡ apply_selected selection e.op e.pair (shown_pairs e.list pool c) → ((which : WhichList) → same_list which e.list ≡ false → shown_pairs which other d ≡ shown_pairs which pool c) → shown_state other d ≡ edited_selected selection e (shown_state pool c)
state_edited selection e pool other c d own others =
    by_list e.list (edited_list_selected selection e (shown_state pool c)) pool other c d (own ∙ ap (apply_selected selection e.op e.pair) (sym (list_of-shown_state e.list pool c))) others

pub same_itself : (which : WhichList) → same_list which which ≡ true
same_itself Request = refl
same_itself Reply = refl
same_itself Control = refl

-- a list and another
pub other_list : (which w x : WhichList) → same_list which w ≡ false → same_list w x ≡ true → same_list which x ≡ false
other_list Request Reply Reply h t = refl
other_list Request Control Control h t = refl
other_list Reply Request Request h t = refl
other_list Reply Control Control h t = refl
other_list Control Request Request h t = refl
other_list Control Reply Reply h t = refl
other_list _ _ _ h t = cc

pub and_false : (b x : Bool) → x ≡ false → (b && x) ≡ false
and_false true x h = h
and_false false x h = refl

pub and_first : (b x : Bool) → (b && x) ≡ true → b ≡ true
and_first true x h = refl
and_first false x h = cc

pub and_second : (b x : Bool) → (b && x) ≡ true → x ≡ true
and_second true x h = h
and_second false x h = cc

-- a slot of another list shows nothing here, whatever its mark
pub hidden_elsewhere : (which w : WhichList) (b : Bool) (s : Slot) → same_list which w ≡ false → shows w s ≡ true → (b && same_list which s.list) ≡ false
hidden_elsewhere which w b s ne shown = and_false b (same_list which s.list) (other_list which w s.list ne (and_second s.mark.live (same_list w s.list) shown))

-- turned slots of one list leave the others
pub shown_stay : (which w : WhichList) (pool : List Pair) (q : Slot → Bool) (c : List Slot) → same_list which w ≡ false → shown_of which pool (map (turned_if (λ s. shows w s && q s)) c) ≡ shown_of which pool c
shown_stay which w pool q [] ne = refl
shown_stay which w pool q (s ∷ ss) ne =
    let p : Slot → Bool = λ t. shows w t && q t in
    let rest = shown_stay which w pool q ss ne in
    let turned = map (turned_if p) ss in
    let skip : (t : Slot) → shows which t ≡ false → shown_of which pool (t ∷ turned) ≡ shown_of which pool turned = λ t h. rw h refl in
    let same : shows which s ≡ false → shown_of which pool (s ∷ ss) ≡ shown_of which pool ss = λ h. rw h refl in
    elim (p s) as (λ b. p s ≡ b → shown_of which pool (cond b (flipped s) s ∷ turned) ≡ shown_of which pool (s ∷ ss)) [
      | true ↦ λ h.
          let shown = and_first (shows w s) (q s) h in
          skip (flipped s) (hidden_elsewhere which w (not s.mark.live) s ne shown) ∙ rest ∙ sym (same (hidden_elsewhere which w s.mark.live s ne shown))
      | false ↦ λ h. elim (shows which s) as (λ b. map (slot_pair pool) (cond b (s ∷ filter (shows which) turned) (filter (shows which) turned)) ≡ map (slot_pair pool) (cond b (s ∷ filter (shows which) ss) (filter (shows which) ss))) [
        | true ↦ ap (λ (xs : List Pair). slot_pair pool s ∷ xs) rest
        | false ↦ rest
      ]
    ] refl

pub others_stay : (which w : WhichList) (pool : List Pair) (q : Slot → Bool) (c : List Slot) → same_list which w ≡ false → shown_pairs which pool (map (turned_if (λ s. shows w s && q s)) c) ≡ shown_pairs which pool c
others_stay which w pool q c ne =
    let f = turned_if (λ s. shows w s && q s) in
    shown_pairs-in_order which pool (map f c)
    ∙ ap (shown_of which pool) (in_order-map f (end-turned (λ s. shows w s && q s)) c)
    ∙ shown_stay which w pool q (in_order c) ne
    ∙ sym (shown_pairs-in_order which pool c)

-- what is turned off shows no pair
turned-within : (n : ℕ) (p : Slot → Bool) (c : List Slot) → ((s : Slot) → p s ≡ true → s.mark.live ≡ true) → PairsWithin n c → PairsWithin n (map (turned_if p) c)
turned-within n p c off pooled i =
    let P : Slot → Type 0 = λ s. s.mark.live ≡ true → s.mark.pair < n in
    elim (cases_lt i (length c)) [
      | inl inside ↦
          let s = slot_at c i in
          subst P (sym (get_or-map (turned_if p) c i no_slot no_slot inside)) (elim (p s) as (λ b. p s ≡ b → (cond b (flipped s) s).mark.live ≡ true → (cond b (flipped s) s).mark.pair < n) [
            | true ↦ λ h live. let on = off s h in let dark : false ≡ true = sym (ap not on) ∙ live in cc
            | false ↦ λ h live. pooled i live
          ] refl)
      | inr past ↦
          let far : length (map (turned_if p) c) ≤ i = omega (arith, length-map c (turned_if p)) in
          subst P (sym (get_or_past (map (turned_if p) c) i no_slot far)) (λ live. cc)
    ]

pub taken-within : (selection : Selection) (e : Edit) (pool : List Pair) (n : ℕ) (c : List Slot) → PairsWithin n c → PairsWithin n (map (turned_if (is_taken selection e pool)) c)
taken-within selection e pool n c pooled = turned-within n (is_taken selection e pool) c (λ s h. and_first s.mark.live (same_list e.list s.list) (and_first (shows e.list s) (is_removed selection e.op e.pair (slot_pair pool s)) h)) pooled

pub places_in-within : (p : Slot → Bool) (n : ℕ) (c : List Slot) (i : ℕ) → i < length (places_in p n c) → get_or (places_in p n c) i 0 < n + length c
places_in-within p n [] i h = absurd (omega (arith, h))
places_in-within p n (s ∷ ss) i h =
    let rest = places_in-within p (n + 1) ss in
    elim (p s) as (λ b. i < length (cond b (n ∷ places_in p (n + 1) ss) (places_in p (n + 1) ss)) → get_or (cond b (n ∷ places_in p (n + 1) ss) (places_in p (n + 1) ss)) i 0 < n + length (s ∷ ss)) [
      | true ↦ λ lt. first_or_rest p n s ss rest i lt
      | false ↦ λ lt. omega (arith, rest i lt)
    ] h
  where
    first_or_rest : (p : Slot → Bool) (n : ℕ) (s : Slot) (ss : List Slot) → ((i : ℕ) → i < length (places_in p (n + 1) ss) → get_or (places_in p (n + 1) ss) i 0 < (n + 1) + length ss) → (i : ℕ) → i < length (n ∷ places_in p (n + 1) ss) → get_or (n ∷ places_in p (n + 1) ss) i 0 < n + length (s ∷ ss)
    first_or_rest p n s ss rest zero lt = omega arith
    first_or_rest p n s ss rest (suc i) lt = omega (arith, rest i (omega (arith, lt)))

-- the operators that take pairs away
filter_same : (p q : Pair → Bool) (xs : List Pair) → ((x : Pair) → p x ≡ q x) → filter p xs ≡ filter q xs
filter_same p q [] same = refl
filter_same p q (x ∷ xs) same =
    let rest = filter_same p q xs same in
    rw (same x) (elim (q x) as (λ b. cond b (x ∷ filter p xs) (filter p xs) ≡ cond b (x ∷ filter q xs) (filter q xs)) [
      | true ↦ ap (λ (ys : List Pair). x ∷ ys) rest
      | false ↦ rest
    ])

not_and : (a b : Bool) → not (a && not b) ≡ (not a || b)
not_and true true = refl
not_and true false = refl
not_and false b = refl

taken-applied : (selection : Selection) (op : Op) (p : Pair) (xs : List Pair) → removes op ≡ true → filter (λ x. not (is_removed selection op p x)) xs ≡ apply_selected selection op p xs
taken-applied selection RemoveEqual p xs h = refl
taken-applied selection KeepEqual p xs h = filter_same (λ x. not (is_removed selection KeepEqual p x)) (agrees_selected selection p) xs (λ x. not_and (is_selected selection p.id x) (is_same selection x p))
taken-applied selection RemoveAll p xs h = refl
taken-applied selection Append p xs h = cc
taken-applied selection Prepend p xs h = cc
taken-applied selection AddNew p xs h = cc
taken-applied selection Replace p xs h = cc

pub state-removed : (selection : Selection) (e : Edit) (pool : List Pair) (c : List Slot) → removes e.op ≡ true → shown_state pool (map (turned_if (is_taken selection e pool)) c) ≡ edited_selected selection e (shown_state pool c)
state-removed selection e pool c h =
    let d = map (turned_if (is_taken selection e pool)) c in
    state_edited selection e pool pool c d
    (taken_away e.list pool (is_removed selection e.op e.pair) c ∙ taken-applied selection e.op e.pair (shown_pairs e.list pool c) h)
    (λ which ne. others_stay which e.list pool (λ s. is_removed selection e.op e.pair (slot_pair pool s)) c ne)

-- whether one passes
pub any_of_shown : (w : WhichList) (test : Pair → Bool) (pool : List Pair) (c : List Slot) → list_any (shows_passing w test pool) c ≡ list_any test (shown_of w pool c)
any_of_shown w test pool [] = refl
any_of_shown w test pool (s ∷ ss) =
    let rest = any_of_shown w test pool ss in
    elim (shows w s) as (λ b. ((b && test (slot_pair pool s)) || list_any (shows_passing w test pool) ss) ≡ list_any test (map (slot_pair pool) (cond b (s ∷ filter (shows w) ss) (filter (shows w) ss)))) [
      | true ↦ ap (λ (t : Bool). test (slot_pair pool s) || t) rest
      | false ↦ rest
    ]

pub any-shown : (w : WhichList) (test : Pair → Bool) (pool : List Pair) (c : List Slot) → list_any (shows_passing w test pool) c ≡ list_any test (shown_pairs w pool c)
any-shown w test pool c =
    sym (any-in_order (shows_passing w test pool) c)
    ∙ any_of_shown w test pool (in_order c)
    ∙ sym (ap (list_any test) (shown_pairs-in_order w pool c))

-- an operator that adds one adds it at its end
replace-none : (selection : Selection) (p : Pair) (xs : List Pair) → list_any (is_selected selection p.id) xs ≡ false → replace_selected selection p xs ≡ xs ++ p ∷ []
replace-none selection p xs h =
    let first = none_first (is_selected selection p.id) xs h in
    let all : length xs ≤ position_or_len (is_selected selection p.id) xs = omega (arith, first) in
    let past : length xs ≤ position_or_len (is_selected selection p.id) xs + 1 = omega (arith, first) in
    ap₂ (λ (a b : List Pair). a ++ p ∷ filter (is_unselected selection p.id) b) (take_all (position_or_len (is_selected selection p.id) xs) xs all) (drop_all (position_or_len (is_selected selection p.id) xs + 1) xs past)

pub added-applied : (selection : Selection) (op : Op) (p : Pair) (xs : List Pair) → adds_one op (is_selected selection p.id) xs ≡ true → apply_selected selection op p xs ≡ beside (end_for op) (p ∷ []) xs
added-applied selection AddNew p xs h = elim (list_any (is_selected selection p.id) xs) as (λ b. not b ≡ true → cond b xs (xs ++ p ∷ []) ≡ xs ++ p ∷ []) [ true ↦ λ e. cc | false ↦ λ e. refl ] h
added-applied selection Replace p xs h = replace-none selection p xs (elim (list_any (is_selected selection p.id) xs) as (λ b. not b ≡ true → b ≡ false) [ true ↦ λ e. cc | false ↦ λ e. refl ] h)
added-applied selection Append p xs h = refl
added-applied selection Prepend p xs h = refl
added-applied selection RemoveEqual p xs h = cc
added-applied selection KeepEqual p xs h = cc
added-applied selection RemoveAll p xs h = cc

-- a pool with one more agrees on what was shown
pub agree-more : (pool : List Pair) (p : Pair) (c : List Slot) → PairsWithin (length pool) c → (i : ℕ) → (slot_at c i).mark.live ≡ true → slot_pair (pool ++ p ∷ []) (slot_at c i) ≡ slot_pair pool (slot_at c i)
agree-more pool p c pooled i live = get_or_append_left pool (p ∷ []) no_pair (slot_at c i).mark.pair (pooled i live)

pub within-more : (n m : ℕ) (c : List Slot) → n ≤ m → PairsWithin n c → PairsWithin m c
within-more n m c le pooled i live =
    let lt : (slot_at c i).mark.pair < n = pooled i live in
    omega arith

pub within-append : (n : ℕ) (c d : List Slot) → PairsWithin n c → PairsWithin n d → PairsWithin n (c ++ d)
within-append n [] d pooled more i = more i
within-append n (s ∷ ss) d pooled more zero = pooled 0
within-append n (s ∷ ss) d pooled more (suc i) = within-append n ss d (λ j. pooled (suc j)) more i

pub within-one : (n : ℕ) (s : Slot) → (s.mark.live ≡ true → s.mark.pair < n) → PairsWithin n (s ∷ [])
within-one n s h zero = h
within-one n s h (suc i) = λ live. cc
