-- What an operator makes of a list has of its own attribute the instances that it makes of those of the list.
use Rattle.std.proofs.Common.{◌≡◌, ℕ, suc, ◌+◌, Bool, true, false, not, ◌&&◌, ◌||◌, cond, if◌then◌else◌, List, [], ◌∷◌, ◌++◌, filter, take, drop, refl, sym, ap, ◌∙◌, subst, arith}
use Rattle.std.specs.List.{list_any, position_or_len}
use Rattle.avp_lists.specs.Instances.{has_id, instances}
use Rattle.avp_lists.specs.Selections.{agrees_selected, apply_selected, differs_selected, has_selected, is_unselected}
use Rattle.avp_lists.specs.Tags.{is_selected, is_tag, tag_of}
use Rattle.avp_lists.specs.declared.pairs.Pair.{Pair}
use Rattle.avp_lists.specs.declared.edits.Op.{Op}
use Rattle.avp_lists.specs.declared.edits.Op.TheVariants.{AddNew, Append, KeepEqual, Prepend, RemoveAll, RemoveEqual, Replace}
use Rattle.avp_lists.specs.declared.tags.Selection.{Selection}
use Rattle.avp_lists.specs.declared.tags.Selection.TheVariants.{All, EachTag, Tag}
use Rattle.avp_lists.proofs.Equality.{id_eq-same}
use Rattle.radpolicy_walk_commands.proofs.OtherIds.{appended}

-- ---- of any lists

put : Bool → Pair → List Pair → List Pair
put b q qs = if b then q ∷ qs else qs

either_order : (g h : Bool) (q : Pair) (f : Pair → Bool) (k : Pair → Bool) (xs ys : List Pair) → k q ≡ h → f q ≡ g → filter k xs ≡ filter f ys
    → filter k (if g then q ∷ xs else xs) ≡ filter f (if h then q ∷ ys else ys)
either_order true true q f k xs ys e d h = ap (λ b. if b then q ∷ filter k xs else filter k xs) e ∙ ap (λ zs. q ∷ zs) h ∙ sym (ap (λ b. if b then q ∷ filter f ys else filter f ys) d)
either_order true false q f k xs ys e d h = ap (λ b. if b then q ∷ filter k xs else filter k xs) e ∙ h
either_order false true q f k xs ys e d h = h ∙ sym (ap (λ b. if b then q ∷ filter f ys else filter f ys) d)
either_order false false q f k xs ys e d h = h

any_order : (f k : Pair → Bool) (pairs : List Pair) → filter k (filter f pairs) ≡ filter f (filter k pairs)
any_order f k [] = refl
any_order f k (q ∷ qs) = either_order (f q) (k q) q f k (filter f qs) (filter k qs) refl refl (any_order f k qs)

module _ (f k : Pair → Bool) (implies : (q : Pair) → f q ≡ true → k q ≡ true) where
  any_of_kept : (b c : Bool) (q : Pair) (qs : List Pair) → f q ≡ b → (b ≡ true → c ≡ true) → list_any f qs ≡ list_any f (filter k qs)
      → b || list_any f qs ≡ list_any f (if c then q ∷ filter k qs else filter k qs)
  any_of_kept true true q qs e h rest = sym (ap (λ x. x || list_any f (filter k qs)) e)
  any_of_kept true false q qs e h rest = absurd (cc (h refl))
  any_of_kept false true q qs e h rest = rest ∙ sym (ap (λ x. x || list_any f (filter k qs)) e)
  any_of_kept false false q qs e h rest = rest

  -- a test that only those pass that are kept
  same_any : (pairs : List Pair) → list_any f pairs ≡ list_any f (filter k pairs)
  same_any [] = refl
  same_any (q ∷ qs) = any_of_kept (f q) (k q) q qs refl (implies q) (same_any qs)

  abbrev Parted : List Pair → List Pair → ℕ → ℕ → Type 0
  Parted xs ys n m = (filter k (take n xs) ≡ take m ys) × (filter k (drop (n + 1) xs) ≡ drop (m + 1) ys)

  later : (q : Pair) (qs ys : List Pair) (n m : ℕ) → k q ≡ true → Parted qs ys n m → Parted (q ∷ qs) (q ∷ ys) (1 + n) (1 + m)
  later q qs ys n m e h =
      let before : suc n ≡ 1 + n = omega arith in
      let after : suc m ≡ 1 + m = omega arith in
      let past : suc (n + 1) ≡ 1 + n + 1 = omega arith in
      let beyond : suc (m + 1) ≡ 1 + m + 1 = omega arith in (
        subst (λ (i : ℕ). filter k (take i (q ∷ qs)) ≡ take (1 + m) (q ∷ ys)) before
            (subst (λ (j : ℕ). filter k (take (suc n) (q ∷ qs)) ≡ take j (q ∷ ys)) after
            (ap (λ b. if b then q ∷ filter k (take n qs) else filter k (take n qs)) e ∙ ap (λ zs. q ∷ zs) h.0)),
        subst (λ (i : ℕ). filter k (drop i (q ∷ qs)) ≡ drop (1 + m + 1) (q ∷ ys)) past
            (subst (λ (j : ℕ). filter k (drop (suc (n + 1)) (q ∷ qs)) ≡ drop j (q ∷ ys)) beyond h.1),
      )

  beside : (q : Pair) (qs ys : List Pair) (n m : ℕ) → k q ≡ false → Parted qs ys n m → Parted (q ∷ qs) ys (1 + n) m
  beside q qs ys n m e h =
      let before : suc n ≡ 1 + n = omega arith in
      let past : suc (n + 1) ≡ 1 + n + 1 = omega arith in (
        subst (λ (i : ℕ). filter k (take i (q ∷ qs)) ≡ take m ys) before (ap (λ b. if b then q ∷ filter k (take n qs) else filter k (take n qs)) e ∙ h.0),
        subst (λ (i : ℕ). filter k (drop i (q ∷ qs)) ≡ drop (m + 1) ys) past h.1,
      )

  here : (q : Pair) (qs : List Pair) → Parted (q ∷ qs) (q ∷ filter k qs) 0 0
  here q qs = (refl, refl)

  parted_by : (b c : Bool) (q : Pair) (qs : List Pair) → f q ≡ b → k q ≡ c → Parted qs (filter k qs) (position_or_len f qs) (position_or_len f (filter k qs))
      → Parted (q ∷ qs) (if c then q ∷ filter k qs else filter k qs) (cond (not b) (1 + position_or_len f qs) 0) (position_or_len f (if c then q ∷ filter k qs else filter k qs))
  parted_by true true q qs e d h = subst (λ (x : Bool). Parted (q ∷ qs) (q ∷ filter k qs) 0 (cond (not x) (1 + position_or_len f (filter k qs)) 0)) (sym e) (here q qs)
  parted_by true false q qs e d h = absurd (cc (implies q e, d))
  parted_by false true q qs e d h =
      subst (λ (x : Bool). Parted (q ∷ qs) (q ∷ filter k qs) (1 + position_or_len f qs) (cond (not x) (1 + position_or_len f (filter k qs)) 0)) (sym e)
      (later q qs (filter k qs) (position_or_len f qs) (position_or_len f (filter k qs)) d h)
  parted_by false false q qs e d h = beside q qs (filter k qs) (position_or_len f qs) (position_or_len f (filter k qs)) d h

  -- what is kept before and after the first that passes
  parted : (pairs : List Pair) → Parted pairs (filter k pairs) (position_or_len f pairs) (position_or_len f (filter k pairs))
  parted [] = (refl, refl)
  parted (q ∷ qs) = parted_by (f q) (k q) q qs refl refl (parted qs)

-- ---- of instances

module _ (selection : Selection) (p : Pair) where
  selected_has : (s : Selection) (q : Pair) → is_selected s p.id q ≡ true → has_id p.id q ≡ true
  selected_has All q e = e
  selected_has (EachTag tagging) q e = e
  selected_has (Tag tagging n) q e = both (has_id p.id q) (is_tag n (tag_of tagging q.value)) e where
    both : (b c : Bool) → b && c ≡ true → b ≡ true
    both true c h = refl
    both false c h = absurd (cc h)

  own : (pairs : List Pair) → instances p.id (p ∷ pairs) ≡ p ∷ instances p.id pairs
  own pairs = ap (λ b. if b then p ∷ instances p.id pairs else instances p.id pairs) (id_eq-same p.id)

  at_end : (pairs : List Pair) → instances p.id (pairs ++ p ∷ []) ≡ instances p.id pairs ++ p ∷ []
  at_end pairs = appended p.id pairs (p ∷ []) ∙ ap (λ xs. instances p.id pairs ++ xs) (own [])

  added : (b c : Bool) (pairs : List Pair) → b ≡ c → instances p.id (cond b pairs (pairs ++ p ∷ [])) ≡ cond c (instances p.id pairs) (instances p.id pairs ++ p ∷ [])
  added true true pairs e = refl
  added true false pairs e = absurd (cc e)
  added false true pairs e = absurd (cc e)
  added false false pairs e = at_end pairs

  pub applied_own : (op : Op) (pairs : List Pair) → instances p.id (apply_selected selection op p pairs) ≡ apply_selected selection op p (instances p.id pairs)
  applied_own AddNew pairs =
      added (has_selected selection p.id pairs) (has_selected selection p.id (instances p.id pairs)) pairs
      (same_any (is_selected selection p.id) (has_id p.id) (selected_has selection) pairs)
  applied_own Replace pairs =
      let f = is_selected selection p.id in
      let u = is_unselected selection p.id in
      let n = position_or_len f pairs in
      let m = position_or_len f (instances p.id pairs) in
      let parts = parted f (has_id p.id) (selected_has selection) pairs in
      appended p.id (take n pairs) (p ∷ filter u (drop (n + 1) pairs))
      ∙ ap (λ xs. xs ++ instances p.id (p ∷ filter u (drop (n + 1) pairs))) parts.0
      ∙ ap (λ xs. take m (instances p.id pairs) ++ xs) (own (filter u (drop (n + 1) pairs)))
      ∙ ap (λ xs. take m (instances p.id pairs) ++ p ∷ xs) (any_order u (has_id p.id) (drop (n + 1) pairs) ∙ ap (filter u) parts.1)
  applied_own Append pairs = at_end pairs
  applied_own Prepend pairs = own pairs
  applied_own RemoveEqual pairs = any_order (differs_selected selection p) (has_id p.id) pairs
  applied_own KeepEqual pairs = any_order (agrees_selected selection p) (has_id p.id) pairs
  applied_own RemoveAll pairs = any_order (is_unselected selection p.id) (has_id p.id) pairs
