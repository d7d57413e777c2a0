-- An edit leaves the instances of each other attribute, and of each other list.
use Rattle.std.proofs.Common.{◌≡◌, ℕ, suc, ◌+◌, Bool, true, false, not, ◌&&◌, ◌||◌, cond, if◌then◌else◌, List, [], ◌∷◌, ◌++◌, filter, take, drop, refl, sym, ap, ◌∙◌, subst, arith, append-nil}
use Rattle.std.specs.List.{position_or_len}
use Rattle.avp_lists.specs.Instances.{has_id, instances}
use Rattle.avp_lists.specs.Pairs.{id_eq}
use Rattle.avp_lists.proofs.Equality.{same_id}
use Rattle.avp_lists.specs.Selections.{agrees_selected, apply_selected, differs_selected, edited_selected, edited_list_selected, has_selected, is_unselected}
use Rattle.avp_lists.specs.Tags.{is_selected, is_same}
use Rattle.avp_lists.specs.States.{list_of, with_list}
use Rattle.avp_lists.specs.declared.pairs.AttrId.{AttrId}
use Rattle.avp_lists.specs.declared.pairs.Pair.{Pair}
use Rattle.avp_lists.specs.declared.edits.Edit.{Edit}
use Rattle.avp_lists.specs.declared.edits.Op.{Op}
use Rattle.avp_lists.specs.declared.edits.Op.TheVariants.{AddNew, Append, KeepEqual, Prepend, RemoveAll, RemoveEqual, Replace}
use Rattle.avp_lists.specs.declared.lists.List.{List as Name}
use Rattle.avp_lists.specs.declared.lists.List.TheVariants.{Control, Reply, Request}
use Rattle.avp_lists.specs.declared.lists.State.{State}
use Rattle.avp_lists.specs.declared.tags.Selection.{Selection}
use Rattle.avp_lists.specs.declared.tags.Selection.TheVariants.{All, EachTag, Tag}
use Rattle.radpolicy_walk_commands.specs.internal.EditedLines.{same_list}

module _ (id : AttrId) where
  one : (a b : Bool) (q : Pair) (rest all : List Pair) → has_id id q ≡ a → (a ≡ true → b ≡ true) → instances id rest ≡ all
      → instances id (if b then q ∷ rest else rest) ≡ (if a then q ∷ all else all)
  one true true q rest all e h f = ap (λ x. if x then q ∷ instances id rest else instances id rest) e ∙ ap (λ xs. q ∷ xs) f
  one true false q rest all e h f = absurd (cc (h refl))
  one false true q rest all e h f = ap (λ x. if x then q ∷ instances id rest else instances id rest) e ∙ f
  one false false q rest all e h f = f

  -- a test that each instance passes keeps them all
  kept : (p : Pair → Bool) → ((q : Pair) → has_id id q ≡ true → p q ≡ true) → (pairs : List Pair) → instances id (filter p pairs) ≡ instances id pairs
  kept p h [] = refl
  kept p h (q ∷ qs) = one (has_id id q) (p q) q (filter p qs) (instances id qs) refl (h q) (kept p h qs)

  put : Bool → Pair → List Pair → List Pair
  put b q pairs = if b then q ∷ pairs else pairs

  passed : (p : Pair) (pairs : List Pair) → has_id id p ≡ false → instances id (p ∷ pairs) ≡ instances id pairs
  passed p pairs e = ap (λ x. if x then p ∷ instances id pairs else instances id pairs) e

  beside : (b : Bool) (x : Pair) (xs ys zs : List Pair) → zs ≡ xs ++ ys → (if b then x ∷ zs else zs) ≡ (if b then x ∷ xs else xs) ++ ys
  beside true x xs ys zs e = ap (λ ps. x ∷ ps) e
  beside false x xs ys zs e = e

  pub appended : (xs ys : List Pair) → instances id (xs ++ ys) ≡ instances id xs ++ instances id ys
  appended [] ys = refl
  appended (x ∷ xs) ys = beside (has_id id x) x (instances id xs) (instances id ys) (instances id (xs ++ ys)) (appended xs ys)

  split_at : (b : Bool) (q : Pair) (qs : List Pair) (n : ℕ) → (b ≡ true → has_id id q ≡ false) → instances id (take n qs) ++ instances id (drop (n + 1) qs) ≡ instances id qs
      → instances id (take (cond (not b) (1 + n) 0) (q ∷ qs)) ++ instances id (drop (cond (not b) (1 + n) 0 + 1) (q ∷ qs)) ≡ instances id (q ∷ qs)
  split_at true q qs n h e = sym (passed q qs (h refl))
  split_at false q qs n h e =
      let before : suc n ≡ 1 + n = omega arith in
      let after : suc (n + 1) ≡ 1 + n + 1 = omega arith in
      subst (λ (k : ℕ). instances id (take k (q ∷ qs)) ++ instances id (drop (1 + n + 1) (q ∷ qs)) ≡ instances id (q ∷ qs)) before
      (subst (λ (k : ℕ). instances id (q ∷ take n qs) ++ instances id (drop k (q ∷ qs)) ≡ instances id (q ∷ qs)) after
      (sym (beside (has_id id q) q (instances id (take n qs)) (instances id (drop (n + 1) qs)) (instances id qs) (sym e))))

  -- what comes before and after the first pair that passes, where no instance does
  around : (f : Pair → Bool) → ((q : Pair) → f q ≡ true → has_id id q ≡ false) → (pairs : List Pair)
      → instances id (take (position_or_len f pairs) pairs) ++ instances id (drop (position_or_len f pairs + 1) pairs) ≡ instances id pairs
  around f h [] = refl
  around f h (q ∷ qs) = split_at (f q) q qs (position_or_len f qs) (h q) (around f h qs)

  module _ (selection : Selection) (p : Pair) (other : has_id id p ≡ false) where
    apart : (q : Pair) → has_id id q ≡ true → has_id p.id q ≡ true → has_id id p ≡ true
    apart q h e = ap (λ x. id_eq x id) (sym (same_id q.id p.id e)) ∙ h

    -- an instance is of another id than p
    unlike : (q : Pair) → has_id id q ≡ true → has_id p.id q ≡ false
    unlike q h =
        elim (has_id p.id q) as (λ b. has_id p.id q ≡ b → has_id p.id q ≡ false)
        [ true ↦ (λ e. absurd (cc (apart q h e, other))) | false ↦ (λ e. e) ] refl

    unselected_by : (s : Selection) (q : Pair) → has_id p.id q ≡ false → is_selected s p.id q ≡ false
    unselected_by All q e = e
    unselected_by (EachTag tagging) q e = e
    unselected_by (Tag tagging n) q e = rw e refl

    unselected : (q : Pair) → has_id id q ≡ true → is_selected selection p.id q ≡ false
    unselected q h = unselected_by selection q (unlike q h)

    no_instance : (q : Pair) → is_selected selection p.id q ≡ true → has_id id q ≡ false
    no_instance q e =
        elim (has_id id q) as (λ b. has_id id q ≡ b → has_id id q ≡ false)
        [ true ↦ (λ h. absurd (cc (unselected q h, e))) | false ↦ (λ h. h) ] refl

    differs_by : (s : Selection) (q : Pair) → has_id p.id q ≡ false → is_same s q p ≡ false
    differs_by All q e = rw e refl
    differs_by (EachTag tagging) q e = rw e refl
    differs_by (Tag tagging n) q e = rw e refl

    stays : (q : Pair) → has_id id q ≡ true → is_unselected selection p.id q ≡ true
    stays q h = ap not (unselected q h)

    stays_unlike : (q : Pair) → has_id id q ≡ true → differs_selected selection p q ≡ true
    stays_unlike q h = ap not (differs_by selection q (unlike q h))

    stays_agreeing : (q : Pair) → has_id id q ≡ true → agrees_selected selection p q ≡ true
    stays_agreeing q h = ap (λ b. b || is_same selection q p) (stays q h)

    at_end : (pairs : List Pair) → instances id (pairs ++ p ∷ []) ≡ instances id pairs
    at_end pairs = appended pairs (p ∷ []) ∙ ap (λ xs. instances id pairs ++ xs) (passed p [] other) ∙ append-nil (instances id pairs)

    -- what an operator with p makes of a list has the same instances of each other attribute
    pub applied : (op : Op) (pairs : List Pair) → instances id (apply_selected selection op p pairs) ≡ instances id pairs
    applied AddNew pairs =
        elim (has_selected selection p.id pairs) as (λ b. instances id (cond b pairs (pairs ++ p ∷ [])) ≡ instances id pairs) [ true ↦ refl | false ↦ at_end pairs ]
    applied Replace pairs =
        let f = is_selected selection p.id in
        let n = position_or_len f pairs in
        let after = drop (n + 1) pairs in
        appended (take n pairs) (p ∷ filter (is_unselected selection p.id) after)
        ∙ ap (λ xs. instances id (take n pairs) ++ xs) (passed p (filter (is_unselected selection p.id) after) other ∙ kept (is_unselected selection p.id) stays after)
        ∙ around f no_instance pairs
    applied Append pairs = at_end pairs
    applied Prepend pairs = passed p pairs other
    applied RemoveEqual pairs = kept (differs_selected selection p) stays_unlike pairs
    applied KeepEqual pairs = kept (agrees_selected selection p) stays_agreeing pairs
    applied RemoveAll pairs = kept (is_unselected selection p.id) stays pairs

  module _ (a : Name) where
    -- a list that is put in the place of one has the same instances, if it is this one
    replaced : (b : Name) (which : Bool) (pairs : List Pair) (s : State) → same_list a b && which ≡ false → (which ≡ false → instances id pairs ≡ instances id (list_of b s))
        → instances id (list_of a s) ≡ instances id (list_of a (with_list b pairs s))
    replaced b which pairs s e h = by_lists a b e h where
      by_lists : (a b : Name) → same_list a b && which ≡ false → (which ≡ false → instances id pairs ≡ instances id (list_of b s))
          → instances id (list_of a s) ≡ instances id (list_of a (with_list b pairs s))
      by_lists Request Request e h = sym (h e)
      by_lists Request Reply e h = refl
      by_lists Request Control e h = refl
      by_lists Reply Request e h = refl
      by_lists Reply Reply e h = sym (h e)
      by_lists Reply Control e h = refl
      by_lists Control Request e h = refl
      by_lists Control Reply e h = refl
      by_lists Control Control e h = sym (h e)

    -- an edit of another list, or of another attribute
    pub edit_apart : (selection : Selection) (e : Edit) (s : State) → same_list a e.list && id_eq e.pair.id id ≡ false → instances id (list_of a s) ≡ instances id (list_of a (edited_selected selection e s))
    edit_apart selection e s h =
        replaced e.list (id_eq e.pair.id id) (edited_list_selected selection e s) s h (λ other. applied selection e.pair other e.op (list_of e.list s))
