-- Conditions of one form.
use Rattle.std.proofs.Common.{◌≡◌, ◌&&◌, ℕ, suc, Bool, true, false, List, [], ◌∷◌, refl, sym, ap, ◌∙◌, length, map}
use Rattle.avp_lists.specs.declared.lists.List.{List as Name}
use Rattle.avp_lists.specs.declared.pairs.AttrId.{AttrId}
use Rattle.avp_lists.specs.declared.tags.Selection.{Selection}
use Rattle.avp_unlang.specs.declared.codes.Code.{Code}
use Rattle.avp_unlang.specs.declared.tree.Comparison.{Comparison}
use Rattle.avp_unlang.specs.declared.tree.Cond.{Cond}
use Rattle.avp_unlang.specs.declared.tree.Cond.TheFolds.{fold-roll-Cond, map-Cond}
use Rattle.avp_unlang.specs.declared.tree.Cond.TheOpen.{Cond-F}
use Rattle.avp_unlang.specs.declared.tree.Cond.TheOpen as layer
use Rattle.avp_unlang.specs.declared.tree.Cond.TheVariants.{Any, All, Not, Last, Present, PresentSelected, Compare, CompareMeant, CompareTexts, Match, MatchText, MatchGroup, Captured, rolls-Any, rolls-All, rolls-Not, rolls-Last, rolls-Present, rolls-PresentSelected, rolls-Compare, rolls-CompareMeant, rolls-CompareTexts, rolls-Match, rolls-MatchText, rolls-MatchGroup, rolls-Captured}
use Rattle.avp_unlang.specs.declared.tree.Cond.TheViews.{out-Cond, out-roll-Cond, roll-Cond, roll-out-Cond}
use Rattle.avp_unlang.specs.declared.tree.GroupMatching.{GroupMatching}
use Rattle.avp_unlang.specs.declared.tree.Matching.{Matching}
use Rattle.avp_unlang.specs.declared.tree.MeantComparison.{MeantComparison}
use Rattle.avp_unlang.specs.declared.tree.TextComparison.{TextComparison}
use Rattle.policy_warnings.specs.Repeats.{all_same, same_as, same_cond, same_layer}

-- ---- a condition and any other

abbrev layer_of : Cond-F Cond → Cond-F (Cond → Bool)
layer_of x = map-Cond Cond (Cond → Bool) same_cond x

opened : (x : Cond-F Cond) (k other : Cond) → k ≡ roll-Cond x → same_cond k other ≡ same_layer (layer_of x) (out-Cond other)
unfolding same_cond
opened x k other e = ap (λ c. same_cond c other) e ∙ ap (λ (f : Cond → Bool). f other) (fold-roll-Cond (Cond → Bool) same_as x)

both_opened : (x y : Cond-F Cond) (k other : Cond) → k ≡ roll-Cond x → other ≡ roll-Cond y → same_cond k other ≡ same_layer (layer_of x) y
both_opened x y k other e f = opened x k other e ∙ ap (same_layer (layer_of x)) (ap out-Cond f ∙ out-roll-Cond y)

module _ (k other : Cond) where
  pub same_Any : (a : List Cond) (b : List Cond) → k ≡ Any a → other ≡ Any b → same_cond k other ≡ same_layer (layer_of (layer.Any a)) (layer.Any b)
  same_Any a b e f = both_opened (layer.Any a) (layer.Any b) k other (e ∙ sym (rolls-Any a)) (f ∙ sym (rolls-Any b))

  pub same_All : (a : List Cond) (b : List Cond) → k ≡ All a → other ≡ All b → same_cond k other ≡ same_layer (layer_of (layer.All a)) (layer.All b)
  same_All a b e f = both_opened (layer.All a) (layer.All b) k other (e ∙ sym (rolls-All a)) (f ∙ sym (rolls-All b))

  pub same_Not : (a : Cond) (b : Cond) → k ≡ Not a → other ≡ Not b → same_cond k other ≡ same_layer (layer_of (layer.Not a)) (layer.Not b)
  same_Not a b e f = both_opened (layer.Not a) (layer.Not b) k other (e ∙ sym (rolls-Not a)) (f ∙ sym (rolls-Not b))

  pub same_Last : (a : Code) (b : Code) → k ≡ Last a → other ≡ Last b → same_cond k other ≡ same_layer (layer_of (layer.Last a)) (layer.Last b)
  same_Last a b e f = both_opened (layer.Last a) (layer.Last b) k other (e ∙ sym (rolls-Last a)) (f ∙ sym (rolls-Last b))

  pub same_Present : (a : Name) (n : AttrId) (b : Name) (m : AttrId) → k ≡ Present a n → other ≡ Present b m → same_cond k other ≡ same_layer (layer_of (layer.Present a n)) (layer.Present b m)
  same_Present a n b m e f = both_opened (layer.Present a n) (layer.Present b m) k other (e ∙ sym (rolls-Present a n)) (f ∙ sym (rolls-Present b m))

  pub same_PresentSelected : (a : Name) (n : AttrId) (t : Selection) (b : Name) (m : AttrId) (u : Selection) → k ≡ PresentSelected a n t → other ≡ PresentSelected b m u → same_cond k other ≡ same_layer (layer_of (layer.PresentSelected a n t)) (layer.PresentSelected b m u)
  same_PresentSelected a n t b m u e f = both_opened (layer.PresentSelected a n t) (layer.PresentSelected b m u) k other (e ∙ sym (rolls-PresentSelected a n t)) (f ∙ sym (rolls-PresentSelected b m u))

  pub same_Compare : (a : Comparison) (b : Comparison) → k ≡ Compare a → other ≡ Compare b → same_cond k other ≡ same_layer (layer_of (layer.Compare a)) (layer.Compare b)
  same_Compare a b e f = both_opened (layer.Compare a) (layer.Compare b) k other (e ∙ sym (rolls-Compare a)) (f ∙ sym (rolls-Compare b))

  pub same_CompareMeant : (a : MeantComparison) (b : MeantComparison) → k ≡ CompareMeant a → other ≡ CompareMeant b → same_cond k other ≡ same_layer (layer_of (layer.CompareMeant a)) (layer.CompareMeant b)
  same_CompareMeant a b e f = both_opened (layer.CompareMeant a) (layer.CompareMeant b) k other (e ∙ sym (rolls-CompareMeant a)) (f ∙ sym (rolls-CompareMeant b))

  pub same_Match : (a : Matching) (b : Matching) → k ≡ Match a → other ≡ Match b → same_cond k other ≡ same_layer (layer_of (layer.Match a)) (layer.Match b)
  same_Match a b e f = both_opened (layer.Match a) (layer.Match b) k other (e ∙ sym (rolls-Match a)) (f ∙ sym (rolls-Match b))

-- ---- of two forms

module _ (k other : Cond) where
  other_than_Any : (a : List (Cond → Bool)) → ((b : List Cond) → other ≡ Any b → ⊥) → (y : Cond-F Cond) → out-Cond other ≡ y → same_layer (layer.Any a) y ≡ false
  other_than_Any a never (layer.Any b) e = absurd (never b (sym (roll-out-Cond other) ∙ ap roll-Cond e ∙ rolls-Any b))
  other_than_Any a never (layer.All b) e = refl
  other_than_Any a never (layer.Not b) e = refl
  other_than_Any a never (layer.Last b) e = refl
  other_than_Any a never (layer.Present b m) e = refl
  other_than_Any a never (layer.PresentSelected b m u) e = refl
  other_than_Any a never (layer.Compare b) e = refl
  other_than_Any a never (layer.CompareMeant b) e = refl
  other_than_Any a never (layer.Match b) e = refl
  other_than_Any a never (layer.CompareTexts b) e = refl
  other_than_Any a never (layer.MatchText b) e = refl
  other_than_Any a never (layer.MatchGroup b) e = refl
  other_than_Any a never (layer.Captured b) e = refl

  pub no_Any : (a : List Cond) → k ≡ Any a → ((b : List Cond) → other ≡ Any b → ⊥) → false ≡ same_cond k other
  no_Any a e never = sym (opened (layer.Any a) k other (e ∙ sym (rolls-Any a)) ∙ other_than_Any (map same_cond a) never (out-Cond other) refl)

  other_than_All : (a : List (Cond → Bool)) → ((b : List Cond) → other ≡ All b → ⊥) → (y : Cond-F Cond) → out-Cond other ≡ y → same_layer (layer.All a) y ≡ false
  other_than_All a never (layer.Any b) e = refl
  other_than_All a never (layer.All b) e = absurd (never b (sym (roll-out-Cond other) ∙ ap roll-Cond e ∙ rolls-All b))
  other_than_All a never (layer.Not b) e = refl
  other_than_All a never (layer.Last b) e = refl
  other_than_All a never (layer.Present b m) e = refl
  other_than_All a never (layer.PresentSelected b m u) e = refl
  other_than_All a never (layer.Compare b) e = refl
  other_than_All a never (layer.CompareMeant b) e = refl
  other_than_All a never (layer.Match b) e = refl
  other_than_All a never (layer.CompareTexts b) e = refl
  other_than_All a never (layer.MatchText b) e = refl
  other_than_All a never (layer.MatchGroup b) e = refl
  other_than_All a never (layer.Captured b) e = refl

  pub no_All : (a : List Cond) → k ≡ All a → ((b : List Cond) → other ≡ All b → ⊥) → false ≡ same_cond k other
  no_All a e never = sym (opened (layer.All a) k other (e ∙ sym (rolls-All a)) ∙ other_than_All (map same_cond a) never (out-Cond other) refl)

  other_than_Not : (a : Cond → Bool) → ((b : Cond) → other ≡ Not b → ⊥) → (y : Cond-F Cond) → out-Cond other ≡ y → same_layer (layer.Not a) y ≡ false
  other_than_Not a never (layer.Any b) e = refl
  other_than_Not a never (layer.All b) e = refl
  other_than_Not a never (layer.Not b) e = absurd (never b (sym (roll-out-Cond other) ∙ ap roll-Cond e ∙ rolls-Not b))
  other_than_Not a never (layer.Last b) e = refl
  other_than_Not a never (layer.Present b m) e = refl
  other_than_Not a never (layer.PresentSelected b m u) e = refl
  other_than_Not a never (layer.Compare b) e = refl
  other_than_Not a never (layer.CompareMeant b) e = refl
  other_than_Not a never (layer.Match b) e = refl
  other_than_Not a never (layer.CompareTexts b) e = refl
  other_than_Not a never (layer.MatchText b) e = refl
  other_than_Not a never (layer.MatchGroup b) e = refl
  other_than_Not a never (layer.Captured b) e = refl

  pub no_Not : (a : Cond) → k ≡ Not a → ((b : Cond) → other ≡ Not b → ⊥) → false ≡ same_cond k other
  no_Not a e never = sym (opened (layer.Not a) k other (e ∙ sym (rolls-Not a)) ∙ other_than_Not (same_cond a) never (out-Cond other) refl)

  other_than_Last : (a : Code) → ((b : Code) → other ≡ Last b → ⊥) → (y : Cond-F Cond) → out-Cond other ≡ y → same_layer (layer.Last a) y ≡ false
  other_than_Last a never (layer.Any b) e = refl
  other_than_Last a never (layer.All b) e = refl
  other_than_Last a never (layer.Not b) e = refl
  other_than_Last a never (layer.Last b) e = absurd (never b (sym (roll-out-Cond other) ∙ ap roll-Cond e ∙ rolls-Last b))
  other_than_Last a never (layer.Present b m) e = refl
  other_than_Last a never (layer.PresentSelected b m u) e = refl
  other_than_Last a never (layer.Compare b) e = refl
  other_than_Last a never (layer.CompareMeant b) e = refl
  other_than_Last a never (layer.Match b) e = refl
  other_than_Last a never (layer.CompareTexts b) e = refl
  other_than_Last a never (layer.MatchText b) e = refl
  other_than_Last a never (layer.MatchGroup b) e = refl
  other_than_Last a never (layer.Captured b) e = refl

  pub no_Last : (a : Code) → k ≡ Last a → ((b : Code) → other ≡ Last b → ⊥) → false ≡ same_cond k other
  no_Last a e never = sym (opened (layer.Last a) k other (e ∙ sym (rolls-Last a)) ∙ other_than_Last a never (out-Cond other) refl)

  other_than_Present : (a : Name) (n : AttrId) → ((b : Name) (m : AttrId) → other ≡ Present b m → ⊥) → (y : Cond-F Cond) → out-Cond other ≡ y → same_layer (layer.Present a n) y ≡ false
  other_than_Present a n never (layer.Any b) e = refl
  other_than_Present a n never (layer.All b) e = refl
  other_than_Present a n never (layer.Not b) e = refl
  other_than_Present a n never (layer.Last b) e = refl
  other_than_Present a n never (layer.Present b m) e = absurd (never b m (sym (roll-out-Cond other) ∙ ap roll-Cond e ∙ rolls-Present b m))
  other_than_Present a n never (layer.PresentSelected b m u) e = refl
  other_than_Present a n never (layer.Compare b) e = refl
  other_than_Present a n never (layer.CompareMeant b) e = refl
  other_than_Present a n never (layer.Match b) e = refl
  other_than_Present a n never (layer.CompareTexts b) e = refl
  other_than_Present a n never (layer.MatchText b) e = refl
  other_than_Present a n never (layer.MatchGroup b) e = refl
  other_than_Present a n never (layer.Captured b) e = refl

  pub no_Present : (a : Name) (n : AttrId) → k ≡ Present a n → ((b : Name) (m : AttrId) → other ≡ Present b m → ⊥) → false ≡ same_cond k other
  no_Present a n e never = sym (opened (layer.Present a n) k other (e ∙ sym (rolls-Present a n)) ∙ other_than_Present a n never (out-Cond other) refl)

  other_than_PresentSelected : (a : Name) (n : AttrId) (t : Selection) → ((b : Name) (m : AttrId) (u : Selection) → other ≡ PresentSelected b m u → ⊥) → (y : Cond-F Cond) → out-Cond other ≡ y → same_layer (layer.PresentSelected a n t) y ≡ false
  other_than_PresentSelected a n t never (layer.Any b) e = refl
  other_than_PresentSelected a n t never (layer.All b) e = refl
  other_than_PresentSelected a n t never (layer.Not b) e = refl
  other_than_PresentSelected a n t never (layer.Last b) e = refl
  other_than_PresentSelected a n t never (layer.Present b m) e = refl
  other_than_PresentSelected a n t never (layer.PresentSelected b m u) e = absurd (never b m u (sym (roll-out-Cond other) ∙ ap roll-Cond e ∙ rolls-PresentSelected b m u))
  other_than_PresentSelected a n t never (layer.Compare b) e = refl
  other_than_PresentSelected a n t never (layer.CompareMeant b) e = refl
  other_than_PresentSelected a n t never (layer.Match b) e = refl
  other_than_PresentSelected a n t never (layer.CompareTexts b) e = refl
  other_than_PresentSelected a n t never (layer.MatchText b) e = refl
  other_than_PresentSelected a n t never (layer.MatchGroup b) e = refl
  other_than_PresentSelected a n t never (layer.Captured b) e = refl

  pub no_PresentSelected : (a : Name) (n : AttrId) (t : Selection) → k ≡ PresentSelected a n t → ((b : Name) (m : AttrId) (u : Selection) → other ≡ PresentSelected b m u → ⊥) → false ≡ same_cond k other
  no_PresentSelected a n t e never = sym (opened (layer.PresentSelected a n t) k other (e ∙ sym (rolls-PresentSelected a n t)) ∙ other_than_PresentSelected a n t never (out-Cond other) refl)

  other_than_Compare : (a : Comparison) → ((b : Comparison) → other ≡ Compare b → ⊥) → (y : Cond-F Cond) → out-Cond other ≡ y → same_layer (layer.Compare a) y ≡ false
  other_than_Compare a never (layer.Any b) e = refl
  other_than_Compare a never (layer.All b) e = refl
  other_than_Compare a never (layer.Not b) e = refl
  other_than_Compare a never (layer.Last b) e = refl
  other_than_Compare a never (layer.Present b m) e = refl
  other_than_Compare a never (layer.PresentSelected b m u) e = refl
  other_than_Compare a never (layer.Compare b) e = absurd (never b (sym (roll-out-Cond other) ∙ ap roll-Cond e ∙ rolls-Compare b))
  other_than_Compare a never (layer.CompareMeant b) e = refl
  other_than_Compare a never (layer.Match b) e = refl
  other_than_Compare a never (layer.CompareTexts b) e = refl
  other_than_Compare a never (layer.MatchText b) e = refl
  other_than_Compare a never (layer.MatchGroup b) e = refl
  other_than_Compare a never (layer.Captured b) e = refl

  pub no_Compare : (a : Comparison) → k ≡ Compare a → ((b : Comparison) → other ≡ Compare b → ⊥) → false ≡ same_cond k other
  no_Compare a e never = sym (opened (layer.Compare a) k other (e ∙ sym (rolls-Compare a)) ∙ other_than_Compare a never (out-Cond other) refl)

  other_than_CompareMeant : (a : MeantComparison) → ((b : MeantComparison) → other ≡ CompareMeant b → ⊥) → (y : Cond-F Cond) → out-Cond other ≡ y → same_layer (layer.CompareMeant a) y ≡ false
  other_than_CompareMeant a never (layer.Any b) e = refl
  other_than_CompareMeant a never (layer.All b) e = refl
  other_than_CompareMeant a never (layer.Not b) e = refl
  other_than_CompareMeant a never (layer.Last b) e = refl
  other_than_CompareMeant a never (layer.Present b m) e = refl
  other_than_CompareMeant a never (layer.PresentSelected b m u) e = refl
  other_than_CompareMeant a never (layer.Compare b) e = refl
  other_than_CompareMeant a never (layer.CompareMeant b) e = absurd (never b (sym (roll-out-Cond other) ∙ ap roll-Cond e ∙ rolls-CompareMeant b))
  other_than_CompareMeant a never (layer.Match b) e = refl
  other_than_CompareMeant a never (layer.CompareTexts b) e = refl
  other_than_CompareMeant a never (layer.MatchText b) e = refl
  other_than_CompareMeant a never (layer.MatchGroup b) e = refl
  other_than_CompareMeant a never (layer.Captured b) e = refl

  pub no_CompareMeant : (a : MeantComparison) → k ≡ CompareMeant a → ((b : MeantComparison) → other ≡ CompareMeant b → ⊥) → false ≡ same_cond k other
  no_CompareMeant a e never = sym (opened (layer.CompareMeant a) k other (e ∙ sym (rolls-CompareMeant a)) ∙ other_than_CompareMeant a never (out-Cond other) refl)

  other_than_Match : (a : Matching) → ((b : Matching) → other ≡ Match b → ⊥) → (y : Cond-F Cond) → out-Cond other ≡ y → same_layer (layer.Match a) y ≡ false
  other_than_Match a never (layer.Any b) e = refl
  other_than_Match a never (layer.All b) e = refl
  other_than_Match a never (layer.Not b) e = refl
  other_than_Match a never (layer.Last b) e = refl
  other_than_Match a never (layer.Present b m) e = refl
  other_than_Match a never (layer.PresentSelected b m u) e = refl
  other_than_Match a never (layer.Compare b) e = refl
  other_than_Match a never (layer.CompareMeant b) e = refl
  other_than_Match a never (layer.Match b) e = absurd (never b (sym (roll-out-Cond other) ∙ ap roll-Cond e ∙ rolls-Match b))
  other_than_Match a never (layer.CompareTexts b) e = refl
  other_than_Match a never (layer.MatchText b) e = refl
  other_than_Match a never (layer.MatchGroup b) e = refl
  other_than_Match a never (layer.Captured b) e = refl

  pub no_Match : (a : Matching) → k ≡ Match a → ((b : Matching) → other ≡ Match b → ⊥) → false ≡ same_cond k other
  no_Match a e never = sym (opened (layer.Match a) k other (e ∙ sym (rolls-Match a)) ∙ other_than_Match a never (out-Cond other) refl)

  never_Captured : (group : ℕ) (y : Cond-F Cond) → same_layer (layer.Captured group) y ≡ false
  never_Captured group (layer.Any b) = refl
  never_Captured group (layer.All b) = refl
  never_Captured group (layer.Not b) = refl
  never_Captured group (layer.Last b) = refl
  never_Captured group (layer.Present b m) = refl
  never_Captured group (layer.PresentSelected b m u) = refl
  never_Captured group (layer.Compare b) = refl
  never_Captured group (layer.CompareMeant b) = refl
  never_Captured group (layer.Match b) = refl
  never_Captured group (layer.CompareTexts b) = refl
  never_Captured group (layer.MatchText b) = refl
  never_Captured group (layer.MatchGroup b) = refl
  never_Captured group (layer.Captured b) = refl

  pub no_Captured : (group : ℕ) → k ≡ Captured group → false ≡ same_cond k other
  no_Captured group e = sym (opened (layer.Captured group) k other (e ∙ sym (rolls-Captured group)) ∙ never_Captured group (out-Cond other))

  never_CompareTexts : (a : TextComparison) (y : Cond-F Cond) → same_layer (layer.CompareTexts a) y ≡ false
  never_CompareTexts a (layer.Any b) = refl
  never_CompareTexts a (layer.All b) = refl
  never_CompareTexts a (layer.Not b) = refl
  never_CompareTexts a (layer.Last b) = refl
  never_CompareTexts a (layer.Present b m) = refl
  never_CompareTexts a (layer.PresentSelected b m u) = refl
  never_CompareTexts a (layer.Compare b) = refl
  never_CompareTexts a (layer.CompareMeant b) = refl
  never_CompareTexts a (layer.CompareTexts b) = refl
  never_CompareTexts a (layer.Match b) = refl
  never_CompareTexts a (layer.MatchText b) = refl
  never_CompareTexts a (layer.MatchGroup b) = refl
  never_CompareTexts a (layer.Captured b) = refl

  pub no_CompareTexts : (a : TextComparison) → k ≡ CompareTexts a → false ≡ same_cond k other
  no_CompareTexts a e = sym (opened (layer.CompareTexts a) k other (e ∙ sym (rolls-CompareTexts a)) ∙ never_CompareTexts a (out-Cond other))

  never_MatchText : (a : Matching) (y : Cond-F Cond) → same_layer (layer.MatchText a) y ≡ false
  never_MatchText a (layer.Any b) = refl
  never_MatchText a (layer.All b) = refl
  never_MatchText a (layer.Not b) = refl
  never_MatchText a (layer.Last b) = refl
  never_MatchText a (layer.Present b m) = refl
  never_MatchText a (layer.PresentSelected b m u) = refl
  never_MatchText a (layer.Compare b) = refl
  never_MatchText a (layer.CompareMeant b) = refl
  never_MatchText a (layer.CompareTexts b) = refl
  never_MatchText a (layer.Match b) = refl
  never_MatchText a (layer.MatchText b) = refl
  never_MatchText a (layer.MatchGroup b) = refl
  never_MatchText a (layer.Captured b) = refl

  pub no_MatchText : (a : Matching) → k ≡ MatchText a → false ≡ same_cond k other
  no_MatchText a e = sym (opened (layer.MatchText a) k other (e ∙ sym (rolls-MatchText a)) ∙ never_MatchText a (out-Cond other))

  never_MatchGroup : (a : GroupMatching) (y : Cond-F Cond) → same_layer (layer.MatchGroup a) y ≡ false
  never_MatchGroup a (layer.Any b) = refl
  never_MatchGroup a (layer.All b) = refl
  never_MatchGroup a (layer.Not b) = refl
  never_MatchGroup a (layer.Last b) = refl
  never_MatchGroup a (layer.Present b m) = refl
  never_MatchGroup a (layer.PresentSelected b m u) = refl
  never_MatchGroup a (layer.Compare b) = refl
  never_MatchGroup a (layer.CompareMeant b) = refl
  never_MatchGroup a (layer.CompareTexts b) = refl
  never_MatchGroup a (layer.Match b) = refl
  never_MatchGroup a (layer.MatchText b) = refl
  never_MatchGroup a (layer.MatchGroup b) = refl
  never_MatchGroup a (layer.Captured b) = refl

  pub no_MatchGroup : (a : GroupMatching) → k ≡ MatchGroup a → false ≡ same_cond k other
  no_MatchGroup a e = sym (opened (layer.MatchGroup a) k other (e ∙ sym (rolls-MatchGroup a)) ∙ never_MatchGroup a (out-Cond other))

  -- a condition of none of the kinds that another can repeat
  module _ (any : (b : List Cond) → k ≡ Any b → ⊥) (all : (b : List Cond) → k ≡ All b → ⊥) (negated : (b : Cond) → k ≡ Not b → ⊥) (last : (b : Code) → k ≡ Last b → ⊥)
      (present : (b : Name) (m : AttrId) → k ≡ Present b m → ⊥) (selected : (b : Name) (m : AttrId) (u : Selection) → k ≡ PresentSelected b m u → ⊥)
      (compared : (b : Comparison) → k ≡ Compare b → ⊥) (meant : (b : MeantComparison) → k ≡ CompareMeant b → ⊥) (matched : (b : Matching) → k ≡ Match b → ⊥) where
    of_no_kind : (x : Cond-F Cond) → out-Cond k ≡ x → false ≡ same_cond k other
    of_no_kind (layer.Any b) e = absurd (any b (sym (roll-out-Cond k) ∙ ap roll-Cond e ∙ rolls-Any b))
    of_no_kind (layer.All b) e = absurd (all b (sym (roll-out-Cond k) ∙ ap roll-Cond e ∙ rolls-All b))
    of_no_kind (layer.Not b) e = absurd (negated b (sym (roll-out-Cond k) ∙ ap roll-Cond e ∙ rolls-Not b))
    of_no_kind (layer.Last b) e = absurd (last b (sym (roll-out-Cond k) ∙ ap roll-Cond e ∙ rolls-Last b))
    of_no_kind (layer.Present b m) e = absurd (present b m (sym (roll-out-Cond k) ∙ ap roll-Cond e ∙ rolls-Present b m))
    of_no_kind (layer.PresentSelected b m u) e = absurd (selected b m u (sym (roll-out-Cond k) ∙ ap roll-Cond e ∙ rolls-PresentSelected b m u))
    of_no_kind (layer.Compare b) e = absurd (compared b (sym (roll-out-Cond k) ∙ ap roll-Cond e ∙ rolls-Compare b))
    of_no_kind (layer.CompareMeant b) e = absurd (meant b (sym (roll-out-Cond k) ∙ ap roll-Cond e ∙ rolls-CompareMeant b))
    of_no_kind (layer.CompareTexts b) e = no_CompareTexts b (sym (roll-out-Cond k) ∙ ap roll-Cond e ∙ rolls-CompareTexts b)
    of_no_kind (layer.Match b) e = absurd (matched b (sym (roll-out-Cond k) ∙ ap roll-Cond e ∙ rolls-Match b))
    of_no_kind (layer.MatchText b) e = no_MatchText b (sym (roll-out-Cond k) ∙ ap roll-Cond e ∙ rolls-MatchText b)
    of_no_kind (layer.MatchGroup b) e = no_MatchGroup b (sym (roll-out-Cond k) ∙ ap roll-Cond e ∙ rolls-MatchGroup b)
    of_no_kind (layer.Captured b) e = no_Captured b (sym (roll-out-Cond k) ∙ ap roll-Cond e ∙ rolls-Captured b)

    pub no_other : false ≡ same_cond k other
    no_other = of_no_kind (out-Cond k) refl

-- ---- lists

pub lengths_differ : (cs others : List Cond) → (length cs ≡ length others → ⊥) → false ≡ all_same (map same_cond cs) others
lengths_differ [] [] never = absurd (never refl)
lengths_differ [] (b ∷ bs) never = refl
lengths_differ (a ∷ cs) [] never = refl
lengths_differ (a ∷ cs) (b ∷ bs) never = by (same_cond a b) (lengths_differ cs bs (λ e. never (ap (λ n. suc n) e))) where
  by : (same : Bool) → false ≡ all_same (map same_cond cs) bs → false ≡ (same && all_same (map same_cond cs) bs)
  by true others = others
  by false others = refl
