-- A condition that compares with no pattern and no texts is true by each dictionary exactly where it is true without one.
use Rattle.std.proofs.Common.{◌≡◌, Bool, true, false, ◌&&◌, ◌||◌, List, [], ◌∷◌, map, not, refl, sym, ap, ap₂, ◌∙◌, subst, true≢false}
use Rattle.std.specs.List.{list_all, list_any}
use Rattle.avp_lists.specs.declared.lists.State.{State}
use Rattle.avp_dict.specs.Dictionary.{Dictionary}
use Rattle.avp_unlang.specs.PolicyPatterns.{cond_layer_passes, cond_patterns_pass, none_passes, passes}
use Rattle.avp_unlang.specs.Truth.{Test, cond_truth_with, nothing_printed, printed_by, truth, truth_by}
use Rattle.avp_unlang.specs.declared.codes.Code.{Code}
use Rattle.avp_unlang.specs.declared.tree.Cond.{Cond}
use Rattle.avp_unlang.specs.declared.tree.Cond.TheFolds.{fold-Cond, fold-roll-Cond, ind-Cond, map-Cond}
use Rattle.avp_unlang.specs.declared.tree.Cond.TheOpen.{Cond-F, Any, All, Not, Last, Present, PresentSelected, Compare, CompareMeant, CompareTexts, Match, MatchText, MatchGroup, Captured}
use Rattle.avp_unlang.specs.declared.tree.Cond.TheViews.{roll-Cond}
use Rattle.avp_unlang.proofs.Comparing.{and_left, and_right}

abbrev pub layer_has_no_texts : Cond-F Bool → Bool
layer_has_no_texts (Any parts) = list_all passes parts
layer_has_no_texts (All parts) = list_all passes parts
layer_has_no_texts (Not part) = part
layer_has_no_texts (CompareTexts c) = false
layer_has_no_texts _ = true

unfoldable pub has_no_texts : Cond → Bool
has_no_texts = fold-Cond Bool layer_has_no_texts

module _ (dictionary : Dictionary) (s : State) (code : Code) where
  abbrev IsSame : Cond → Type 0
  IsSame c = cond_patterns_pass none_passes c ≡ true → has_no_texts c ≡ true → truth_by dictionary c s code ≡ truth c s code

  abbrev Such : Type 0
  Such = (c : Cond) × IsSame c

  abbrev the_conds : List Such → List Cond
  the_conds es = map (λ e. e.0) es

  abbrev layer : Cond-F Such → Cond-F Cond
  layer = map-Cond Such Cond (λ e. e.0)

  abbrev here : Test → Bool
  here test = test s code

  any_same : (es : List Such) → list_all passes (map (cond_patterns_pass none_passes) (the_conds es)) ≡ true → list_all passes (map has_no_texts (the_conds es)) ≡ true → list_any here (map (truth_by dictionary) (the_conds es)) ≡ list_any here (map truth (the_conds es))
  any_same [] h g = refl
  any_same (e ∷ es) h g =
      let rest = list_all passes (map (cond_patterns_pass none_passes) (the_conds es)) in
      let others = list_all passes (map has_no_texts (the_conds es)) in
      ap₂ (λ a b. a || b) (e.1 (and_left (cond_patterns_pass none_passes e.0) rest h) (and_left (has_no_texts e.0) others g))
      (any_same es (and_right (cond_patterns_pass none_passes e.0) rest h) (and_right (has_no_texts e.0) others g))

  all_same : (es : List Such) → list_all passes (map (cond_patterns_pass none_passes) (the_conds es)) ≡ true → list_all passes (map has_no_texts (the_conds es)) ≡ true → list_all here (map (truth_by dictionary) (the_conds es)) ≡ list_all here (map truth (the_conds es))
  all_same [] h g = refl
  all_same (e ∷ es) h g =
      let rest = list_all passes (map (cond_patterns_pass none_passes) (the_conds es)) in
      let others = list_all passes (map has_no_texts (the_conds es)) in
      ap₂ (λ a b. a && b) (e.1 (and_left (cond_patterns_pass none_passes e.0) rest h) (and_left (has_no_texts e.0) others g))
      (all_same es (and_right (cond_patterns_pass none_passes e.0) rest h) (and_right (has_no_texts e.0) others g))

  layer_same : (y : Cond-F Such) → cond_layer_passes none_passes (map-Cond Cond Bool (cond_patterns_pass none_passes) (layer y)) ≡ true
      → layer_has_no_texts (map-Cond Cond Bool has_no_texts (layer y)) ≡ true
      → cond_truth_with (printed_by dictionary) (map-Cond Cond Test (truth_by dictionary) (layer y)) s code ≡ cond_truth_with nothing_printed (map-Cond Cond Test truth (layer y)) s code
  layer_same (Any parts) h g = any_same parts h g
  layer_same (All parts) h g = all_same parts h g
  layer_same (Not part) h g = ap not (part.1 h g)
  layer_same (Last word) h g = refl
  layer_same (Present list id) h g = refl
  layer_same (PresentSelected list id selection) h g = refl
  layer_same (Compare c) h g = refl
  layer_same (CompareMeant c) h g = refl
  layer_same (CompareTexts c) h g = absurd (true≢false (sym g))
  layer_same (Match m) h g = absurd (true≢false (sym h))
  layer_same (MatchText m) h g = absurd (true≢false (sym h))
  layer_same (MatchGroup m) h g = absurd (true≢false (sym h))
  layer_same (Captured group) h g = refl

  rolled : (x : Cond-F Cond)
      → (cond_layer_passes none_passes (map-Cond Cond Bool (cond_patterns_pass none_passes) x) ≡ true
      → layer_has_no_texts (map-Cond Cond Bool has_no_texts x) ≡ true
      → cond_truth_with (printed_by dictionary) (map-Cond Cond Test (truth_by dictionary) x) s code ≡ cond_truth_with nothing_printed (map-Cond Cond Test truth x) s code)
      → IsSame (roll-Cond x)
  unfolding cond_patterns_pass has_no_texts truth truth_by
  rolled x h passing met =
      ap here (fold-roll-Cond Test (cond_truth_with (printed_by dictionary)) x)
      ∙ h (sym (fold-roll-Cond Bool (cond_layer_passes none_passes) x) ∙ passing) (sym (fold-roll-Cond Bool layer_has_no_texts x) ∙ met)
      ∙ ap here (sym (fold-roll-Cond Test (cond_truth_with nothing_printed) x))

  pub pattern_free_truth : (c : Cond) → cond_patterns_pass none_passes c ≡ true → has_no_texts c ≡ true → truth_by dictionary c s code ≡ truth c s code
  pattern_free_truth = ind-Cond IsSame (λ x y is. subst (λ z. IsSame (roll-Cond z)) is (rolled (layer y) (layer_same y)))
