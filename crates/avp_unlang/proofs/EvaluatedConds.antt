-- What each kind of condition comes to.
use Rattle.std.proofs.Common.{◌≡◌, ℕ, true, false, cond, List, ◌∷◌, length, map, is_some, sym, ap, ◌∙◌}
use Rattle.std.specs.Prelude.{nat_lt}
use Rattle.avp_lists.specs.Instances.{first_instance}
use Rattle.avp_lists.specs.Selections.{first_selected_instance}
use Rattle.avp_lists.specs.States.{list_of}
use Rattle.avp_lists.specs.declared.tags.Selection.{Selection}
use Rattle.avp_lists.specs.declared.pairs.AttrId.{AttrId}
use Rattle.avp_lists.specs.declared.lists.List.{List as Name}
use Rattle.avp_lists.specs.declared.lists.State.{State}
use Rattle.avp_dict.specs.Dictionary.{Dictionary}
use Rattle.avp_unlang.specs.Captures.{Captures, captured, captures_after}
use Rattle.avp_unlang.specs.Evaluations.{Evaluated, Evaluation, all_evaluated, any_evaluated, cond_evaluated, decided, evaluated, negated}
use Rattle.avp_unlang.specs.PatternTruth.{is_matched}
use Rattle.avp_unlang.specs.Texts.{captures_after_group, captures_after_text, is_group_matched, is_met_by_texts, is_text_matched}
use Rattle.avp_unlang.specs.Truth.{is_met, is_met_by_meaning, same_code}
use Rattle.avp_unlang.specs.declared.codes.Code.{Code}
use Rattle.avp_unlang.specs.declared.tree.Comparison.{Comparison}
use Rattle.avp_unlang.specs.declared.tree.Cond.{Cond}
use Rattle.avp_unlang.specs.declared.tree.GroupMatching.{GroupMatching}
use Rattle.avp_unlang.specs.declared.tree.Matching.{Matching}
use Rattle.avp_unlang.specs.declared.tree.MeantComparison.{MeantComparison}
use Rattle.avp_unlang.specs.declared.tree.TextComparison.{TextComparison}
use Rattle.avp_unlang.specs.declared.tree.Cond.TheFolds.{fold-roll-Cond}
use Rattle.avp_unlang.specs.declared.tree.Cond.TheOpen as layer
use Rattle.avp_unlang.specs.declared.tree.Cond.TheVariants.{Any, All, Not, Last, Present, PresentSelected, Compare, CompareMeant, CompareTexts, Match, MatchText, MatchGroup, Captured, rolls-Any, rolls-All, rolls-Not, rolls-Last, rolls-Present, rolls-PresentSelected, rolls-Compare, rolls-CompareMeant, rolls-CompareTexts, rolls-Match, rolls-MatchText, rolls-MatchGroup, rolls-Captured}
use Rattle.avp_unlang.proofs.Truths.{found_first}

module _ (dictionary : Dictionary) where
  pub evaluated_any : (cs : List Cond) (s : State) (c : Code) (captures : Captures) → evaluated dictionary (Any cs) s c captures ≡ any_evaluated (map (evaluated dictionary) cs) s c captures
  unfolding evaluated
  evaluated_any cs s c captures =
      ap (λ x. evaluated dictionary x s c captures) (sym (rolls-Any cs))
      ∙ ap (λ (e : Evaluation). e s c captures) (fold-roll-Cond Evaluation (cond_evaluated dictionary) (layer.Any cs))

  pub evaluated_all : (cs : List Cond) (s : State) (c : Code) (captures : Captures) → evaluated dictionary (All cs) s c captures ≡ all_evaluated (map (evaluated dictionary) cs) s c captures
  unfolding evaluated
  evaluated_all cs s c captures =
      ap (λ x. evaluated dictionary x s c captures) (sym (rolls-All cs))
      ∙ ap (λ (e : Evaluation). e s c captures) (fold-roll-Cond Evaluation (cond_evaluated dictionary) (layer.All cs))

  pub evaluated_not : (part : Cond) (s : State) (c : Code) (captures : Captures) → evaluated dictionary (Not part) s c captures ≡ negated (evaluated dictionary part s c captures)
  unfolding evaluated
  evaluated_not part s c captures =
      ap (λ x. evaluated dictionary x s c captures) (sym (rolls-Not part))
      ∙ ap (λ (e : Evaluation). e s c captures) (fold-roll-Cond Evaluation (cond_evaluated dictionary) (layer.Not part))

  pub evaluated_last : (word : Code) (s : State) (c : Code) (captures : Captures) → evaluated dictionary (Last word) s c captures ≡ decided (same_code c word) captures
  unfolding evaluated
  evaluated_last word s c captures =
      ap (λ x. evaluated dictionary x s c captures) (sym (rolls-Last word))
      ∙ ap (λ (e : Evaluation). e s c captures) (fold-roll-Cond Evaluation (cond_evaluated dictionary) (layer.Last word))

  pub evaluated_present : (list : Name) (id : AttrId) (s : State) (c : Code) (captures : Captures) → evaluated dictionary (Present list id) s c captures ≡ decided (is_some (first_instance id (list_of list s))) captures
  unfolding evaluated
  evaluated_present list id s c captures =
      ap (λ x. evaluated dictionary x s c captures) (sym (rolls-Present list id))
      ∙ ap (λ (e : Evaluation). e s c captures) (fold-roll-Cond Evaluation (cond_evaluated dictionary) (layer.Present list id))
      ∙ ap (λ b. decided b captures) (found_first id (list_of list s))

  pub evaluated_present_selected : (list : Name) (id : AttrId) (selection : Selection) (s : State) (c : Code) (captures : Captures) → evaluated dictionary (PresentSelected list id selection) s c captures ≡ decided (is_some (first_selected_instance selection id (list_of list s))) captures
  unfolding evaluated
  evaluated_present_selected list id selection s c captures =
      ap (λ x. evaluated dictionary x s c captures) (sym (rolls-PresentSelected list id selection))
      ∙ ap (λ (e : Evaluation). e s c captures) (fold-roll-Cond Evaluation (cond_evaluated dictionary) (layer.PresentSelected list id selection))

  pub evaluated_compare : (k : Comparison) (s : State) (c : Code) (captures : Captures) → evaluated dictionary (Compare k) s c captures ≡ decided (is_met k s) captures
  unfolding evaluated
  evaluated_compare k s c captures =
      ap (λ x. evaluated dictionary x s c captures) (sym (rolls-Compare k))
      ∙ ap (λ (e : Evaluation). e s c captures) (fold-roll-Cond Evaluation (cond_evaluated dictionary) (layer.Compare k))

  pub evaluated_compare_meant : (k : MeantComparison) (s : State) (c : Code) (captures : Captures) → evaluated dictionary (CompareMeant k) s c captures ≡ decided (is_met_by_meaning k s) captures
  unfolding evaluated
  evaluated_compare_meant k s c captures =
      ap (λ x. evaluated dictionary x s c captures) (sym (rolls-CompareMeant k))
      ∙ ap (λ (e : Evaluation). e s c captures) (fold-roll-Cond Evaluation (cond_evaluated dictionary) (layer.CompareMeant k))

  pub evaluated_match : (m : Matching) (s : State) (c : Code) (captures : Captures) → evaluated dictionary (Match m) s c captures ≡ decided (is_matched dictionary m s) (captures_after dictionary m s captures)
  unfolding evaluated
  evaluated_match m s c captures =
      ap (λ x. evaluated dictionary x s c captures) (sym (rolls-Match m))
      ∙ ap (λ (e : Evaluation). e s c captures) (fold-roll-Cond Evaluation (cond_evaluated dictionary) (layer.Match m))

  pub evaluated_compare_texts : (k : TextComparison) (s : State) (c : Code) (captures : Captures) → evaluated dictionary (CompareTexts k) s c captures ≡ decided (is_met_by_texts dictionary k s captures) captures
  unfolding evaluated
  evaluated_compare_texts k s c captures =
      ap (λ x. evaluated dictionary x s c captures) (sym (rolls-CompareTexts k))
      ∙ ap (λ (e : Evaluation). e s c captures) (fold-roll-Cond Evaluation (cond_evaluated dictionary) (layer.CompareTexts k))

  pub evaluated_match_text : (m : Matching) (s : State) (c : Code) (captures : Captures) → evaluated dictionary (MatchText m) s c captures ≡ decided (is_text_matched dictionary m s) (captures_after_text dictionary m s)
  unfolding evaluated
  evaluated_match_text m s c captures =
      ap (λ x. evaluated dictionary x s c captures) (sym (rolls-MatchText m))
      ∙ ap (λ (e : Evaluation). e s c captures) (fold-roll-Cond Evaluation (cond_evaluated dictionary) (layer.MatchText m))

  pub evaluated_match_group : (m : GroupMatching) (s : State) (c : Code) (captures : Captures) → evaluated dictionary (MatchGroup m) s c captures ≡ decided (is_group_matched m captures) (captures_after_group m captures)
  unfolding evaluated
  evaluated_match_group m s c captures =
      ap (λ x. evaluated dictionary x s c captures) (sym (rolls-MatchGroup m))
      ∙ ap (λ (e : Evaluation). e s c captures) (fold-roll-Cond Evaluation (cond_evaluated dictionary) (layer.MatchGroup m))

  pub evaluated_captured : (group : ℕ) (s : State) (c : Code) (captures : Captures) → evaluated dictionary (Captured group) s c captures ≡ decided (nat_lt 0 (length (captured group captures))) captures
  unfolding evaluated
  evaluated_captured group s c captures =
      ap (λ x. evaluated dictionary x s c captures) (sym (rolls-Captured group))
      ∙ ap (λ (e : Evaluation). e s c captures) (fold-roll-Cond Evaluation (cond_evaluated dictionary) (layer.Captured group))

-- ---- from left to right

module _ (first : Evaluation) (others : List Evaluation) (s : State) (c : Code) (before after : Captures) where
  pub any_met : decided true after ≡ first s c before → decided true after ≡ any_evaluated (first ∷ others) s c before
  any_met h = ap (λ (e : Evaluated). cond e.truth e (any_evaluated others s c e.captures)) h

  pub any_unmet : decided false after ≡ first s c before → any_evaluated others s c after ≡ any_evaluated (first ∷ others) s c before
  any_unmet h = ap (λ (e : Evaluated). cond e.truth e (any_evaluated others s c e.captures)) h

  pub all_unmet : decided false after ≡ first s c before → decided false after ≡ all_evaluated (first ∷ others) s c before
  all_unmet h = ap (λ (e : Evaluated). cond e.truth (all_evaluated others s c e.captures) e) h

  pub all_met : decided true after ≡ first s c before → all_evaluated others s c after ≡ all_evaluated (first ∷ others) s c before
  all_met h = ap (λ (e : Evaluated). cond e.truth (all_evaluated others s c e.captures) e) h
