-- A comparison under `!`.
use Rattle.std.proofs.Common.{◌≡◌, Bool, true, false, not, ◌&&◌, List, [], ◌∷◌, Some, None, refl, sym, ap, ◌∙◌, cond}
use Rattle.std.specs.List.{list_all, list_any}
use Rattle.std.specs.Option.{option_map}
use Rattle.avp_lists.specs.States.{empty_state, list_of}
use Rattle.avp_lists.specs.declared.lists.List.{List as Name}
use Rattle.avp_lists.specs.declared.lists.List.TheVariants.{Request, Reply, Control}
use Rattle.avp_lists.specs.declared.lists.State.{State}
use Rattle.avp_lists.specs.declared.pairs.AttrId.{AttrId}
use Rattle.avp_lists.specs.declared.tags.Selection.{Selection}
use Rattle.avp_lists.specs.Selections.{has_selected}
use Rattle.avp_dict.specs.Dictionary.{Dictionary}
use Rattle.avp_unlang.specs.Captures.{no_captures}
use Rattle.avp_unlang.specs.PatternTruth.{is_matched}
use Rattle.avp_unlang.specs.Texts.{is_met_by_texts}
use Rattle.avp_unlang.specs.Truth.{is_met, nothing_printed, printed_by, truth, truth_by}
use Rattle.avp_unlang.specs.declared.codes.Code.{Code}
use Rattle.avp_unlang.specs.declared.tree.Comparison.{Comparison}
use Rattle.avp_unlang.specs.declared.tree.Cond.{Cond}
use Rattle.avp_unlang.specs.declared.tree.Cond.TheFolds.{fold-roll-Cond}
use Rattle.avp_unlang.specs.declared.tree.Cond.TheOpen as layer
use Rattle.avp_unlang.specs.declared.tree.Cond.TheVariants.{Not, Compare, CompareTexts, Match, rolls-Not, rolls-Compare, rolls-CompareTexts, rolls-Match}
use Rattle.avp_unlang.specs.declared.tree.Matching.{Matching}
use Rattle.avp_unlang.specs.declared.tree.TextComparison.{TextComparison}
use Rattle.avp_unlang.proofs.Truths.{truth_by_compare_texts, truth_by_match, truth_by_not, truth_compare, truth_not}
use Rattle.policy_warnings.specs.Absences.{any_implies, negated, negated_comparison, negated_matching, negated_texts, said_of, warns_of_absence}
use Rattle.policy_warnings.specs.Answers.{Asked, answer_compared, cond_answer_with, is_true, server_answer, server_answer_by, server_truth, server_truth_by}
use Rattle.policy_warnings.specs.Mentions.{comparand_mentions, comparison_mentions, implies, is_there, matching_mentions, selected, side_mentions, whole}
use Rattle.policy_warnings.specs.declared.absences.Absence.{Absence}
use Rattle.policy_warnings.specs.declared.mentions.Mention.{Mention}
use Rattle.policy_warnings.proofs.Agreeing.{matched_looks, met_there, texts_there}
use Rattle.policy_warnings.proofs.Answered.{and_left, implies_same, or_left}
use Rattle.policy_warnings.proofs.Layers.{absence_compare, absence_compare_texts, absence_match, absence_not, mentions_compare, mentions_compare_texts, mentions_match, mentions_not}

answer_not : (d : Cond) (s : State) (c : Code) → server_answer (Not d) s c ≡ option_map not (server_answer d s c)
unfolding server_answer
answer_not d s c = ap (λ k. server_answer k s c) (sym (rolls-Not d)) ∙ ap (λ (f : Asked). f s c) (fold-roll-Cond Asked (cond_answer_with nothing_printed) (layer.Not d))

answer_compare : (k : Comparison) (s : State) (c : Code) → server_answer (Compare k) s c ≡ answer_compared (comparison_mentions k) s (is_met k s)
unfolding server_answer
answer_compare k s c = ap (λ x. server_answer x s c) (sym (rolls-Compare k)) ∙ ap (λ (f : Asked). f s c) (fold-roll-Cond Asked (cond_answer_with nothing_printed) (layer.Compare k))

overlooks_implied : (k : Comparison) (m : Mention) → (said_of m (negated_comparison k)).overlooked_when_true ≡ any_implies (comparison_mentions k) m
overlooks_implied k m = ap (λ (a : Absence). a.overlooked_when_true) (absence_not m (Compare k) ∙ ap negated (absence_compare m k))

pub warned : (k : Comparison) → warns_of_absence (negated_comparison k) ≡ true
warned k =
    let m = whole k.list k.id in
    let missed = λ (x : Mention). (said_of x (negated_comparison k)).overlooked_when_true in
    ap (λ ms. list_any missed ms) (mentions_not (Compare k) ∙ mentions_compare k)
    ∙ or_left (missed m) (list_any missed (comparand_mentions k.comparand))
    (overlooks_implied k m ∙ or_left (implies m m) (any_implies (comparand_mentions k.comparand) m) (implies_same m))

unmet : (met there others : Bool) → (met ≡ true → (there && others) ≡ true) → there ≡ false → met ≡ false
unmet true there others f e = sym (and_left there others (f refl)) ∙ e
unmet false there others f e = refl

pub differ : (k : Comparison) (s : State) (c : Code) → is_there s (whole k.list k.id) ≡ false → (truth (negated_comparison k) s c ≡ true) × (server_truth (negated_comparison k) s c ≡ false)
differ k s c absent =
    let others = list_all (is_there s) (comparand_mentions k.comparand) in (
      truth_not (Compare k) s c ∙ ap not (truth_compare k s c ∙ unmet (is_met k s) (is_there s (whole k.list k.id)) others (met_there k s) absent),
      ap is_true (answer_not (Compare k) s c ∙ ap (option_map not) (answer_compare k s c
          ∙ ap (λ b. cond (b && others) (Some (is_met k s)) None) absent)),
    )

-- ---- of one with a pattern

answer_by_not : (dictionary : Dictionary) (d : Cond) (s : State) (c : Code) → server_answer_by dictionary (Not d) s c ≡ option_map not (server_answer_by dictionary d s c)
unfolding server_answer_by
answer_by_not dictionary d s c =
    ap (λ k. server_answer_by dictionary k s c) (sym (rolls-Not d)) ∙ ap (λ (f : Asked). f s c) (fold-roll-Cond Asked (cond_answer_with (printed_by dictionary)) (layer.Not d))

answer_by_match : (dictionary : Dictionary) (k : Matching) (s : State) (c : Code) → server_answer_by dictionary (Match k) s c ≡ answer_compared (matching_mentions k) s (is_matched dictionary k s)
unfolding server_answer_by
answer_by_match dictionary k s c =
    ap (λ x. server_answer_by dictionary x s c) (sym (rolls-Match k)) ∙ ap (λ (f : Asked). f s c) (fold-roll-Cond Asked (cond_answer_with (printed_by dictionary)) (layer.Match k))

pub matching_warned : (k : Matching) → warns_of_absence (negated_matching k) ≡ true
matching_warned k =
    let m = selected k.list k.id k.selection in
    let missed = λ (x : Mention). (said_of x (negated_matching k)).overlooked_when_true in
    let implied : missed m ≡ any_implies (matching_mentions k) m =
    ap (λ (a : Absence). a.overlooked_when_true) (absence_not m (Match k) ∙ ap negated (absence_match m k)) in
    ap (λ ms. list_any missed ms) (mentions_not (Match k) ∙ mentions_match k)
    ∙ or_left (missed m) false (implied ∙ or_left (implies m m) false (implies_same m))

unmatched : (met there : Bool) → (met ≡ true → there ≡ true) → there ≡ false → met ≡ false
unmatched true there f e = sym (f refl) ∙ e
unmatched false there f e = refl

pub matching_differ : (d : Dictionary) (k : Matching) (s : State) (c : Code) → is_there s (selected k.list k.id k.selection) ≡ false →
    (truth_by d (negated_matching k) s c ≡ true) × (server_truth_by d (negated_matching k) s c ≡ false)
matching_differ d k s c absent =
    let there = is_there s (selected k.list k.id k.selection) in (
      truth_by_not d (Match k) s c ∙ ap not (truth_by_match d k s c ∙ unmatched (is_matched d k s) there (matched_looks d k s) absent),
      ap is_true (answer_by_not d (Match k) s c ∙ ap (option_map not) (answer_by_match d k s c
          ∙ ap (λ b. cond (b && true) (Some (is_matched d k s)) None) absent)),
    )

-- ---- of one with a text

answer_by_compare_texts : (dictionary : Dictionary) (k : TextComparison) (s : State) (c : Code) → server_answer_by dictionary (CompareTexts k) s c ≡ answer_compared (side_mentions k.left) s (is_met_by_texts dictionary k s no_captures)
unfolding server_answer_by
answer_by_compare_texts dictionary k s c =
    ap (λ x. server_answer_by dictionary x s c) (sym (rolls-CompareTexts k)) ∙ ap (λ (f : Asked). f s c) (fold-roll-Cond Asked (cond_answer_with (printed_by dictionary)) (layer.CompareTexts k))

pub texts_warned : (k : TextComparison) (m : Mention) → side_mentions k.left ≡ m ∷ [] → warns_of_absence (negated_texts k) ≡ true
texts_warned k m side =
    let missed = λ (x : Mention). (said_of x (negated_texts k)).overlooked_when_true in
    let implied : missed m ≡ any_implies (m ∷ []) m =
    ap (λ (a : Absence). a.overlooked_when_true) (absence_not m (CompareTexts k) ∙ ap negated (absence_compare_texts m k)) ∙ ap (λ ms. any_implies ms m) side in
    ap (λ ms. list_any missed ms) (mentions_not (CompareTexts k) ∙ mentions_compare_texts k ∙ side)
    ∙ or_left (missed m) false (implied ∙ or_left (implies m m) false (implies_same m))

pub texts_differ : (d : Dictionary) (k : TextComparison) (m : Mention) (s : State) (c : Code) → side_mentions k.left ≡ m ∷ [] → is_there s m ≡ false →
    (truth_by d (negated_texts k) s c ≡ true) × (server_truth_by d (negated_texts k) s c ≡ false)
texts_differ d k m s c side absent =
    let met = is_met_by_texts d k s no_captures in (
      truth_by_not d (CompareTexts k) s c ∙ ap not (truth_by_compare_texts d k s c
          ∙ unmet met (is_there s m) true (λ h. ap (λ ms. list_all (is_there s) ms) (sym side) ∙ texts_there d no_captures k s h) absent),
      ap is_true (answer_by_not d (CompareTexts k) s c ∙ ap (option_map not) (answer_by_compare_texts d k s c
          ∙ ap (λ ms. answer_compared ms s met) side ∙ ap (λ b. cond (b && true) (Some met) None) absent)),
    )

none_selected : (list : Name) (selection : Selection) (id : AttrId) → has_selected selection id (list_of list empty_state) ≡ false
none_selected Request selection id = refl
none_selected Reply selection id = refl
none_selected Control selection id = refl

pub lacks : (m : Mention) → is_there empty_state m ≡ false
lacks m = none_selected m.list m.selection m.id
