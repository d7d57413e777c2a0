-- A condition that captures nothing, or does not look at what was captured, comes to the same when it is asked once more.
use Rattle.std.proofs.Common.{◌≡◌, Bool, true, false, not, ◌||◌, Option, Some, None, IsTrue, refl, sym, ap, ◌∙◌, cond, true≢false}
use Rattle.std.specs.List.{list_any}
use Rattle.std.specs.Option.{option_map, option_map_or}
use Rattle.avp_lists.specs.declared.pairs.Pair.{Pair}
use Rattle.avp_lists.specs.declared.lists.State.{State}
use Rattle.avp_dict.specs.Dictionary.{Dictionary}
use Rattle.avp_unlang.specs.Captures.{Captures, captures_after, captures_in, no_captures}
use Rattle.avp_unlang.specs.Evaluations.{cond_layer_captures, cond_uses_captures, is_capture, side_has_captures}
use Rattle.avp_unlang.specs.PatternTruth.{instance_in, pattern_in}
use Rattle.avp_unlang.specs.Resolutions.{meaning_put}
use Rattle.avp_unlang.specs.Texts.{captures_after_text, is_met_by_texts}
use Rattle.avp_unlang.specs.Truth.{printed_by}
use Rattle.avp_unlang.specs.declared.codes.Code.{Code}
use Rattle.avp_unlang.specs.declared.tree.Cond.TheFolds.{fold-roll-Cond}
use Rattle.avp_unlang.specs.declared.tree.Cond.TheOpen as layer
use Rattle.avp_unlang.specs.declared.tree.Cond.TheVariants as ours
use Rattle.avp_unlang.specs.declared.tree.Matching.{Matching}
use Rattle.avp_unlang.specs.declared.tree.TextComparison.{TextComparison}
use Rattle.avp_unlang.proofs.CaptureFree.{evaluated_truth, or_left, or_right}
use Rattle.avp_unlang.proofs.EvaluatedConds.{evaluated_compare_texts}
use Rattle.avp_unlang.proofs.Truths.{truth_by_compare_texts}
use Rattle.radpolicy_import_conditions.specs.Capturing.{Answered, answered, both_answered, denied, either_answered, has_pattern, is_repeatable, unchanged, uses_captures}
use Rattle.radpolicy_import_conditions.specs.Conditions.{Answer, answer_with, answer_both, answer_either, is_false, is_side_there, is_true}
use Rattle.radpolicy_import_conditions.specs.declared.server_conditions.ServerCondition.{ServerCondition, Constant, Last, Present, Compare, Match, CompareTexts, MatchText, MatchGroup, Captured, Not', And', Or'}

-- ---- one that captures nothing

kept_by : (b : Bool) (x y : Answered) (k : Captures) → x.captures ≡ k → y.captures ≡ k → (cond b x y).captures ≡ k
kept_by true x y k e f = e
kept_by false x y k e f = f

quiet : (condition : ServerCondition) → has_pattern condition ≡ false → (d : Dictionary) (s : State) (c : Code) (k : Captures)
    → (answered d condition s c k).captures ≡ k
quiet (Constant value) h d s c k = refl
quiet (Last word) h d s c k = refl
quiet (Present list id) h d s c k = refl
quiet (Compare comparison) h d s c k = refl
quiet (Match matching) h d s c k = absurd (true≢false h)
quiet (CompareTexts comparison) h d s c k = refl
quiet (MatchText matching) h d s c k = absurd (true≢false h)
quiet (MatchGroup matching) h d s c k = absurd (true≢false h)
quiet (Captured group) h d s c k = refl
quiet (Not' p inner) h d s c k = quiet inner h d s c k
quiet (And' p first q next) h d s c k =
    let a = answered d first s c k in
    kept_by (is_true a.answer) (answered d next s c a.captures) a k
    (quiet next (or_right _ _ h) d s c a.captures ∙ quiet first (or_left _ _ h) d s c k) (quiet first (or_left _ _ h) d s c k)
quiet (Or' p first q next) h d s c k =
    let a = answered d first s c k in
    kept_by (is_false a.answer) (answered d next s c a.captures) a k
    (quiet next (or_right _ _ h) d s c a.captures ∙ quiet first (or_left _ _ h) d s c k) (quiet first (or_left _ _ h) d s c k)

-- ---- one that does not look at what was captured

-- what it captures last
abbrev later : Option Captures → Option Captures → Option Captures
later None first = first
later (Some captures) first = Some captures

abbrev last_captured : Dictionary → ServerCondition → State → Code → Option Captures
last_captured d (Match matching) s c =
    option_map (λ pair. captures_in (pattern_in matching) (meaning_put d pair)) (instance_in matching s)
last_captured d (MatchText matching) s c = Some (captures_after_text d matching s)
last_captured d (Not' p inner) s c = last_captured d inner s c
last_captured d (And' p first q next) s c =
    cond (is_true (answer_with (printed_by d) first s c)) (later (last_captured d next s c) (last_captured d first s c))
    (last_captured d first s c)
last_captured d (Or' p first q next) s c =
    cond (is_false (answer_with (printed_by d) first s c)) (later (last_captured d next s c) (last_captured d first s c))
    (last_captured d first s c)
last_captured d _ s c = None

abbrev after : Option Captures → Captures → Captures
after found k = option_map_or (λ captures. captures) found k

later_after : (x y : Option Captures) (k : Captures) → after x (after y k) ≡ after (later x y) k
later_after None y k = refl
later_after (Some captures) y k = refl

again : (x : Option Captures) (k : Captures) → after x (after x k) ≡ after x k
again None k = refl
again (Some captures) k = refl

mapped_after : (f : Pair → Captures) (o : Option Pair) (k : Captures) → option_map_or f o k ≡ after (option_map f o) k
mapped_after f None k = refl
mapped_after f (Some pair) k = refl

found_after : (d : Dictionary) (m : Matching) (s : State) (k : Captures) → captures_after d m s k
    ≡ after (option_map (λ pair. captures_in (pattern_in m) (meaning_put d pair)) (instance_in m s)) k
unfolding captures_after
found_after d m s k = mapped_after (λ pair. captures_in (pattern_in m) (meaning_put d pair)) (instance_in m s) k

both_steady : (a b : Answer) (x y : Option Captures) (k : Captures)
    → cond (is_true a) (unchanged b (after y (after x k))) (unchanged a (after x k))
    ≡ unchanged (answer_both a b) (after (cond (is_true a) (later y x) x) k)
both_steady None b x y k = refl
both_steady (Some true) b x y k = ap (unchanged b) (later_after y x k)
both_steady (Some false) b x y k = refl

either_steady : (a b : Answer) (x y : Option Captures) (k : Captures)
    → cond (is_false a) (unchanged b (after y (after x k))) (unchanged a (after x k))
    ≡ unchanged (answer_either a b) (after (cond (is_false a) (later y x) x) k)
either_steady None b x y k = refl
either_steady (Some true) b x y k = refl
either_steady (Some false) b x y k = ap (unchanged b) (later_after y x k)

-- texts into which nothing is put that was captured
uses_of : (k : TextComparison) → cond_uses_captures (ours.CompareTexts k) ≡ (side_has_captures k.left || list_any is_capture k.right)
unfolding cond_uses_captures
uses_of k =
    ap (λ x. cond_uses_captures x) (sym (ours.rolls-CompareTexts k)) ∙ fold-roll-Cond Bool cond_layer_captures (layer.CompareTexts k)

met_alike : (d : Dictionary) (k : TextComparison) (s : State) (c : Code) (captures : Captures)
    → (side_has_captures k.left || list_any is_capture k.right) ≡ false → is_met_by_texts d k s captures ≡ is_met_by_texts d k s no_captures
met_alike d k s c captures h =
    sym (ap (λ e. e.truth) (evaluated_compare_texts d k s c captures))
    ∙ evaluated_truth d s c (ours.CompareTexts k) (uses_of k ∙ h) captures ∙ truth_by_compare_texts d k s c

steady : (condition : ServerCondition) → uses_captures condition ≡ false → (d : Dictionary) (s : State) (c : Code) (k : Captures)
    → answered d condition s c k ≡ unchanged (answer_with (printed_by d) condition s c) (after (last_captured d condition s c) k)
steady (Constant value) h d s c k = refl
steady (Last word) h d s c k = refl
steady (Present list id) h d s c k = refl
steady (Compare comparison) h d s c k = refl
steady (Match matching) h d s c k = ap (unchanged (answer_with (printed_by d) (Match matching) s c)) (found_after d matching s k)
steady (CompareTexts comparison) h d s c k =
    ap (λ b. unchanged (cond (is_side_there comparison.left s) (Some b) None) k) (met_alike d comparison s c k h)
steady (MatchText matching) h d s c k = refl
steady (MatchGroup matching) h d s c k = absurd (true≢false h)
steady (Captured group) h d s c k = absurd (true≢false h)
steady (Not' p inner) h d s c k = ap denied (steady inner h d s c k)
steady (And' p first q next) h d s c k =
    let a = answer_with (printed_by d) first s c in
    let x = last_captured d first s c in
    ap (λ e. both_answered e (answered d next s c)) (steady first (or_left _ _ h) d s c k)
    ∙ ap (λ e. cond (is_true a) e (unchanged a (after x k))) (steady next (or_right _ _ h) d s c (after x k))
    ∙ both_steady a (answer_with (printed_by d) next s c) x (last_captured d next s c) k
steady (Or' p first q next) h d s c k =
    let a = answer_with (printed_by d) first s c in
    let x = last_captured d first s c in
    ap (λ e. either_answered e (answered d next s c)) (steady first (or_left _ _ h) d s c k)
    ∙ ap (λ e. cond (is_false a) e (unchanged a (after x k))) (steady next (or_right _ _ h) d s c (after x k))
    ∙ either_steady a (answer_with (printed_by d) next s c) x (last_captured d next s c) k

-- ---- either

repeated_by : (b e : Bool) (condition : ServerCondition) → has_pattern condition ≡ b → uses_captures condition ≡ e → IsTrue (not b || not e)
    → (d : Dictionary) (s : State) (c : Code) (k : Captures)
    → answered d condition s c (answered d condition s c k).captures ≡ answered d condition s c k
repeated_by false e condition is_quiet f h d s c k = ap (λ after. answered d condition s c after) (quiet condition is_quiet d s c k)
repeated_by true false condition g is_steady h d s c k =
    let a = answer_with (printed_by d) condition s c in
    let x = last_captured d condition s c in
    let now = steady condition is_steady d s c in
    ap (λ e. answered d condition s c e.captures) (now k) ∙ now (after x k) ∙ ap (unchanged a) (again x k) ∙ sym (now k)
repeated_by true true condition f g h d s c k = absurd (true≢false (sym h))

pub repeated : (condition : ServerCondition) → IsTrue (is_repeatable condition) → (d : Dictionary) (s : State) (c : Code) (k : Captures)
    → answered d condition s c (answered d condition s c k).captures ≡ answered d condition s c k
repeated condition h d s c k = repeated_by (has_pattern condition) (uses_captures condition) condition refl refl h d s c k
