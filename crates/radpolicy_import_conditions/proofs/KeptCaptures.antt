-- Our conditions capture what a server's do.
use Rattle.std.proofs.Common.{◌≡◌, Bool, true, false, not, ◌&&◌, ◌||◌, [], ◌∷◌, Option, Some, None, IsTrue, refl, sym, ap, ◌∙◌, cond, is_some, true≢false}
use Rattle.std.specs.Option.{option_map, option_map_or}
use Rattle.avp_lists.specs.Instances.{has_instance}
use Rattle.avp_lists.specs.Selections.{has_selected}
use Rattle.avp_lists.specs.States.{list_of}
use Rattle.avp_lists.specs.Tags.{is_selected}
use Rattle.avp_lists.specs.declared.lists.List.{List as Name}
use Rattle.avp_lists.specs.declared.lists.List.TheVariants.{Request, Reply, Control}
use Rattle.avp_lists.specs.declared.lists.State.{State}
use Rattle.avp_lists.specs.declared.pairs.AttrId.{AttrId}
use Rattle.avp_lists.specs.declared.pairs.Pair.{Pair}
use Rattle.avp_lists.specs.declared.tags.Selection.{Selection}
use Rattle.avp_lists.specs.declared.tags.Selection.TheVariants as selection
use Rattle.avp_lists.proofs.Equality.{same_id}
use Rattle.avp_dict.specs.Dictionary.{Dictionary}
use Rattle.avp_unlang.specs.Captures.{Captures, captures_after, captures_in}
use Rattle.avp_unlang.specs.Evaluations.{Evaluated, decided, evaluated, negated}
use Rattle.avp_unlang.specs.PatternTruth.{instance_in, is_matched, pattern_in}
use Rattle.avp_unlang.specs.Resolutions.{meaning_put}
use Rattle.avp_unlang.specs.Texts.{captures_after_group, captures_after_text, is_group_matched, is_met_by_texts, is_text_matched}
use Rattle.avp_unlang.specs.Truth.{compared_with, first_value, same_code}
use Rattle.avp_unlang.specs.declared.codes.Code.{Code}
use Rattle.avp_unlang.specs.declared.codes.Code.TheVariants.{Ok}
use Rattle.avp_unlang.specs.declared.tree.Comparand.{Comparand}
use Rattle.avp_unlang.specs.declared.tree.Comparand.TheVariants.{Literal, Instance}
use Rattle.avp_unlang.specs.declared.tree.Comparison.{Comparison}
use Rattle.avp_unlang.specs.declared.tree.Cond.{Cond}
use Rattle.avp_unlang.specs.declared.tree.Cond.TheVariants as ours
use Rattle.avp_unlang.specs.declared.tree.Matching.{Matching}
use Rattle.avp_unlang.specs.declared.tree.TextComparison.{TextComparison}
use Rattle.avp_unlang.specs.declared.tree.TextSide.{TextSide}
use Rattle.avp_unlang.specs.declared.tree.TextSide.TheVariants as side
use Rattle.avp_unlang.proofs.EvaluatedConds.{evaluated_all, evaluated_any, evaluated_captured, evaluated_compare, evaluated_compare_texts, evaluated_last, evaluated_match, evaluated_match_group, evaluated_match_text, evaluated_not, evaluated_present, evaluated_present_selected}
use Rattle.avp_unlang.proofs.Truths.{found_first}
use Rattle.radpolicy_import_conditions.specs.Capturing.{Answered, answered, both_answered, either_answered, is_repeatable, keeps_captures, server_evaluated, taken, unchanged}
use Rattle.radpolicy_import_conditions.specs.Conditions.{Answer, comparison_answer, is_false, is_side_there, is_true, matching_answer, texts_answer}
use Rattle.radpolicy_import_conditions.specs.internal.Rewriting.{always, before_selected, before_sides, both, both_sides, captures_with, differs, either, either_guarded, guard, guard_of, guard_of_and, implies_present, is_certain, is_right, is_same, is_same_list, is_text, is_there, mismatches, never, present_before, rewritten_as, selected, sides, texts_differ, with_side}
use Rattle.radpolicy_import_conditions.specs.declared.server_conditions.ServerCondition.{ServerCondition, Constant, Last, Present, Compare, Match, CompareTexts, MatchText, MatchGroup, Captured, Not', And', Or'}
use Rattle.radpolicy_import_conditions.proofs.Repeated.{repeated}
use Rattle.radpolicy_import_conditions.proofs.Truths.{answer_instance, answer_literal, false_not, found_selected, is_answered, left_present, matched_present, matched_there, met_by, moved_present, related, right_present, selected_instance, some_answered, texts_there, true_not}

and_left : (a b : Bool) → IsTrue (a && b) → IsTrue a
and_left true b h = refl
and_left false b h = h

and_right : (a b : Bool) → IsTrue (a && b) → IsTrue b
and_right true b h = h
and_right false b h = absurd (true≢false (sym h))

-- whether the answer is false, and what was captured by then
abbrev refused : Answered → Evaluated
refused a = decided (is_false a.answer) a.captures

abbrev told : Bool → Answered → Evaluated
told true a = taken a
told false a = refused a

-- ---- two of our conditions

abbrev where_true : Evaluated → (Captures → Evaluated) → Evaluated
where_true e next = cond e.truth (next e.captures) e

abbrev where_false : Evaluated → (Captures → Evaluated) → Evaluated
where_false e next = cond e.truth e (next e.captures)

ended_all : (b : Bool) (k : Captures) → cond b (decided true k) (decided b k) ≡ decided b k
ended_all true k = refl
ended_all false k = refl

ended_any : (b : Bool) (k : Captures) → cond b (decided b k) (decided false k) ≡ decided b k
ended_any true k = refl
ended_any false k = refl

module _ (d : Dictionary) (s : State) (c : Code) where
  abbrev Eval : Cond → Captures → Evaluated
  Eval x k = evaluated d x s c k

  both_here : (x y : Cond) (k : Captures) → Eval (both x y) k ≡ where_true (Eval x k) (Eval y)
  both_here x y k =
      let e = Eval x k in
      let f = Eval y e.captures in
      evaluated_all d (x ∷ y ∷ []) s c k ∙ ap (λ t. cond e.truth t e) (ended_all f.truth f.captures)

  either_here : (x y : Cond) (k : Captures) → Eval (either x y) k ≡ where_false (Eval x k) (Eval y)
  either_here x y k =
      let e = Eval x k in
      let f = Eval y e.captures in
      evaluated_any d (x ∷ y ∷ []) s c k ∙ ap (λ t. cond e.truth e t) (ended_any f.truth f.captures)

  -- both, by what the first comes to and what the second does then
  both_by : (x y : Cond) (k : Captures) (e : Evaluated) (next : Evaluated) → Eval x k ≡ e → Eval y e.captures ≡ next
      → Eval (both x y) k ≡ cond e.truth next e
  both_by x y k e next first then =
      both_here x y k ∙ ap (λ (t : Evaluated). where_true t (Eval y)) first ∙ ap (λ t. cond e.truth t e) then

  either_by : (x y : Cond) (k : Captures) (e : Evaluated) (next : Evaluated) → Eval x k ≡ e → Eval y e.captures ≡ next
      → Eval (either x y) k ≡ cond e.truth e next
  either_by x y k e next first then =
      either_here x y k ∙ ap (λ (t : Evaluated). where_false t (Eval y)) first ∙ ap (λ t. cond e.truth e t) then

  not_by : (x : Cond) (k : Captures) (e : Evaluated) → Eval x k ≡ e → Eval (ours.Not x) k ≡ negated e
  not_by x k e h = evaluated_not d x s c k ∙ ap negated h

  -- ---- those that capture nothing

  last_here : (word : Code) (k : Captures) → Eval (ours.Last word) k ≡ decided (same_code c word) k
  last_here word k = evaluated_last d word s c k

  always_by : (b : Bool) (k : Captures) → cond b (decided b k) (decided (not b) k) ≡ decided true k
  always_by true k = refl
  always_by false k = refl

  never_by : (b : Bool) (k : Captures) → cond b (decided (not b) k) (decided b k) ≡ decided false k
  never_by true k = refl
  never_by false k = refl

  always_here : (k : Captures) → Eval always k ≡ decided true k
  always_here k =
      let b = same_code c Ok in
      either_by (ours.Last Ok) (ours.Not (ours.Last Ok)) k (decided b k) (decided (not b) k) (last_here Ok k)
      (not_by (ours.Last Ok) k (decided b k) (last_here Ok k))
      ∙ always_by b k

  never_here : (k : Captures) → Eval never k ≡ decided false k
  never_here k =
      let b = same_code c Ok in
      both_by (ours.Last Ok) (ours.Not (ours.Last Ok)) k (decided b k) (decided (not b) k) (last_here Ok k)
      (not_by (ours.Last Ok) k (decided b k) (last_here Ok k))
      ∙ never_by b k

  present_here : (list : Name) (id : AttrId) (k : Captures) → Eval (ours.Present list id) k ≡ decided (has_instance id (list_of list s)) k
  present_here list id k =
      evaluated_present d list id s c k ∙ ap (λ b. decided b k) (sym (found_first id (list_of list s)))

  some_here : (list : Name) (id : AttrId) (which : Selection) (k : Captures)
      → Eval (ours.PresentSelected list id which) k ≡ decided (has_selected which id (list_of list s)) k
  some_here list id which k =
      evaluated_present_selected d list id which s c k ∙ ap (λ b. decided b k) (sym (found_selected (is_selected which id) (list_of list s)))

  selected_here : (list : Name) (id : AttrId) (which : Selection) (k : Captures)
      → Eval (selected list id which) k ≡ decided (has_selected which id (list_of list s)) k
  selected_here list id selection.All k = present_here list id k
  selected_here list id which k = some_here list id which k

  compared_here : (k : Comparison) (captures : Captures) → Eval (ours.Compare k) captures ≡ decided (is_true (comparison_answer k s)) captures
  compared_here k captures =
      evaluated_compare d k s c captures
      ∙ ap (λ b. decided b captures) (related k.kind k.relation (first_value k.list k.id s) (compared_with k.comparand s))

  both_present : (a b : Bool) (k : Captures) → cond a (decided b k) (decided a k) ≡ decided (a && b) k
  both_present true b k = refl
  both_present false b k = refl

  sides_by : (w : Comparand) (k : Comparison) → k.comparand ≡ w → (captures : Captures)
      → Eval (sides k.list k.id w) captures ≡ decided (is_some (comparison_answer k s)) captures
  sides_by (Literal value) k h captures =
      present_here k.list k.id captures ∙ ap (λ b. decided b captures) (sym (answer_literal k value s h))
  sides_by (Instance list id) k h captures =
      let a = has_instance k.id (list_of k.list s) in
      let b = has_instance id (list_of list s) in
      both_by (ours.Present k.list k.id) (ours.Present list id) captures (decided a captures) (decided b captures)
      (present_here k.list k.id captures) (present_here list id captures)
      ∙ both_present a b captures ∙ ap (λ t. decided t captures) (sym (answer_instance k list id s h))

  differs_by : (a : Answer) (k : Captures) → cond (is_some a) (decided (not (is_true a)) k) (decided (is_some a) k) ≡ decided (is_false a) k
  differs_by None k = refl
  differs_by (Some b) k = refl

  differs_here : (k : Comparison) (captures : Captures) → Eval (differs k) captures ≡ decided (is_false (comparison_answer k s)) captures
  differs_here k captures =
      let a = comparison_answer k s in
      both_by (both_sides k) (ours.Not (ours.Compare k)) captures (decided (is_some a) captures) (decided (not (is_true a)) captures)
      (sides_by k.comparand k refl captures)
      (not_by (ours.Compare k) captures (decided (is_true a) captures) (compared_here k captures))
      ∙ differs_by a captures

  -- ---- comparisons with patterns

  matched_here : (m : Matching) (k : Captures) → Eval (ours.Match m) k ≡ decided (is_true (matching_answer (is_matched d) m s)) (captures_after d m s k)
  matched_here m k =
      evaluated_match d m s c k
      ∙ ap (λ b. decided b (captures_after d m s k))
      (is_answered (has_selected m.selection m.id (list_of m.list s)) (is_matched d m s) (matched_there d m s))

  nothing_found : (f : Pair → Captures) (o : Option Pair) (k : Captures) → is_some o ≡ false → option_map_or f o k ≡ k
  nothing_found f None k h = refl
  nothing_found f (Some pair) k h = absurd (true≢false h)

  -- of an absent attribute nothing is captured
  stays : (m : Matching) (k : Captures) → has_selected m.selection m.id (list_of m.list s) ≡ false → captures_after d m s k ≡ k
  unfolding captures_after
  stays m k h =
      nothing_found (λ pair. captures_in (pattern_in m) (meaning_put d pair)) (instance_in m s) k
      (sym (found_selected (is_selected m.selection m.id) (list_of m.list s)) ∙ h)

  mismatched_by : (there : Bool) (met : Bool) (k after : Captures) → (there ≡ false → after ≡ k)
      → cond there (decided (not (is_true (cond there (Some met) None))) after) (decided there k)
      ≡ decided (is_false (cond there (Some met) None)) after
  mismatched_by true met k after h = refl
  mismatched_by false met k after h = ap (decided false) (sym (h refl))

  mismatched_here : (m : Matching) (k : Captures) → Eval (mismatches m) k ≡ refused (unchanged (matching_answer (is_matched d) m s) (captures_after d m s k))
  mismatched_here m k =
      let there = has_selected m.selection m.id (list_of m.list s) in
      let a = matching_answer (is_matched d) m s in
      both_by (is_there m) (ours.Not (ours.Match m)) k (decided there k) (decided (not (is_true a)) (captures_after d m s k))
      (selected_here m.list m.id m.selection k)
      (not_by (ours.Match m) k (decided (is_true a) (captures_after d m s k)) (matched_here m k))
      ∙ mismatched_by there (is_matched d m s) k (captures_after d m s k) (stays m k)

  -- ---- comparisons of texts

  abbrev texts-answer-of : TextComparison → Captures → Answer
  texts-answer-of k captures = texts_answer (λ texts state. is_met_by_texts d texts state captures) k s

  texts_here : (k : TextComparison) (captures : Captures) → Eval (ours.CompareTexts k) captures ≡ decided (is_true (texts-answer-of k captures)) captures
  texts_here k captures =
      evaluated_compare_texts d k s c captures
      ∙ ap (λ b. decided b captures) (is_answered (is_side_there k.left s) (is_met_by_texts d k s captures) (texts_there d captures k s))

  side_by : (there : Bool) (met : Bool) (k : Captures)
      → cond there (decided (not met) k) (decided there k) ≡ decided (is_false (cond there (Some met) None)) k
  side_by true met k = refl
  side_by false met k = refl

  with_side_here : (left : TextSide) (x : Cond) (met : Bool) (k : Captures) → Eval x k ≡ decided (not met) k
      → Eval (with_side left x) k ≡ decided (is_false (cond (is_side_there left s) (Some met) None)) k
  with_side_here (side.Text parts) x met k h = h
  with_side_here (side.Instance list id selection) x met k h =
      let there = has_selected selection id (list_of list s) in
      both_by (selected list id selection) x k (decided there k) (decided (not met) k) (selected_here list id selection k) h
      ∙ side_by there met k

  texts_differ_here : (k : TextComparison) (captures : Captures) → Eval (texts_differ k) captures ≡ decided (is_false (texts-answer-of k captures)) captures
  texts_differ_here k captures =
      let met = is_met_by_texts d k s captures in
      with_side_here k.left (ours.Not (ours.CompareTexts k)) met captures
      (not_by (ours.CompareTexts k) captures (decided met captures) (evaluated_compare_texts d k s c captures))

  texts_certain : (left : TextSide) (met : Bool) → IsTrue (is_text left) → is_some (cond (is_side_there left s) (Some met) None) ≡ true
  texts_certain (side.Text parts) met h = refl
  texts_certain (side.Instance list id selection) met h = absurd (true≢false (sym h))

  -- ---- what conditions imply

  abbrev Answer-of : ServerCondition → Captures → Answered
  Answer-of condition k = answered d condition s c k

  some_first : (b : Bool) (x y : Answered) → is_some x.answer ≡ true → is_some y.answer ≡ true → is_some (cond b x y).answer ≡ true
  some_first true x y e f = e
  some_first false x y e f = f

  some_not : (a : Answer) → is_some a ≡ true → is_some (option_map not a) ≡ true
  some_not None h = h
  some_not (Some b) h = refl

  certain : (condition : ServerCondition) → IsTrue (is_certain condition) → (k : Captures) → is_some (Answer-of condition k).answer ≡ true
  certain (Constant value) h k = refl
  certain (Last word) h k = refl
  certain (Present list id) h k = refl
  certain (Compare comparison) h k = absurd (true≢false (sym h))
  certain (Match matching) h k = absurd (true≢false (sym h))
  certain (CompareTexts comparison) h k = texts_certain comparison.left (is_met_by_texts d comparison s k) h
  certain (MatchText matching) h k = refl
  certain (MatchGroup matching) h k = refl
  certain (Captured group) h k = refl
  certain (Not' p inner) h k = some_not (Answer-of inner k).answer (certain inner h k)
  certain (And' p first q next) h k =
      let a = Answer-of first k in
      some_first (is_true a.answer) (Answer-of next a.captures) a (certain next (and_right _ _ h) a.captures) (certain first (and_left _ _ h) k)
  certain (Or' p first q next) h k =
      let a = Answer-of first k in
      some_first (is_false a.answer) (Answer-of next a.captures) a (certain next (and_right _ _ h) a.captures) (certain first (and_left _ _ h) k)

  same_list : (list other : Name) → IsTrue (is_same_list list other) → list ≡ other
  same_list Request Request h = refl
  same_list Request Reply h = absurd (true≢false (sym h))
  same_list Request Control h = absurd (true≢false (sym h))
  same_list Reply Request h = absurd (true≢false (sym h))
  same_list Reply Reply h = refl
  same_list Reply Control h = absurd (true≢false (sym h))
  same_list Control Request h = absurd (true≢false (sym h))
  same_list Control Reply h = absurd (true≢false (sym h))
  same_list Control Control h = refl

  module _ (list : Name) (id : AttrId) where
    abbrev IsHere : Type 0
    IsHere = IsTrue (has_instance id (list_of list s))

    right_here : (w : Comparand) (k : Comparison) → k.comparand ≡ w → IsTrue (is_right w list id) → IsTrue (is_true (comparison_answer k s)) → IsHere
    right_here (Literal value) k e h met = absurd (true≢false (sym h))
    right_here (Instance other other_id) k e h met =
        right_present k other list other_id id s e (same_list other list (and_left _ _ h)) (same_id other_id id (and_right _ _ h)) met

    either_case : (a b : Bool) → IsTrue (a || b) → (IsTrue a → IsHere) → (IsTrue b → IsHere) → IsHere
    either_case true b h f g = f refl
    either_case false b h f g = g h

    first_met : (a : Answer) (k : Captures) (x : Answered) → IsTrue (is_true (cond (is_true a) x (unchanged a k)).answer) → IsTrue (is_true a)
    first_met None k x h = h
    first_met (Some true) k x h = refl
    first_met (Some false) k x h = h

    next_met : (a : Answer) (k : Captures) (x : Answered) → IsTrue (is_true (cond (is_true a) x (unchanged a k)).answer) → IsTrue (is_true x.answer)
    next_met None k x h = absurd (true≢false (sym h))
    next_met (Some true) k x h = h
    next_met (Some false) k x h = absurd (true≢false (sym h))

    either_met : (a : Answer) (k : Captures) (x : Answered) → (IsTrue (is_true a) → IsHere) → (IsTrue (is_true x.answer) → IsHere)
        → IsTrue (is_true (cond (is_false a) x (unchanged a k)).answer) → IsHere
    either_met None k x f g h = absurd (true≢false (sym h))
    either_met (Some true) k x f g h = f refl
    either_met (Some false) k x f g h = g h

    implied : (condition : ServerCondition) → IsTrue (implies_present condition list id) → (k : Captures)
        → IsTrue (is_true (Answer-of condition k).answer) → IsHere
    implied (Constant value) h k met = absurd (true≢false (sym h))
    implied (Last word) h k met = absurd (true≢false (sym h))
    implied (Present other other_id) h k met =
        moved_present other list other_id id s (same_list other list (and_left _ _ h)) (same_id other_id id (and_right _ _ h)) met
    implied (Compare comparison) h k met =
        either_case (is_same comparison.list comparison.id list id) (is_right comparison.comparand list id) h
        (λ e. left_present comparison list id s (same_list comparison.list list (and_left _ _ e)) (same_id comparison.id id (and_right _ _ e)) met)
        (λ e. right_here comparison.comparand comparison refl e met)
    implied (Match matching) h k met =
        matched_present (met_by d) matching list id s (same_list matching.list list (and_left _ _ h)) (same_id matching.id id (and_right _ _ h)) met
    implied (CompareTexts comparison) h k met = absurd (true≢false (sym h))
    implied (MatchText matching) h k met = absurd (true≢false (sym h))
    implied (MatchGroup matching) h k met = absurd (true≢false (sym h))
    implied (Captured group) h k met = absurd (true≢false (sym h))
    implied (Not' p inner) h k met = absurd (true≢false (sym h))
    implied (And' p first q next) h k met =
        let a = Answer-of first k in
        either_case (implies_present first list id) (implies_present next list id) h
        (λ e. implied first e k (first_met a.answer a.captures (Answer-of next a.captures) met))
        (λ e. implied next e a.captures (next_met a.answer a.captures (Answer-of next a.captures) met))
    implied (Or' p first q next) h k met =
        let a = Answer-of first k in
        either_met a.answer a.captures (Answer-of next a.captures) (implied first (and_left _ _ h) k) (implied next (and_right _ _ h) a.captures) met

    untrue : (b : Bool) → (IsTrue b → IsHere) → has_instance id (list_of list s) ≡ false → b ≡ false
    untrue true f h = absurd (true≢false (sym (f refl) ∙ h))
    untrue false f h = refl

    kept_by : (b : Bool) (x y : Answered) (k : Captures) → x.captures ≡ k → y.captures ≡ k → (cond b x y).captures ≡ k
    kept_by true x y k e f = e
    kept_by false x y k e f = f

    -- where the attribute is absent nothing is captured
    captured_with : (condition : ServerCondition) → IsTrue (captures_with condition list id) → has_instance id (list_of list s) ≡ false
        → (k : Captures) → (Answer-of condition k).captures ≡ k
    captured_with (Constant value) h absent k = refl
    captured_with (Last word) h absent k = refl
    captured_with (Present other other_id) h absent k = refl
    captured_with (Compare comparison) h absent k = refl
    captured_with (Match m) h absent k =
        stays m k
        (untrue (has_selected m.selection m.id (list_of m.list s))
        (λ there. moved_present m.list list m.id id s (same_list m.list list (and_left _ _ h)) (same_id m.id id (and_right _ _ h))
        (selected_instance m.selection m.id (list_of m.list s) there))
        absent)
    captured_with (CompareTexts comparison) h absent k = refl
    captured_with (MatchText matching) h absent k = absurd (true≢false (sym h))
    captured_with (MatchGroup matching) h absent k = absurd (true≢false (sym h))
    captured_with (Captured group) h absent k = refl
    captured_with (Not' p inner) h absent k = captured_with inner h absent k
    captured_with (And' p first q next) h absent k =
        let a = Answer-of first k in
        let first_kept = captured_with first (and_left _ _ h) absent k in
        kept_by (is_true a.answer) (Answer-of next a.captures) a k
        (captured_with next (and_right _ _ h) absent a.captures ∙ first_kept) first_kept
    captured_with (Or' p first q next) h absent k =
        let a = Answer-of first k in
        let first_kept = captured_with first (and_left _ _ h) absent k in
        kept_by (is_false a.answer) (Answer-of next a.captures) a k
        (captured_with next (and_right _ _ h) absent a.captures ∙ first_kept) first_kept

  -- ---- guards

  abbrev guarded : Option Cond → (Captures → Evaluated) → Captures → Evaluated
  guarded None next k = next k
  guarded (Some before) next k = where_true (Eval before k) next

  abbrev Taken : ServerCondition → Captures → Evaluated
  Taken condition k = taken (Answer-of condition k)

  there_by : (before : Cond) (there : Bool) (next : Captures → Evaluated) (k : Captures) → Eval before k ≡ decided there k
      → guarded (Some before) next k ≡ cond there (next k) (decided false k)
  there_by before true next k h = ap (λ (e : Evaluated). where_true e next) h
  there_by before false next k h = ap (λ (e : Evaluated). where_true e next) h

  absent_by : (there : Bool) (a : Answered) (k : Captures) → (there ≡ false → is_true a.answer ≡ false) → (there ≡ false → a.captures ≡ k)
      → taken a ≡ cond there (taken a) (decided false k)
  absent_by true a k f g = refl
  absent_by false a k f g = ap (λ b. decided b a.captures) (f refl) ∙ ap (decided false) (g refl)

  present_by : (b : Bool) (list : Name) (id : AttrId) (next : ServerCondition) → (implies_present next list id && captures_with next list id) ≡ b
      → (k : Captures) → guarded (cond b None (Some (ours.Present list id))) (Taken next) k
      ≡ cond (has_instance id (list_of list s)) (Taken next k) (decided false k)
  present_by true list id next h k =
      absent_by (has_instance id (list_of list s)) (Answer-of next k) k
      (λ absent. untrue list id (is_true (Answer-of next k).answer) (implied list id next (and_left _ _ h) k) absent)
      (λ absent. captured_with list id next (and_right _ _ h) absent k)
  present_by false list id next h k =
      there_by (ours.Present list id) (has_instance id (list_of list s)) (Taken next) k (present_here list id k)

  present_before_here : (list : Name) (id : AttrId) (next : ServerCondition) (k : Captures)
      → guarded (present_before list id next) (Taken next) k ≡ cond (has_instance id (list_of list s)) (Taken next k) (decided false k)
  present_before_here list id next k = present_by (implies_present next list id && captures_with next list id) list id next refl k

  sides_before_by : (w : Comparand) (k : Comparison) → k.comparand ≡ w → (next : ServerCondition) (captures : Captures)
      → guarded (before_sides k.list k.id w next) (Taken next) captures
      ≡ cond (is_some (comparison_answer k s)) (Taken next captures) (decided false captures)
  sides_before_by (Literal value) k h next captures =
      present_before_here k.list k.id next captures
      ∙ ap (λ b. cond b (Taken next captures) (decided false captures)) (sym (answer_literal k value s h))
  sides_before_by (Instance list id) k h next captures =
      there_by (sides k.list k.id (Instance list id)) (is_some (comparison_answer k s)) (Taken next) captures
      (sides_by (Instance list id) k h captures)

  selected_before_here : (list : Name) (id : AttrId) (which : Selection) (next : ServerCondition) (k : Captures)
      → guarded (before_selected list id which next) (Taken next) k
      ≡ cond (has_selected which id (list_of list s)) (Taken next k) (decided false k)
  selected_before_here list id selection.All next k = present_before_here list id next k
  selected_before_here list id which next k =
      there_by (ours.PresentSelected list id which) (has_selected which id (list_of list s)) (Taken next) k (some_here list id which k)

  -- the second part of a `||` is asked where the first is false

  abbrev IsGuard : ServerCondition → ServerCondition → Option Cond → Type 0
  IsGuard first next before = (k : Captures)
      → where_false (Taken first k) (guarded before (Taken next)) ≡ taken (either_answered (Answer-of first k) (Answer-of next))

  sides_guarded : (a : Answer) (k : Captures) (next : Captures → Answered)
      → cond (is_true a) (decided (is_true a) k) (cond (is_some a) (taken (next k)) (decided false k))
      ≡ taken (cond (is_false a) (next k) (unchanged a k))
  sides_guarded None k next = refl
  sides_guarded (Some true) k next = refl
  sides_guarded (Some false) k next = refl

  certain_guarded : (a : Answer) (k : Captures) (next : Captures → Answered) → is_some a ≡ true
      → cond (is_true a) (decided (is_true a) k) (taken (next k)) ≡ taken (cond (is_false a) (next k) (unchanged a k))
  certain_guarded None k next h = absurd (true≢false (sym h))
  certain_guarded (Some true) k next h = refl
  certain_guarded (Some false) k next h = refl

  failing_guarded : (a : Answer) (k : Captures) (next : Captures → Answered)
      → cond (is_true a) (decided (is_true a) k) (cond (is_false a) (taken (next k)) (decided (is_false a) k))
      ≡ taken (cond (is_false a) (next k) (unchanged a k))
  failing_guarded None k next = refl
  failing_guarded (Some true) k next = refl
  failing_guarded (Some false) k next = refl

  -- asked once more
  once_more : (first : ServerCondition) → IsTrue (is_repeatable first) → (wanted : Bool) → ((k : Captures) → Eval (rewritten_as first wanted) k ≡ told wanted (Answer-of first k))
      → (k : Captures) → Eval (rewritten_as first wanted) (Answer-of first k).captures ≡ told wanted (Answer-of first k)
  once_more first h wanted is k = is (Answer-of first k).captures ∙ ap (told wanted) (repeated first h d s c k)

  failing_guard : (first next : ServerCondition) → IsTrue (is_repeatable first) → ((k : Captures) → Eval (rewritten_as first false) k ≡ refused (Answer-of first k))
      → IsGuard first next (Some (rewritten_as first false))
  failing_guard first next h is k =
      let a = Answer-of first k in
      ap (λ (e : Evaluated). cond (is_true a.answer) (taken a) (cond e.truth (Taken next e.captures) e)) (once_more first h false is k)
      ∙ failing_guarded a.answer a.captures (Answer-of next)

  uncertain_guard : (first next : ServerCondition) → IsTrue (is_repeatable first) → ((k : Captures) → Eval (rewritten_as first false) k ≡ refused (Answer-of first k))
      → IsGuard first next (guard first (rewritten_as first false) next)
  uncertain_guard (Compare comparison) next h is k =
      let a = comparison_answer comparison s in
      ap (λ t. cond (is_true a) (decided (is_true a) k) t) (sides_before_by comparison.comparand comparison refl next k)
      ∙ sides_guarded a k (Answer-of next)
  uncertain_guard (Match m) next h is k =
      let a = matching_answer (is_matched d) m s in
      let after = captures_after d m s k in
      ap (λ t. cond (is_true a) (decided (is_true a) after) t)
      (selected_before_here m.list m.id m.selection next after
      ∙ ap (λ b. cond b (Taken next after) (decided false after))
      (sym (some_answered (has_selected m.selection m.id (list_of m.list s)) (is_matched d m s))))
      ∙ sides_guarded a after (Answer-of next)
  uncertain_guard first next h is k = failing_guard first next h is k

  guard_by : (b : Bool) (first next : ServerCondition) → is_certain first ≡ b → IsTrue (is_repeatable first)
      → ((k : Captures) → Eval (rewritten_as first false) k ≡ refused (Answer-of first k))
      → IsGuard first next (cond b None (guard first (rewritten_as first false) next))
  guard_by true first next e h is k =
      let a = Answer-of first k in
      certain_guarded a.answer a.captures (Answer-of next) (certain first e k)
  guard_by false first next e h is k = uncertain_guard first next h is k

  -- the second part of a `&&` is asked where the first is true

  certain_and : (a : Answer) (k : Captures) (next : Answered) → is_some a ≡ true
      → cond (is_false a) (decided (is_false a) k) (refused next) ≡ refused (cond (is_true a) next (unchanged a k))
  certain_and None k next h = absurd (true≢false (sym h))
  certain_and (Some true) k next h = refl
  certain_and (Some false) k next h = refl

  holding_and : (a : Answer) (k : Captures) (next : Answered)
      → cond (is_false a) (decided (is_false a) k) (cond (is_true a) (refused next) (decided (is_true a) k))
      ≡ refused (cond (is_true a) next (unchanged a k))
  holding_and None k next = refl
  holding_and (Some true) k next = refl
  holding_and (Some false) k next = refl

  guard_of_and_by : (b : Bool) (first : ServerCondition) → is_certain first ≡ b → IsTrue (is_repeatable first)
      → ((k : Captures) → Eval (rewritten_as first true) k ≡ taken (Answer-of first k)) → (next : Captures → Answered) (k : Captures)
      → where_false (refused (Answer-of first k)) (guarded (cond b None (Some (rewritten_as first true))) (λ after. refused (next after)))
      ≡ refused (both_answered (Answer-of first k) next)
  guard_of_and_by true first e h is next k =
      let a = Answer-of first k in
      certain_and a.answer a.captures (next a.captures) (certain first e k)
  guard_of_and_by false first e h is next k =
      let a = Answer-of first k in
      ap (λ (e : Evaluated). cond (is_false a.answer) (refused a) (cond e.truth (refused (next e.captures)) e)) (once_more first h true is k)
      ∙ holding_and a.answer a.captures (next a.captures)

  either_guarded_here : (x : Cond) (before : Option Cond) (y : Cond) (k : Captures) (e : Evaluated) (next : Captures → Evaluated)
      → Eval x k ≡ e → ((after : Captures) → Eval y after ≡ next after) → Eval (either_guarded x before y) k ≡ where_false e (guarded before next)
  either_guarded_here x None y k e next first then = either_by x y k e (next e.captures) first (then e.captures)
  either_guarded_here x (Some before) y k e next first then =
      let found = Eval before e.captures in
      either_by x (both before y) k e (where_true found next) first
      (both_by before y e.captures found (next found.captures) refl (then found.captures))

  -- ---- all conditions

  taken_by : (b : Bool) (x y : Answered) → cond b (taken x) (taken y) ≡ taken (cond b x y)
  taken_by true x y = refl
  taken_by false x y = refl

  refused_by : (b : Bool) (x y : Answered) → cond b (refused x) (refused y) ≡ refused (cond b x y)
  refused_by true x y = refl
  refused_by false x y = refl

  kept : (condition : ServerCondition) → IsTrue (keeps_captures condition) → (wanted : Bool) (k : Captures)
      → Eval (rewritten_as condition wanted) k ≡ told wanted (Answer-of condition k)
  kept (Constant true) h true k = always_here k
  kept (Constant true) h false k = never_here k
  kept (Constant false) h true k = never_here k
  kept (Constant false) h false k = always_here k
  kept (Last word) h true k = last_here word k
  kept (Last word) h false k = not_by (ours.Last word) k (decided (same_code c word) k) (last_here word k)
  kept (Present list id) h true k = present_here list id k
  kept (Present list id) h false k =
      not_by (ours.Present list id) k (decided (has_instance id (list_of list s)) k) (present_here list id k)
  kept (Compare comparison) h true k = compared_here comparison k
  kept (Compare comparison) h false k = differs_here comparison k
  kept (Match matching) h true k = matched_here matching k
  kept (Match matching) h false k = mismatched_here matching k
  kept (CompareTexts comparison) h true k = texts_here comparison k
  kept (CompareTexts comparison) h false k = texts_differ_here comparison k
  kept (MatchText matching) h true k = evaluated_match_text d matching s c k
  kept (MatchText matching) h false k =
      not_by (ours.MatchText matching) k (decided (is_text_matched d matching s) (captures_after_text d matching s)) (evaluated_match_text d matching s c k)
  kept (MatchGroup matching) h true k = evaluated_match_group d matching s c k
  kept (MatchGroup matching) h false k =
      not_by (ours.MatchGroup matching) k (decided (is_group_matched matching k) (captures_after_group matching k)) (evaluated_match_group d matching s c k)
  kept (Captured group) h true k = evaluated_captured d group s c k
  kept (Captured group) h false k =
      not_by (ours.Captured group) k (Taken (Captured group) k) (evaluated_captured d group s c k)
  kept (Not' p inner) h true k =
      let a = Answer-of inner k in
      kept inner h false k ∙ ap (λ b. decided b a.captures) (sym (true_not a.answer))
  kept (Not' p inner) h false k =
      let a = Answer-of inner k in
      kept inner h true k ∙ ap (λ b. decided b a.captures) (sym (false_not a.answer))
  kept (And' p first q next) h true k =
      let a = Answer-of first k in
      let parts = and_right (is_repeatable first) (keeps_captures first && keeps_captures next) h in
      both_by (rewritten_as first true) (rewritten_as next true) k (taken a) (Taken next a.captures)
      (kept first (and_left _ _ parts) true k) (kept next (and_right _ _ parts) true a.captures)
      ∙ taken_by (is_true a.answer) (Answer-of next a.captures) a
  kept (And' p first q next) h false k =
      let a = Answer-of first k in
      let parts = and_right (is_repeatable first) (keeps_captures first && keeps_captures next) h in
      either_guarded_here (rewritten_as first false) (guard_of_and first (rewritten_as first true)) (rewritten_as next false) k
      (refused a) (λ after. refused (Answer-of next after))
      (kept first (and_left _ _ parts) false k) (kept next (and_right _ _ parts) false)
      ∙ guard_of_and_by (is_certain first) first refl (and_left _ _ h) (kept first (and_left _ _ parts) true) (Answer-of next) k
  kept (Or' p first q next) h true k =
      let a = Answer-of first k in
      let parts = and_right (is_repeatable first) (keeps_captures first && keeps_captures next) h in
      either_guarded_here (rewritten_as first true) (guard_of first (rewritten_as first false) next) (rewritten_as next true) k
      (taken a) (Taken next)
      (kept first (and_left _ _ parts) true k) (kept next (and_right _ _ parts) true)
      ∙ guard_by (is_certain first) first next refl (and_left _ _ h) (kept first (and_left _ _ parts) false) k
  kept (Or' p first q next) h false k =
      let a = Answer-of first k in
      let parts = and_right (is_repeatable first) (keeps_captures first && keeps_captures next) h in
      both_by (rewritten_as first false) (rewritten_as next false) k (refused a) (refused (Answer-of next a.captures))
      (kept first (and_left _ _ parts) false k) (kept next (and_right _ _ parts) false a.captures)
      ∙ refused_by (is_false a.answer) (Answer-of next a.captures) a

-- ours is evaluated as the server's
pub kept_captures : (condition : ServerCondition) → IsTrue (keeps_captures condition) → (d : Dictionary) (s : State) (c : Code) (k : Captures)
    → evaluated d (rewritten_as condition true) s c k ≡ server_evaluated d condition s c k
kept_captures condition h d s c k = kept d s c condition h true k
