-- Where a condition overlooks no absence, a server with the same captures takes its branch where it is true.
use Rattle.std.proofs.Common.{◌≡◌, Bool, true, false, not, ◌&&◌, ◌||◌, List, [], ◌∷◌, ◌++◌, Some, None, refl, sym, ap, ◌∙◌, map, subst, append_assoc, append-nil, is_some, cond, length}
use Rattle.std.specs.Prelude.{nat_lt}
use Rattle.std.specs.Option.{option_map}
use Rattle.avp_lists.specs.Instances.{has_instance}
use Rattle.avp_lists.specs.Selections.{first_selected_instance, has_selected}
use Rattle.avp_lists.specs.States.{list_of}
use Rattle.avp_lists.specs.Tags.{is_selected}
use Rattle.avp_lists.specs.declared.lists.State.{State}
use Rattle.avp_dict.specs.Dictionary.{Dictionary}
use Rattle.avp_unlang.specs.Captures.{Captures, captured}
use Rattle.avp_unlang.specs.Evaluations.{Evaluated, Evaluation, all_evaluated, any_evaluated, cond_evaluated, evaluated}
use Rattle.avp_unlang.specs.PatternTruth.{is_matched}
use Rattle.avp_unlang.specs.Texts.{is_group_matched, is_met_by_texts, is_text_matched}
use Rattle.avp_unlang.specs.Truth.{is_met, is_met_by_meaning, same_code}
use Rattle.avp_unlang.specs.declared.codes.Code.{Code}
use Rattle.avp_unlang.specs.declared.tree.Cond.{Cond}
use Rattle.avp_unlang.specs.declared.tree.Cond.TheFolds.{fold-roll-Cond, ind-Cond, map-Cond}
use Rattle.avp_unlang.specs.declared.tree.Cond.TheOpen.{Cond-F, Any, All, Not, Last, Present, PresentSelected, Compare, CompareMeant, CompareTexts, Match, MatchText, MatchGroup, Captured}
use Rattle.avp_unlang.specs.declared.tree.Cond.TheViews.{roll-Cond}
use Rattle.policy_warnings.specs.Absences.{all_of, always, any_of, asked, both, cond_absence, either, negated, said_of, silent, warns_of_absence}
use Rattle.policy_warnings.specs.Answers.{Answer, answer_both, answer_either, is_false, is_true}
use Rattle.policy_warnings.specs.Mentions.{all_parts, comparison_mentions, cond_mentions, implies, matching_mentions, meant_comparison_mentions, mentions, selected, side_mentions, whole}
use Rattle.policy_warnings.specs.ServerEvaluations.{Answered, Answering, CapturesAlike, all_answered, any_answered, cond_answered, server_evaluated}
use Rattle.policy_warnings.specs.declared.absences.Absence.{Absence}
use Rattle.policy_warnings.specs.declared.mentions.Mention.{Mention}
use Rattle.policy_warnings.proofs.Agreeing.{agreeing, and_assoc, and_yes, both_assoc, both_yes, either_assoc, either_no, found_first, matched_looks, matching_there, meant_there, met_there, or_assoc, or_no, said_same, silent_of, texts_there, told_there}
use Rattle.policy_warnings.proofs.Sound.{Sound, sound_both, sound_compared, sound_either, sound_negated, sound_same, sound_told}

-- ---- one condition, and then others

no_answer : (b : Bool) → None ≡ Some b → ⊥
no_answer b h = cc

-- what comes of it where the others are asked with what is kept
module _ (x : Evaluated) (y : Answered) (others : Captures → Evaluated) (answers : Captures → Answered) where
  abbrev all_evaluated_then : Evaluated
  all_evaluated_then = cond x.truth (others x.captures) x

  abbrev all_answered_then : Answered
  all_answered_then = cond (is_true y.answer) (answers y.captures) y

  abbrev any_evaluated_then : Evaluated
  any_evaluated_then = cond x.truth x (others x.captures)

  abbrev any_answered_then : Answered
  any_answered_then = cond (is_false y.answer) (answers y.captures) y

  abbrev AnswersTruth : Type 0
  AnswersTruth = (b : Bool) → y.answer ≡ Some b → x.truth ≡ b

  abbrev KeepsSame : Type 0
  KeepsSame = (b : Bool) → y.answer ≡ Some b → y.captures ≡ x.captures

  abbrev OthersKeepSame : Type 0
  OthersKeepSame = (b : Bool) → (answers x.captures).answer ≡ Some b → (answers x.captures).captures ≡ (others x.captures).captures

  -- ---- `&&`

  pub and_truth : (b : Bool) → x.truth ≡ b → (x.truth && (others x.captures).truth) ≡ all_evaluated_then.truth
  and_truth true e = ap (λ z. z && (others x.captures).truth) e ∙ sym (ap (λ z. (cond z (others x.captures) x).truth) e)
  and_truth false e = ap (λ z. z && (others x.captures).truth) e ∙ sym e ∙ sym (ap (λ z. (cond z (others x.captures) x).truth) e)

  opened_all : (a : Answer) → y.answer ≡ a → all_answered_then ≡ cond (is_true a) (answers y.captures) y
  opened_all a e = ap (λ z. cond (is_true z) (answers y.captures) y) e

  pub and_answer : KeepsSame → (a : Answer) → y.answer ≡ a → answer_both y.answer (answers x.captures).answer ≡ all_answered_then.answer
  and_answer same None e = ap (λ z. answer_both z (answers x.captures).answer) e ∙ sym e ∙ sym (ap (λ r. r.answer) (opened_all None e))
  and_answer same (Some false) e = ap (λ z. answer_both z (answers x.captures).answer) e ∙ sym e ∙ sym (ap (λ r. r.answer) (opened_all (Some false) e))
  and_answer same (Some true) e =
      ap (λ z. answer_both z (answers x.captures).answer) e ∙ ap (λ k. (answers k).answer) (sym (same true e))
      ∙ sym (ap (λ r. r.answer) (opened_all (Some true) e))

  pub and_captures : AnswersTruth → KeepsSame → OthersKeepSame → (a : Answer) → y.answer ≡ a → (b : Bool) → all_answered_then.answer ≡ Some b → all_answered_then.captures ≡ all_evaluated_then.captures
  and_captures told same rest None e b h = absurd (no_answer b (sym e ∙ sym (ap (λ r. r.answer) (opened_all None e)) ∙ h))
  and_captures told same rest (Some false) e b h =
      ap (λ r. r.captures) (opened_all (Some false) e) ∙ same false e
      ∙ sym (ap (λ z. (cond z (others x.captures) x).captures) (told false e))
  and_captures told same rest (Some true) e b h =
      let gone_on = opened_all (Some true) e ∙ ap answers (same true e) in
      ap (λ r. r.captures) gone_on ∙ rest b (sym (ap (λ r. r.answer) gone_on) ∙ h)
      ∙ sym (ap (λ z. (cond z (others x.captures) x).captures) (told true e))

  -- ---- `||`

  pub or_truth : (b : Bool) → x.truth ≡ b → (x.truth || (others x.captures).truth) ≡ any_evaluated_then.truth
  or_truth true e = ap (λ z. z || (others x.captures).truth) e ∙ sym e ∙ sym (ap (λ z. (cond z x (others x.captures)).truth) e)
  or_truth false e = ap (λ z. z || (others x.captures).truth) e ∙ sym (ap (λ z. (cond z x (others x.captures)).truth) e)

  opened_any : (a : Answer) → y.answer ≡ a → any_answered_then ≡ cond (is_false a) (answers y.captures) y
  opened_any a e = ap (λ z. cond (is_false z) (answers y.captures) y) e

  pub or_answer : KeepsSame → (a : Answer) → y.answer ≡ a → answer_either y.answer (answers x.captures).answer ≡ any_answered_then.answer
  or_answer same None e = ap (λ z. answer_either z (answers x.captures).answer) e ∙ sym e ∙ sym (ap (λ r. r.answer) (opened_any None e))
  or_answer same (Some true) e = ap (λ z. answer_either z (answers x.captures).answer) e ∙ sym e ∙ sym (ap (λ r. r.answer) (opened_any (Some true) e))
  or_answer same (Some false) e =
      ap (λ z. answer_either z (answers x.captures).answer) e ∙ ap (λ k. (answers k).answer) (sym (same false e))
      ∙ sym (ap (λ r. r.answer) (opened_any (Some false) e))

  pub or_captures : AnswersTruth → KeepsSame → OthersKeepSame → (a : Answer) → y.answer ≡ a → (b : Bool) → any_answered_then.answer ≡ Some b → any_answered_then.captures ≡ any_evaluated_then.captures
  or_captures told same rest None e b h = absurd (no_answer b (sym e ∙ sym (ap (λ r. r.answer) (opened_any None e)) ∙ h))
  or_captures told same rest (Some true) e b h =
      ap (λ r. r.captures) (opened_any (Some true) e) ∙ same true e
      ∙ sym (ap (λ z. (cond z x (others x.captures)).captures) (told true e))
  or_captures told same rest (Some false) e b h =
      let gone_on = opened_any (Some false) e ∙ ap answers (same false e) in
      ap (λ r. r.captures) gone_on ∙ rest b (sym (ap (λ r. r.answer) gone_on) ∙ h)
      ∙ sym (ap (λ z. (cond z x (others x.captures)).captures) (told false e))

-- ---- conditions

module _ (d : Dictionary) (s : State) (c : Code) where
  abbrev HasSame : Answered → Evaluated → Type 0
  HasSame y x = (b : Bool) → y.answer ≡ Some b → y.captures ≡ x.captures

  abbrev IsSoundFrom : Cond → Captures → Type 0
  IsSoundFrom k captures =
      Sound s (λ m. said_of m k) (mentions k) (server_evaluated d k s c captures).answer (evaluated d k s c captures).truth
      × HasSame (server_evaluated d k s c captures) (evaluated d k s c captures)

  abbrev IsSound : Cond → Type 0
  IsSound k = (captures : Captures) → IsSoundFrom k captures

  abbrev Such : Type 0
  Such = (k : Cond) × IsSound k

  abbrev the_conds : List Such → List Cond
  the_conds es = map (λ e. e.0) es

  abbrev layer : Cond-F Such → Cond-F Cond
  layer = map-Cond Such Cond (λ e. e.0)

  abbrev the_mentions : List Such → List Mention
  the_mentions es = all_parts (map mentions (the_conds es))

  abbrev all_here : List Such → Captures → Evaluated
  all_here es captures = all_evaluated (map (evaluated d) (the_conds es)) s c captures

  abbrev all_there : List Such → Captures → Answered
  all_there es captures = all_answered (map (server_evaluated d) (the_conds es)) s c captures

  abbrev any_here : List Such → Captures → Evaluated
  any_here es captures = any_evaluated (map (evaluated d) (the_conds es)) s c captures

  abbrev any_there : List Such → Captures → Answered
  any_there es captures = any_answered (map (server_evaluated d) (the_conds es)) s c captures

  all_sound : (es : List Such) (captures : Captures) (say : Mention → Absence) (ms : List Mention) (a : Answer) (t : Bool) → Sound s say ms a t → Sound s (λ m. all_of (say m) (map (said_of m) (the_conds es))) (ms ++ the_mentions es) (answer_both a (all_there es captures).answer) (t && (all_here es captures).truth)
  all_sound [] captures say ms a t p = sound_same s say ms (ms ++ []) a (answer_both a (Some true)) t (t && true) (sym (append-nil ms)) (both_yes a) (and_yes t) p
  all_sound (e ∷ es) captures say ms a t p =
      let also = λ (m : Mention). said_of m e.0 in
      let joint = λ (m : Mention). both (say m) (also m) in
      let x = evaluated d e.0 s c captures in
      let y = server_evaluated d e.0 s c captures in
      let rest = all_there es x.captures in
      let after = all_here es x.captures in
      sound_same s (λ m. all_of (joint m) (map (said_of m) (the_conds es))) ((ms ++ mentions e.0) ++ the_mentions es) (ms ++ (mentions e.0 ++ the_mentions es))
      (answer_both (answer_both a y.answer) rest.answer) (answer_both a (all_there (e ∷ es) captures).answer)
      ((t && x.truth) && after.truth) (t && (all_here (e ∷ es) captures).truth)
      (append_assoc ms (mentions e.0) (the_mentions es))
      (both_assoc a y.answer rest.answer ∙ ap (answer_both a) (and_answer x y (all_here es) (all_there es) (e.1 captures).1 y.answer refl))
      (and_assoc t x.truth after.truth ∙ ap (λ z. t && z) (and_truth x y (all_here es) (all_there es) x.truth refl))
      (all_sound es x.captures joint (ms ++ mentions e.0) (answer_both a y.answer) (t && x.truth)
      (sound_both s say also ms (mentions e.0) a y.answer t x.truth p (e.1 captures).0))

  any_sound : (es : List Such) (captures : Captures) (say : Mention → Absence) (ms : List Mention) (a : Answer) (t : Bool) → Sound s say ms a t → Sound s (λ m. any_of (say m) (map (said_of m) (the_conds es))) (ms ++ the_mentions es) (answer_either a (any_there es captures).answer) (t || (any_here es captures).truth)
  any_sound [] captures say ms a t p = sound_same s say ms (ms ++ []) a (answer_either a (Some false)) t (t || false) (sym (append-nil ms)) (either_no a) (or_no t) p
  any_sound (e ∷ es) captures say ms a t p =
      let also = λ (m : Mention). said_of m e.0 in
      let joint = λ (m : Mention). either (say m) (also m) in
      let x = evaluated d e.0 s c captures in
      let y = server_evaluated d e.0 s c captures in
      let rest = any_there es x.captures in
      let after = any_here es x.captures in
      sound_same s (λ m. any_of (joint m) (map (said_of m) (the_conds es))) ((ms ++ mentions e.0) ++ the_mentions es) (ms ++ (mentions e.0 ++ the_mentions es))
      (answer_either (answer_either a y.answer) rest.answer) (answer_either a (any_there (e ∷ es) captures).answer)
      ((t || x.truth) || after.truth) (t || (any_here (e ∷ es) captures).truth)
      (append_assoc ms (mentions e.0) (the_mentions es))
      (either_assoc a y.answer rest.answer ∙ ap (answer_either a) (or_answer x y (any_here es) (any_there es) (e.1 captures).1 y.answer refl))
      (or_assoc t x.truth after.truth ∙ ap (λ z. t || z) (or_truth x y (any_here es) (any_there es) x.truth refl))
      (any_sound es x.captures joint (ms ++ mentions e.0) (answer_either a y.answer) (t || x.truth)
      (sound_either s say also ms (mentions e.0) a y.answer t x.truth p (e.1 captures).0))

  all_same : (es : List Such) (captures : Captures) → HasSame (all_there es captures) (all_here es captures)
  all_same [] captures = λ b h. refl
  all_same (e ∷ es) captures =
      let x = evaluated d e.0 s c captures in
      let y = server_evaluated d e.0 s c captures in
      and_captures x y (all_here es) (all_there es) (e.1 captures).0.1 (e.1 captures).1 (all_same es x.captures) y.answer refl

  any_same : (es : List Such) (captures : Captures) → HasSame (any_there es captures) (any_here es captures)
  any_same [] captures = λ b h. refl
  any_same (e ∷ es) captures =
      let x = evaluated d e.0 s c captures in
      let y = server_evaluated d e.0 s c captures in
      or_captures x y (any_here es) (any_there es) (e.1 captures).0.1 (e.1 captures).1 (any_same es x.captures) y.answer refl

  not_same : (k : Cond) (captures : Captures) → HasSame (server_evaluated d k s c captures) (evaluated d k s c captures) → (a : Answer) → (server_evaluated d k s c captures).answer ≡ a → (b : Bool) → option_map not (server_evaluated d k s c captures).answer ≡ Some b → (server_evaluated d k s c captures).captures ≡ (evaluated d k s c captures).captures
  not_same k captures same None e b h = absurd (no_answer b (sym (ap (option_map not) e) ∙ h))
  not_same k captures same (Some v) e b h = same v e

  abbrev LayerSound : Cond-F Cond → Type 0
  LayerSound x =
      (captures : Captures) → Sound s (λ m. cond_absence m (map-Cond Cond Absence (said_of m) x)) (cond_mentions (map-Cond Cond (List Mention) mentions x))
      (cond_answered d (map-Cond Cond Answering (server_evaluated d) x) s c captures).answer (cond_evaluated d (map-Cond Cond Evaluation (evaluated d) x) s c captures).truth
      × HasSame (cond_answered d (map-Cond Cond Answering (server_evaluated d) x) s c captures) (cond_evaluated d (map-Cond Cond Evaluation (evaluated d) x) s c captures)

  layer_sound : (y : Cond-F Such) → LayerSound (layer y)
  layer_sound (Any parts) captures =
      (any_sound parts captures (λ m. negated always) [] (Some false) false (sound_told s (λ m. negated always) false (λ m absent. refl)), any_same parts captures)
  layer_sound (All parts) captures =
      (all_sound parts captures (λ m. always) [] (Some true) true (sound_told s (λ m. always) true (λ m absent. refl)), all_same parts captures)
  layer_sound (Not part) captures =
      let y = server_evaluated d part.0 s c captures in (
        sound_negated s (λ m. said_of m part.0) (mentions part.0) y.answer (evaluated d part.0 s c captures).truth (part.1 captures).0,
        not_same part.0 captures (part.1 captures).1 y.answer refl,
      )
  layer_sound (Last word) captures = (sound_told s (λ m. silent) (same_code c word) (silent_of s (same_code c word)), (λ b h. refl))
  layer_sound (Present list id) captures =
      let there = has_instance id (list_of list s) in
      (sound_told s (λ m. asked (implies (whole list id) m)) there (told_there s (whole list id) there refl), (λ b h. refl))
  layer_sound (PresentSelected list id selection) captures =
      let there = has_selected selection id (list_of list s) in (
        sound_same s (λ m. asked (implies (selected list id selection) m)) [] [] (Some there) (Some there) there (is_some (first_selected_instance selection id (list_of list s)))
            refl refl (found_first (is_selected selection id) (list_of list s))
            (sound_told s (λ m. asked (implies (selected list id selection) m)) there (told_there s (selected list id selection) there refl)),
        (λ b h. refl),
      )
  layer_sound (Compare k) captures = (sound_compared s (comparison_mentions k) (is_met k s) (met_there k s), (λ b h. refl))
  layer_sound (CompareMeant k) captures = (sound_compared s (meant_comparison_mentions k) (is_met_by_meaning k s) (meant_there k s), (λ b h. refl))
  layer_sound (Match k) captures =
      (sound_compared s (matching_mentions k) (is_matched d k s) (matching_there (is_matched d) (matched_looks d) k s), (λ b h. refl))
  layer_sound (CompareTexts k) captures = (sound_compared s (side_mentions k.left) (is_met_by_texts d k s captures) (texts_there d captures k s), (λ b h. refl))
  layer_sound (MatchText k) captures = (sound_told s (λ m. silent) (is_text_matched d k s) (silent_of s (is_text_matched d k s)), (λ b h. refl))
  layer_sound (MatchGroup k) captures = (sound_told s (λ m. silent) (is_group_matched k captures) (silent_of s (is_group_matched k captures)), (λ b h. refl))
  layer_sound (Captured group) captures =
      let given = nat_lt 0 (length (captured group captures)) in
      (sound_told s (λ m. silent) given (silent_of s given), (λ b h. refl))

  rolled : (x : Cond-F Cond) → LayerSound x → IsSound (roll-Cond x)
  unfolding said_of mentions evaluated server_evaluated
  rolled x p captures =
      let there : cond_answered d (map-Cond Cond Answering (server_evaluated d) x) s c captures ≡ server_evaluated d (roll-Cond x) s c captures =
      ap (λ (f : Answering). f s c captures) (sym (fold-roll-Cond Answering (cond_answered d) x)) in
      let here : cond_evaluated d (map-Cond Cond Evaluation (evaluated d) x) s c captures ≡ evaluated d (roll-Cond x) s c captures =
      ap (λ (f : Evaluation). f s c captures) (sym (fold-roll-Cond Evaluation (cond_evaluated d) x)) in (
        said_same s (λ m. cond_absence m (map-Cond Cond Absence (said_of m) x)) (λ m. said_of m (roll-Cond x)) (mentions (roll-Cond x))
            (server_evaluated d (roll-Cond x) s c captures).answer (evaluated d (roll-Cond x) s c captures).truth
            (λ m. sym (fold-roll-Cond Absence (cond_absence m) x))
            (sound_same s (λ m. cond_absence m (map-Cond Cond Absence (said_of m) x)) (cond_mentions (map-Cond Cond (List Mention) mentions x)) (mentions (roll-Cond x))
            (cond_answered d (map-Cond Cond Answering (server_evaluated d) x) s c captures).answer (server_evaluated d (roll-Cond x) s c captures).answer
            (cond_evaluated d (map-Cond Cond Evaluation (evaluated d) x) s c captures).truth (evaluated d (roll-Cond x) s c captures).truth
            (sym (fold-roll-Cond (List Mention) cond_mentions x)) (ap (λ r. r.answer) there) (ap (λ r. r.truth) here) (p captures).0),
        (λ b h. sym (ap (λ r. r.captures) there) ∙ (p captures).1 b (ap (λ r. r.answer) there ∙ h) ∙ ap (λ r. r.captures) here),
      )

  pub sound : (k : Cond) → IsSound k
  sound = ind-Cond IsSound (λ x y is. subst (λ z. IsSound (roll-Cond z)) is (rolled (layer y) (layer_sound y)))

pub takes_alike : (k : Cond) → warns_of_absence k ≡ false → (d : Dictionary) (s : State) (c : Code) (captures : Captures) → (evaluated d k s c captures).truth ≡ is_true (server_evaluated d k s c captures).answer
takes_alike k h d s c captures =
    agreeing s (λ m. said_of m k) (mentions k) (server_evaluated d k s c captures).answer (evaluated d k s c captures).truth (sound d s c k captures).0 h

pub captures_alike : (k : Cond) → CapturesAlike k
captures_alike k d s c captures b h = (sound d s c k captures).1 b h
