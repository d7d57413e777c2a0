-- Where a condition overlooks no absence, it is true where a server says so.
use Rattle.std.proofs.Common.{◌≡◌, ℕ, Bool, true, false, not, ◌&&◌, ◌||◌, List, [], ◌∷◌, ◌++◌, Option, Some, None, refl, sym, ap, ◌∙◌, map, subst, append_assoc, append-nil, filter, is_some, cond}
use Rattle.std.specs.declared.cmp.Ordering.{Ordering}
use Rattle.std.specs.List.{list_all, list_any}
use Rattle.std.specs.Option.{option_and_then, option_map, option_map_or}
use Rattle.avp_lists.specs.Instances.{first_instance, front, has_id, has_instance}
use Rattle.avp_lists.specs.Selections.{first_selected_instance, has_selected}
use Rattle.avp_lists.specs.States.{list_of}
use Rattle.avp_lists.specs.Tags.{is_selected}
use Rattle.avp_lists.specs.declared.pairs.AttrId.{AttrId}
use Rattle.avp_lists.specs.declared.pairs.Pair.{Pair}
use Rattle.avp_lists.specs.declared.pairs.Value.{Value}
use Rattle.avp_lists.specs.declared.lists.List.{List as Name}
use Rattle.avp_lists.specs.declared.lists.State.{State}
use Rattle.avp_lists.specs.declared.tags.Selection.{Selection}
use Rattle.avp_dict.specs.Dictionary.{Dictionary}
use Rattle.avp_dict.specs.declared.entries.Kind.{Kind}
use Rattle.avp_dict.specs.declared.forms.Form.{Form}
use Rattle.avp_unlang.specs.PatternTruth.{agrees as agrees_with_pattern, instance_in, is_matched}
use Rattle.avp_unlang.specs.Resolutions.{meaning_put}
use Rattle.avp_unlang.specs.Captures.{Captures, no_captures}
use Rattle.avp_unlang.specs.References.{type_of}
use Rattle.avp_unlang.specs.Relations.{meets}
use Rattle.avp_unlang.specs.Texts.{filled_text, is_met_by_texts, octets_order, order_beside, own_octets, text_beside}
use Rattle.avp_unlang.specs.Truth.{Test, are_related, are_related_by_meaning, compared_with, Printed, cond_truth_with, first_value, is_met, is_met_by_meaning, meant_with, nothing_printed, octets_meant, printed_by, selected_octets, same_code, selected_value, truth, truth_by, value_in}
use Rattle.avp_unlang.specs.declared.codes.Code.{Code}
use Rattle.avp_unlang.specs.declared.tree.Comparand.{Comparand}
use Rattle.avp_unlang.specs.declared.tree.Comparand.TheVariants as comparand
use Rattle.avp_unlang.specs.declared.tree.Comparison.{Comparison}
use Rattle.avp_unlang.specs.declared.tree.Matching.{Matching}
use Rattle.avp_unlang.specs.declared.tree.MeantComparand.{MeantComparand}
use Rattle.avp_unlang.specs.declared.tree.MeantComparand.TheVariants as meant
use Rattle.avp_unlang.specs.declared.tree.MeantComparison.{MeantComparison}
use Rattle.avp_unlang.specs.declared.tree.Relation.{Relation}
use Rattle.avp_unlang.specs.declared.tree.TextComparison.{TextComparison}
use Rattle.avp_unlang.specs.declared.tree.TextSide.{TextSide}
use Rattle.avp_unlang.specs.declared.tree.TextSide.TheVariants as side
use Rattle.avp_unlang.specs.declared.tree.Cond.{Cond}
use Rattle.avp_unlang.specs.declared.tree.Cond.TheFolds.{fold-Cond, fold-roll-Cond, ind-Cond, map-Cond}
use Rattle.avp_unlang.specs.declared.tree.Cond.TheOpen.{Cond-F, Any, All, Not, Last, Present, PresentSelected, Compare, CompareMeant, CompareTexts, Match, MatchText, MatchGroup, Captured}
use Rattle.avp_unlang.specs.declared.tree.Cond.TheViews.{roll-Cond}
use Rattle.policy_warnings.specs.Absences.{all_of, always, asked, any_of, both, cond_absence, either, negated, said_of, silent, warns_of_absence}
use Rattle.policy_warnings.specs.Answers.{Answer, Asked, answer_all, answer_any, answer_both, answer_either, cond_answer_with, is_true, server_answer, server_answer_by, server_truth, server_truth_by}
use Rattle.policy_warnings.specs.Mentions.{all_parts, comparand_mentions, comparison_mentions, cond_mentions, implies, is_there, matching_mentions, meant_comparand_mentions, meant_comparison_mentions, mentions, selected, side_mentions, whole}
use Rattle.policy_warnings.specs.declared.absences.Absence.{Absence}
use Rattle.policy_warnings.specs.declared.mentions.Mention.{Mention}
use Rattle.policy_warnings.proofs.Answered.{and_right, and_true, any_mono, not_implied, overlooked_when, present_when}
use Rattle.policy_warnings.proofs.Sound.{Sound, misses, sound_both, sound_compared, sound_either, sound_negated, sound_same, sound_told}

-- ---- what is there

pub found_first : (f : Pair → Bool) (pairs : List Pair) → list_any f pairs ≡ is_some (front (filter f pairs))
found_first f [] = refl
found_first f (p ∷ ps) =
    elim (f p) as (λ b. (b || list_any f ps) ≡ is_some (front (cond b (p ∷ filter f ps) (filter f ps)))) [
      | true ↦ refl
      | false ↦ found_first f ps
    ]

is_some_map : {A B : Type 0} (f : A → B) (x : Option A) → is_some (option_map f x) ≡ is_some x
is_some_map f None = refl
is_some_map f (Some x) = refl

some_before : {A B : Type 0} (f : A → Option B) (x : Option A) → is_some (option_and_then f x) ≡ true → is_some x ≡ true
some_before f None h = h
some_before f (Some x) h = refl

found_value : (list : Name) (id : AttrId) (s : State) → is_some (first_value list id s) ≡ true → is_there s (whole list id) ≡ true
found_value list id s h =
    found_first (has_id id) (list_of list s) ∙ sym (is_some_map value_in (first_instance id (list_of list s))) ∙ h

found_octets : (list : Name) (id : AttrId) (selection : Selection) (form : Form) (s : State) → is_some (selected_octets list id selection form s) ≡ true → is_there s (selected list id selection) ≡ true
found_octets list id selection form s h =
    found_first (is_selected selection id) (list_of list s) ∙ sym (is_some_map value_in (first_selected_instance selection id (list_of list s)))
    ∙ some_before (octets_meant form) (selected_value list id selection s) h

first_there : (k : Kind) (r : Relation) (x y : Option Value) → are_related k r x y ≡ true → is_some x ≡ true
first_there k r None y h = h
first_there k r (Some x) y h = refl

second_there : (k : Kind) (r : Relation) (x y : Option Value) → are_related k r x y ≡ true → is_some y ≡ true
second_there k r None y h = cc
second_there k r (Some x) None h = h
second_there k r (Some x) (Some y) h = refl

comparand_there : (x : Comparand) (s : State) → is_some (compared_with x s) ≡ true → list_all (is_there s) (comparand_mentions x) ≡ true
comparand_there (comparand.Literal v) s h = refl
comparand_there (comparand.Instance list id) s h = and_true (is_there s (whole list id)) true (found_value list id s h) refl

pub met_there : (k : Comparison) (s : State) → is_met k s ≡ true → list_all (is_there s) (comparison_mentions k) ≡ true
met_there k s h =
    and_true (is_there s (whole k.list k.id)) (list_all (is_there s) (comparand_mentions k.comparand))
    (found_value k.list k.id s (first_there k.kind k.relation (first_value k.list k.id s) (compared_with k.comparand s) h))
    (comparand_there k.comparand s (second_there k.kind k.relation (first_value k.list k.id s) (compared_with k.comparand s) h))

first_meant : (r : Relation) (x y : Option (Form × List ℕ)) → are_related_by_meaning r x y ≡ true → is_some x ≡ true
first_meant r None y h = h
first_meant r (Some x) y h = refl

second_meant : (r : Relation) (x y : Option (Form × List ℕ)) → are_related_by_meaning r x y ≡ true → is_some y ≡ true
second_meant r None y h = cc
second_meant r (Some x) None h = h
second_meant r (Some x) (Some y) h = refl

meant_comparand_there : (x : MeantComparand) (s : State) → is_some (meant_with x s) ≡ true → list_all (is_there s) (meant_comparand_mentions x) ≡ true
meant_comparand_there (meant.Literal form octets) s h = refl
meant_comparand_there (meant.Instance list id selection form) s h =
    and_true (is_there s (selected list id selection)) true (found_octets list id selection form s h) refl

pub meant_there : (k : MeantComparison) (s : State) → is_met_by_meaning k s ≡ true → list_all (is_there s) (meant_comparison_mentions k) ≡ true
meant_there k s h =
    and_true (is_there s (selected k.list k.id k.selection)) (list_all (is_there s) (meant_comparand_mentions k.comparand))
    (found_octets k.list k.id k.selection k.form s (first_meant k.relation (selected_octets k.list k.id k.selection k.form s) (meant_with k.comparand s) h))
    (meant_comparand_there k.comparand s (second_meant k.relation (selected_octets k.list k.id k.selection k.form s) (meant_with k.comparand s) h))

-- of a comparison with a pattern: one that is met has an instance
abbrev pub LooksAtItsOwn : (Matching → State → Bool) → Type 0
LooksAtItsOwn matched = (k : Matching) (s : State) → matched k s ≡ true → is_there s (selected k.list k.id k.selection) ≡ true

pub never_looks : LooksAtItsOwn nothing_printed.matched
never_looks k s h = cc

instance_there : (k : Matching) (d : Dictionary) (x : Option Pair) → option_map_or (λ pair. agrees_with_pattern k (meaning_put d pair)) x false ≡ true → is_some x ≡ true
instance_there k d None h = h
instance_there k d (Some x) h = refl

pub matched_looks : (d : Dictionary) → LooksAtItsOwn (is_matched d)
matched_looks d k s h = found_first (is_selected k.selection k.id) (list_of k.list s) ∙ instance_there k d (instance_in k s) h

pub matching_there : (matched : Matching → State → Bool) → LooksAtItsOwn matched → (k : Matching) (s : State) → matched k s ≡ true → list_all (is_there s) (matching_mentions k) ≡ true
matching_there matched looks k s h = and_true (is_there s (selected k.list k.id k.selection)) true (looks k s h) refl

-- of a comparison of texts: an instance that is met is there
abbrev pub LooksAtItsSide : (TextComparison → State → Bool) → Type 0
LooksAtItsSide texts = (k : TextComparison) (s : State) → texts k s ≡ true → list_all (is_there s) (side_mentions k.left) ≡ true

never_looks_at_side : LooksAtItsSide nothing_printed.texts
never_looks_at_side k s h = cc

octets_there : (f : Ordering → Bool) (g : Pair → Option (List ℕ)) (x : Option Pair) (beside : Option (List ℕ)) → option_map_or f (octets_order (option_and_then g x) beside) false ≡ true → is_some x ≡ true
octets_there f g None beside h = h
octets_there f g (Some x) beside h = refl

side_there : (d : Dictionary) (s : State) (captures : Captures) (relation : Relation) (left : TextSide) (text : List ℕ) → option_map_or (meets relation) (order_beside d s captures left text) false ≡ true → list_all (is_there s) (side_mentions left) ≡ true
side_there d s captures relation (side.Text parts) text h = refl
side_there d s captures relation (side.Instance list id selection) text h =
    and_true (is_there s (selected list id selection)) true
    (found_first (is_selected selection id) (list_of list s) ∙ octets_there (meets relation) (λ pair. own_octets pair.value) (first_selected_instance selection id (list_of list s)) (text_beside (type_of d id) text) h) refl

pub texts_there : (d : Dictionary) (captures : Captures) → LooksAtItsSide (λ k s. is_met_by_texts d k s captures)
texts_there d captures k s h = side_there d s captures k.relation k.left (filled_text d s captures k.right) h

pub both_assoc : (a b d : Answer) → answer_both (answer_both a b) d ≡ answer_both a (answer_both b d)
both_assoc None b d = refl
both_assoc (Some true) b d = refl
both_assoc (Some false) b d = refl

pub either_assoc : (a b d : Answer) → answer_either (answer_either a b) d ≡ answer_either a (answer_either b d)
either_assoc None b d = refl
either_assoc (Some true) b d = refl
either_assoc (Some false) b d = refl

pub both_yes : (a : Answer) → a ≡ answer_both a (Some true)
both_yes None = refl
both_yes (Some true) = refl
both_yes (Some false) = refl

pub either_no : (a : Answer) → a ≡ answer_either a (Some false)
either_no None = refl
either_no (Some true) = refl
either_no (Some false) = refl

pub and_assoc : (a b d : Bool) → ((a && b) && d) ≡ (a && (b && d))
and_assoc true b d = refl
and_assoc false b d = refl

pub or_assoc : (a b d : Bool) → ((a || b) || d) ≡ (a || (b || d))
or_assoc true b d = refl
or_assoc false b d = refl

pub and_yes : (a : Bool) → a ≡ (a && true)
and_yes true = refl
and_yes false = refl

pub or_no : (a : Bool) → a ≡ (a || false)
or_no true = refl
or_no false = refl

-- ---- conditions

module _ (s : State) where
  pub silent_of : (b : Bool) (m : Mention) → is_there s m ≡ false → present_when b silent ≡ false
  silent_of true m absent = refl
  silent_of false m absent = refl

  pub told_there : (x : Mention) (b : Bool) → is_there s x ≡ b → (m : Mention) → is_there s m ≡ false → present_when b (asked (implies x m)) ≡ false
  told_there x true e m absent = not_implied s x m e absent
  told_there x false e m absent = refl

  pub said_same : (say also : Mention → Absence) (ms : List Mention) (a : Answer) (t : Bool) → ((m : Mention) → say m ≡ also m) → Sound s say ms a t → Sound s also ms a t
  said_same say also ms a t e p = (
    (λ m h. ap (present_when t) (sym (e m)) ∙ p.0 m h),
    p.1,
    (λ k. any_mono (misses s say t) (misses s also t) (λ m h. ap (λ z. not (is_there s m) && overlooked_when t z) (sym (e m)) ∙ h) ms (p.2 k)),
  )

  pub agreeing : (say : Mention → Absence) (ms : List Mention) (a : Answer) (t : Bool) → Sound s say ms a t → list_any (λ (m : Mention). (say m).overlooked_when_true) ms ≡ false → t ≡ is_true a
  agreeing say ms (Some b) t p h = p.1 b refl
  agreeing say ms None false p h = refl
  agreeing say ms None true p h =
      sym (any_mono (misses s say true) (λ m. (say m).overlooked_when_true) (λ m k. and_right (not (is_there s m)) ((say m).overlooked_when_true) k) ms (p.2 refl)) ∙ h

module _ (printed : Printed) (looks : LooksAtItsOwn printed.matched) (looks_at_side : LooksAtItsSide printed.texts) (s : State) (c : Code) where
  abbrev Answered : Cond → Asked
  Answered = fold-Cond Asked (cond_answer_with printed)

  abbrev Given : Cond → Test
  Given = fold-Cond Test (cond_truth_with printed)

  abbrev IsSound : Cond → Type 0
  IsSound k = Sound s (λ m. said_of m k) (mentions k) (Answered k s c) (Given k s c)

  abbrev Such : Type 0
  Such = (k : Cond) × IsSound k

  abbrev the_conds : List Such → List Cond
  the_conds es = map (λ e. e.0) es

  abbrev layer : Cond-F Such → Cond-F Cond
  layer = map-Cond Such Cond (λ e. e.0)

  abbrev answers : List Such → Answer
  answers es = answer_all (map Answered (the_conds es)) s c

  abbrev any_answers : List Such → Answer
  any_answers es = answer_any (map Answered (the_conds es)) s c

  abbrev all_true : List Such → Bool
  all_true es = list_all (λ (test : Test). test s c) (map Given (the_conds es))

  abbrev any_true : List Such → Bool
  any_true es = list_any (λ (test : Test). test s c) (map Given (the_conds es))

  abbrev the_mentions : List Such → List Mention
  the_mentions es = all_parts (map mentions (the_conds es))

  all_sound : (es : List Such) (say : Mention → Absence) (ms : List Mention) (a : Answer) (t : Bool) → Sound s say ms a t → Sound s (λ m. all_of (say m) (map (said_of m) (the_conds es))) (ms ++ the_mentions es) (answer_both a (answers es)) (t && all_true es)
  all_sound [] say ms a t p = sound_same s say ms (ms ++ []) a (answer_both a (Some true)) t (t && true) (sym (append-nil ms)) (both_yes a) (and_yes t) p
  all_sound (e ∷ es) say ms a t p =
      let also = λ (m : Mention). said_of m e.0 in
      let joint = λ (m : Mention). both (say m) (also m) in
      let answered = answer_both a (Answered e.0 s c) in
      let value = t && Given e.0 s c in
      sound_same s (λ m. all_of (joint m) (map (said_of m) (the_conds es))) ((ms ++ mentions e.0) ++ the_mentions es) (ms ++ (mentions e.0 ++ the_mentions es))
      (answer_both answered (answers es)) (answer_both a (answer_both (Answered e.0 s c) (answers es))) (value && all_true es) (t && (Given e.0 s c && all_true es))
      (append_assoc ms (mentions e.0) (the_mentions es)) (both_assoc a (Answered e.0 s c) (answers es)) (and_assoc t (Given e.0 s c) (all_true es))
      (all_sound es joint (ms ++ mentions e.0) answered value (sound_both s say also ms (mentions e.0) a (Answered e.0 s c) t (Given e.0 s c) p e.1))

  any_sound : (es : List Such) (say : Mention → Absence) (ms : List Mention) (a : Answer) (t : Bool) → Sound s say ms a t → Sound s (λ m. any_of (say m) (map (said_of m) (the_conds es))) (ms ++ the_mentions es) (answer_either a (any_answers es)) (t || any_true es)
  any_sound [] say ms a t p = sound_same s say ms (ms ++ []) a (answer_either a (Some false)) t (t || false) (sym (append-nil ms)) (either_no a) (or_no t) p
  any_sound (e ∷ es) say ms a t p =
      let also = λ (m : Mention). said_of m e.0 in
      let joint = λ (m : Mention). either (say m) (also m) in
      let answered = answer_either a (Answered e.0 s c) in
      let value = t || Given e.0 s c in
      sound_same s (λ m. any_of (joint m) (map (said_of m) (the_conds es))) ((ms ++ mentions e.0) ++ the_mentions es) (ms ++ (mentions e.0 ++ the_mentions es))
      (answer_either answered (any_answers es)) (answer_either a (answer_either (Answered e.0 s c) (any_answers es))) (value || any_true es) (t || (Given e.0 s c || any_true es))
      (append_assoc ms (mentions e.0) (the_mentions es)) (either_assoc a (Answered e.0 s c) (any_answers es)) (or_assoc t (Given e.0 s c) (any_true es))
      (any_sound es joint (ms ++ mentions e.0) answered value (sound_either s say also ms (mentions e.0) a (Answered e.0 s c) t (Given e.0 s c) p e.1))

  abbrev LayerSound : Cond-F Cond → Type 0
  LayerSound x =
      Sound s (λ m. cond_absence m (map-Cond Cond Absence (said_of m) x)) (cond_mentions (map-Cond Cond (List Mention) mentions x))
      (cond_answer_with printed (map-Cond Cond Asked Answered x) s c) (cond_truth_with printed (map-Cond Cond Test Given x) s c)

  layer_sound : (y : Cond-F Such) → LayerSound (layer y)
  layer_sound (Any parts) = any_sound parts (λ m. negated always) [] (Some false) false (sound_told s (λ m. negated always) false (λ m absent. refl))
  layer_sound (All parts) = all_sound parts (λ m. always) [] (Some true) true (sound_told s (λ m. always) true (λ m absent. refl))
  layer_sound (Not part) = sound_negated s (λ m. said_of m part.0) (mentions part.0) (Answered part.0 s c) (Given part.0 s c) part.1
  layer_sound (Last word) = sound_told s (λ m. silent) (same_code c word) (silent_of s (same_code c word))
  layer_sound (Present list id) =
      sound_told s (λ m. asked (implies (whole list id) m)) (has_instance id (list_of list s)) (told_there s (whole list id) (has_instance id (list_of list s)) refl)
  layer_sound (PresentSelected list id selection) =
      let there = has_selected selection id (list_of list s) in
      sound_same s (λ m. asked (implies (selected list id selection) m)) [] [] (Some there) (Some there) there (is_some (first_selected_instance selection id (list_of list s)))
      refl refl (found_first (is_selected selection id) (list_of list s))
      (sound_told s (λ m. asked (implies (selected list id selection) m)) there (told_there s (selected list id selection) there refl))
  layer_sound (Compare k) = sound_compared s (comparison_mentions k) (is_met k s) (met_there k s)
  layer_sound (CompareMeant k) = sound_compared s (meant_comparison_mentions k) (is_met_by_meaning k s) (meant_there k s)
  layer_sound (CompareTexts k) = sound_compared s (side_mentions k.left) (printed.texts k s) (looks_at_side k s)
  layer_sound (Match k) = sound_compared s (matching_mentions k) (printed.matched k s) (matching_there printed.matched looks k s)
  layer_sound (MatchText k) = sound_told s (λ m. silent) (printed.text_matched k s) (silent_of s (printed.text_matched k s))
  layer_sound (MatchGroup k) = sound_told s (λ m. silent) (printed.group_matched k) (silent_of s (printed.group_matched k))
  layer_sound (Captured group) = sound_told s (λ m. silent) false (silent_of s false)

  rolled : (x : Cond-F Cond) → LayerSound x → IsSound (roll-Cond x)
  unfolding said_of mentions
  rolled x p =
      said_same s (λ m. cond_absence m (map-Cond Cond Absence (said_of m) x)) (λ m. said_of m (roll-Cond x)) (mentions (roll-Cond x)) (Answered (roll-Cond x) s c) (Given (roll-Cond x) s c)
      (λ m. sym (fold-roll-Cond Absence (cond_absence m) x))
      (sound_same s (λ m. cond_absence m (map-Cond Cond Absence (said_of m) x)) (cond_mentions (map-Cond Cond (List Mention) mentions x)) (mentions (roll-Cond x))
      (cond_answer_with printed (map-Cond Cond Asked Answered x) s c) (Answered (roll-Cond x) s c) (cond_truth_with printed (map-Cond Cond Test Given x) s c) (Given (roll-Cond x) s c)
      (sym (fold-roll-Cond (List Mention) cond_mentions x))
      (ap (λ (f : Asked). f s c) (sym (fold-roll-Cond Asked (cond_answer_with printed) x)))
      (ap (λ (f : Test). f s c) (sym (fold-roll-Cond Test (cond_truth_with printed) x))) p)

  pub sound : (k : Cond) → IsSound k
  sound = ind-Cond IsSound (λ x y is. subst (λ z. IsSound (roll-Cond z)) is (rolled (layer y) (layer_sound y)))

  both_agree : (k : Cond) → warns_of_absence k ≡ false → Given k s c ≡ is_true (Answered k s c)
  both_agree k h = agreeing s (λ m. said_of m k) (mentions k) (Answered k s c) (Given k s c) (sound k) h

-- without a warning both take the same branch
pub agrees : (k : Cond) (s : State) (c : Code) → warns_of_absence k ≡ false → truth k s c ≡ server_truth k s c
unfolding truth server_answer
agrees k s c h = both_agree nothing_printed never_looks never_looks_at_side s c k h

pub agrees_by : (d : Dictionary) (k : Cond) (s : State) (c : Code) → warns_of_absence k ≡ false → truth_by d k s c ≡ server_truth_by d k s c
unfolding truth_by server_answer_by
agrees_by d k s c h = both_agree (printed_by d) (matched_looks d) (texts_there d no_captures) s c k h
