-- What our conditions come to, and a server's.
use Rattle.std.proofs.Common.{◌≡◌, ℕ, Bool, true, false, not, ◌&&◌, ◌||◌, ◌++◌, List, [], ◌∷◌, Option, Some, None, IsTrue, refl, sym, ap, ◌∙◌, cond, filter, is_some}
use Rattle.std.specs.List.{list_all, list_any}
use Rattle.std.specs.Option.{option_and_then, option_map, option_map_or}
use Rattle.std.specs.declared.cmp.Ordering.{Ordering}
use Rattle.avp_lists.specs.Instances.{first_instance, front, has_id, has_instance}
use Rattle.avp_lists.specs.Selections.{first_selected_instance, has_selected}
use Rattle.avp_lists.specs.States.{list_of}
use Rattle.avp_lists.specs.Tags.{is_selected, is_tag, tag_of}
use Rattle.avp_lists.specs.declared.pairs.AttrId.{AttrId}
use Rattle.avp_lists.specs.declared.pairs.Pair.{Pair}
use Rattle.avp_lists.specs.declared.pairs.Value.{Value}
use Rattle.avp_lists.specs.declared.lists.List.{List as Name}
use Rattle.avp_lists.specs.declared.lists.State.{State}
use Rattle.avp_lists.specs.declared.tags.Selection.{Selection}
use Rattle.avp_lists.specs.declared.tags.Selection.TheVariants as selections
use Rattle.avp_dict.specs.Dictionary.{Dictionary}
use Rattle.avp_dict.specs.declared.entries.Kind.{Kind}
use Rattle.avp_unlang.specs.Captures.{Captures, no_captures}
use Rattle.avp_unlang.specs.PatternTruth.{agrees, instance_in, is_matched}
use Rattle.avp_unlang.specs.References.{type_of}
use Rattle.avp_unlang.specs.Relations.{meets}
use Rattle.avp_unlang.specs.Resolutions.{meaning_put}
use Rattle.avp_unlang.specs.Texts.{filled_text, is_met_by_texts, octets_order, order_beside, own_octets, text_beside}
use Rattle.avp_unlang.specs.Truth.{are_related, compared_with, first_value, is_met, never_matched, nothing_printed, printed_by, same_code, truth, truth_by, value_in}
use Rattle.avp_unlang.specs.declared.codes.Code.{Code}
use Rattle.avp_unlang.specs.declared.tree.Comparand.TheVariants as comparand
use Rattle.avp_unlang.specs.declared.tree.Comparison.{Comparison}
use Rattle.avp_unlang.specs.declared.tree.Cond.{Cond}
use Rattle.avp_unlang.specs.declared.tree.Cond.TheVariants.{Any, All, Not, Last, Present, PresentSelected, Compare, CompareTexts, Match, MatchText, MatchGroup, Captured}
use Rattle.avp_unlang.specs.declared.tree.GroupMatching.{GroupMatching}
use Rattle.avp_unlang.specs.declared.tree.Matching.{Matching}
use Rattle.avp_unlang.specs.declared.tree.Part.{Part}
use Rattle.avp_unlang.specs.declared.tree.Relation.{Relation}
use Rattle.avp_unlang.specs.declared.tree.TextComparison.{TextComparison}
use Rattle.avp_unlang.specs.declared.tree.TextSide.{TextSide}
use Rattle.avp_unlang.specs.declared.tree.TextSide.TheVariants as side
use Rattle.avp_unlang.proofs.Truths.{given_any, given_all, given_captured, given_compare, given_compare_texts, given_last, given_match, given_match_group, given_match_text, given_not, given_present, given_present_selected}
use Rattle.radpolicy_import_conditions.specs.Conditions.{Answer, answer_both, answer_either, compared, comparison_answer, is_side_there, is_true, is_false, matching_answer, texts_answer}
use Rattle.radpolicy_import_conditions.specs.internal.Guards.{Matches, truth_of}

-- ---- the truth of each kind of condition, whichever comparisons with patterns are met

truth_of_any : (m : Matches) (cs : List Cond) (s : State) (c : Code) → truth_of m (Any cs) s c ≡ list_any (λ cond. truth_of m cond s c) cs
unfolding truth_of
truth_of_any m = given_any m.printed

truth_of_all : (m : Matches) (cs : List Cond) (s : State) (c : Code) → truth_of m (All cs) s c ≡ list_all (λ cond. truth_of m cond s c) cs
unfolding truth_of
truth_of_all m = given_all m.printed

truth_of_not : (m : Matches) (d : Cond) (s : State) (c : Code) → truth_of m (Not d) s c ≡ not (truth_of m d s c)
unfolding truth_of
truth_of_not m = given_not m.printed

truth_of_last : (m : Matches) (word : Code) (s : State) (c : Code) → truth_of m (Last word) s c ≡ same_code c word
unfolding truth_of
truth_of_last m = given_last m.printed

truth_of_present : (m : Matches) (list : Name) (id : AttrId) (s : State) (c : Code)
    → truth_of m (Present list id) s c ≡ is_some (first_instance id (list_of list s))
unfolding truth_of
truth_of_present m = given_present m.printed

truth_of_present_selected : (m : Matches) (list : Name) (id : AttrId) (selection : Selection) (s : State) (c : Code)
    → truth_of m (PresentSelected list id selection) s c ≡ is_some (first_selected_instance selection id (list_of list s))
unfolding truth_of
truth_of_present_selected m = given_present_selected m.printed

truth_of_compare : (m : Matches) (k : Comparison) (s : State) (c : Code) → truth_of m (Compare k) s c ≡ is_met k s
unfolding truth_of
truth_of_compare m = given_compare m.printed

truth_of_match : (m : Matches) (k : Matching) (s : State) (c : Code) → truth_of m (Match k) s c ≡ m.printed.matched k s
unfolding truth_of
truth_of_match m = given_match m.printed

truth_of_texts : (m : Matches) (k : TextComparison) (s : State) (c : Code) → truth_of m (CompareTexts k) s c ≡ m.printed.texts k s
unfolding truth_of
truth_of_texts m = given_compare_texts m.printed

truth_of_match_text : (m : Matches) (k : Matching) (s : State) (c : Code) → truth_of m (MatchText k) s c ≡ m.printed.text_matched k s
unfolding truth_of
truth_of_match_text m = given_match_text m.printed

truth_of_match_group : (m : Matches) (k : GroupMatching) (s : State) (c : Code) → truth_of m (MatchGroup k) s c ≡ m.printed.group_matched k
unfolding truth_of
truth_of_match_group m = given_match_group m.printed

truth_of_captured : (m : Matches) (group : ℕ) (s : State) (c : Code) → truth_of m (Captured group) s c ≡ false
unfolding truth_of
truth_of_captured m = given_captured m.printed

-- ---- two sets of them

pub never_there : (k : Matching) (s : State) → IsTrue (never_matched k s) → IsTrue (has_selected k.selection k.id (list_of k.list s))
never_there k s h = cc

pub no_text_there : (k : TextComparison) (s : State) → IsTrue (nothing_printed.texts k s) → IsTrue (is_side_there k.left s)
no_text_there k s h = cc

abbrev pub none_met : Matches
none_met = record { printed = nothing_printed; is_there = never_there; is_text_there = no_text_there }

pub truth_of_none : (cond : Cond) (s : State) (c : Code) → truth cond s c ≡ truth_of none_met cond s c
unfolding truth truth_of
truth_of_none cond s c = refl

pub found_selected : (f : Pair → Bool) (pairs : List Pair) → list_any f pairs ≡ is_some (front (filter f pairs))
found_selected f [] = refl
found_selected f (p ∷ ps) =
    elim (f p) as (λ b. (b || list_any f ps) ≡ is_some (front (cond b (p ∷ filter f ps) (filter f ps)))) [
      | true ↦ refl
      | false ↦ found_selected f ps
    ]

instance_there : (k : Matching) (d : Dictionary) (x : Option Pair) → IsTrue (option_map_or (λ pair. agrees k (meaning_put d pair)) x false)
    → IsTrue (is_some x)
instance_there k d None h = h
instance_there k d (Some x) h = refl

pub matched_there : (d : Dictionary) (k : Matching) (s : State) → IsTrue (is_matched d k s)
    → IsTrue (has_selected k.selection k.id (list_of k.list s))
matched_there d k s h =
    found_selected (is_selected k.selection k.id) (list_of k.list s) ∙ instance_there k d (instance_in k s) h

ordered_there : (octets : Pair → Option (List ℕ)) (beside : Option (List ℕ)) (is_met : Ordering → Bool) (x : Option Pair)
    → IsTrue (option_map_or is_met (octets_order (option_and_then octets x) beside) false) → IsTrue (is_some x)
ordered_there octets beside is_met None h = h
ordered_there octets beside is_met (Some x) h = refl

side_there : (d : Dictionary) (captures : Captures) (side : TextSide) (is_met : Ordering → Bool) (text : List ℕ) (s : State)
    → IsTrue (option_map_or is_met (order_beside d s captures side text) false) → IsTrue (is_side_there side s)
side_there d captures (side.Text parts) is_met text s h = refl
side_there d captures (side.Instance list id selection) is_met text s h =
    found_selected (is_selected selection id) (list_of list s)
    ∙ ordered_there (λ pair. own_octets pair.value) (text_beside (type_of d id) text) is_met (first_selected_instance selection id (list_of list s)) h

pub texts_there : (d : Dictionary) (captures : Captures) (k : TextComparison) (s : State) → IsTrue (is_met_by_texts d k s captures)
    → IsTrue (is_side_there k.left s)
texts_there d captures k s h = side_there d captures k.left (meets k.relation) (filled_text d s captures k.right) s h

abbrev pub met_by : Dictionary → Matches
met_by d = record {
  printed = printed_by d;
  is_there = matched_there d;
  is_text_there = texts_there d no_captures;
}

pub truth_of_by : (d : Dictionary) (cond : Cond) (s : State) (c : Code) → truth_by d cond s c ≡ truth_of (met_by d) cond s c
unfolding truth_by truth_of
truth_of_by d cond s c = refl

and_true : (b : Bool) → (b && true) ≡ b
and_true true = refl
and_true false = refl

or_false : (b : Bool) → (b || false) ≡ b
or_false true = refl
or_false false = refl

pub all_two : (m : Matches) (x y : Cond) (s : State) (c : Code) → truth_of m (All (x ∷ y ∷ [])) s c ≡ (truth_of m x s c && truth_of m y s c)
all_two m x y s c = truth_of_all m (x ∷ y ∷ []) s c ∙ ap (λ b. truth_of m x s c && b) (and_true (truth_of m y s c))

pub any_two : (m : Matches) (x y : Cond) (s : State) (c : Code) → truth_of m (Any (x ∷ y ∷ [])) s c ≡ (truth_of m x s c || truth_of m y s c)
any_two m x y s c = truth_of_any m (x ∷ y ∷ []) s c ∙ ap (λ b. truth_of m x s c || b) (or_false (truth_of m y s c))

found_first : (id : AttrId) (pairs : List Pair) → has_instance id pairs ≡ is_some (first_instance id pairs)
found_first id [] = refl
found_first id (p ∷ ps) =
    elim (has_id id p) as (λ b. (b || list_any (has_id id) ps) ≡ is_some (front (cond b (p ∷ filter (has_id id) ps) (filter (has_id id) ps)))) [
      | true ↦ refl
      | false ↦ found_first id ps
    ]

is_some_map : {A B : Type 0} (f : A → B) (x : Option A) → is_some (option_map f x) ≡ is_some x
is_some_map f None = refl
is_some_map f (Some x) = refl

-- an attribute is present where it has a first value
pub found_value : (list : Name) (id : AttrId) (s : State) → has_instance id (list_of list s) ≡ is_some (first_value list id s)
found_value list id s = found_first id (list_of list s) ∙ sym (is_some_map value_in (first_instance id (list_of list s)))

pub truth_there : (m : Matches) (list : Name) (id : AttrId) (s : State) (c : Code) → truth_of m (Present list id) s c ≡ has_instance id (list_of list s)
truth_there m list id s c = truth_of_present m list id s c ∙ sym (found_first id (list_of list s))

both_there : (k : Kind) (r : Relation) (x y : Option Value) → is_some (compared k r x y) ≡ (is_some x && is_some y)
both_there k r None y = refl
both_there k r (Some x) None = refl
both_there k r (Some x) (Some y) = refl

-- a comparison with a literal has an answer where its attribute is present
pub answer_literal : (k : Comparison) (v : Value) (s : State) → k.comparand ≡ comparand.Literal v
    → is_some (comparison_answer k s) ≡ has_instance k.id (list_of k.list s)
answer_literal k v s h =
    both_there k.kind k.relation (first_value k.list k.id s) (compared_with k.comparand s)
    ∙ ap (λ x. is_some (first_value k.list k.id s) && is_some (compared_with x s)) h
    ∙ and_true (is_some (first_value k.list k.id s))
    ∙ sym (found_value k.list k.id s)

-- one with another attribute where both are
pub answer_instance : (k : Comparison) (list : Name) (id : AttrId) (s : State) → k.comparand ≡ comparand.Instance list id
    → is_some (comparison_answer k s) ≡ (has_instance k.id (list_of k.list s) && has_instance id (list_of list s))
answer_instance k list id s h =
    both_there k.kind k.relation (first_value k.list k.id s) (compared_with k.comparand s)
    ∙ ap (λ x. is_some (first_value k.list k.id s) && is_some (compared_with x s)) h
    ∙ ap (λ b. b && is_some (first_value list id s)) (sym (found_value k.list k.id s))
    ∙ ap (λ b. has_instance k.id (list_of k.list s) && b) (sym (found_value list id s))

pub related : (k : Kind) (r : Relation) (x y : Option Value) → are_related k r x y ≡ is_true (compared k r x y)
related k r None y = refl
related k r (Some x) None = refl
related k r (Some x) (Some y) = refl

-- our comparison is true where the server's answer is
pub truth_met : (m : Matches) (k : Comparison) (s : State) (c : Code) → truth_of m (Compare k) s c ≡ is_true (comparison_answer k s)
truth_met m k s c = truth_of_compare m k s c ∙ related k.kind k.relation (first_value k.list k.id s) (compared_with k.comparand s)

pub false_there : (a : Answer) → (is_some a && not (is_true a)) ≡ is_false a
false_there None = refl
false_there (Some b) = refl

pub true_not : (a : Answer) → is_true (option_map not a) ≡ is_false a
true_not None = refl
true_not (Some b) = refl

not_not : (b : Bool) → not (not b) ≡ b
not_not true = refl
not_not false = refl

pub false_not : (a : Answer) → is_false (option_map not a) ≡ is_true a
false_not None = refl
false_not (Some b) = not_not b

pub true_both : (a b : Answer) → is_true (answer_both a b) ≡ (is_true a && is_true b)
true_both None b = refl
true_both (Some true) b = refl
true_both (Some false) b = refl

pub false_either : (a b : Answer) → is_false (answer_either a b) ≡ (is_false a && is_false b)
false_either None b = refl
false_either (Some true) b = refl
false_either (Some false) b = refl

-- the guard of `||` that a first answer of false is
pub guarded_by_false : (a b : Answer) → (is_true a || (is_false a && is_true b)) ≡ is_true (answer_either a b)
guarded_by_false None b = refl
guarded_by_false (Some true) b = refl
guarded_by_false (Some false) b = refl

-- that there is an answer
pub guarded_by_answer : (a b : Answer) → (is_true a || (is_some a && is_true b)) ≡ is_true (answer_either a b)
guarded_by_answer None b = refl
guarded_by_answer (Some true) b = refl
guarded_by_answer (Some false) b = refl

-- none where there always is one
pub unguarded : (a b : Answer) → is_some a ≡ true → (is_true a || (true && is_true b)) ≡ is_true (answer_either a b)
unguarded None b h = cc
unguarded (Some true) b h = refl
unguarded (Some false) b h = refl

pub false_guarded : (a b : Answer) → (is_false a || (is_true a && is_false b)) ≡ is_false (answer_both a b)
false_guarded None b = refl
false_guarded (Some true) b = refl
false_guarded (Some false) b = refl

pub false_unguarded : (a b : Answer) → is_some a ≡ true → (is_false a || (true && is_false b)) ≡ is_false (answer_both a b)
false_unguarded None b h = cc
false_unguarded (Some true) b h = refl
false_unguarded (Some false) b h = refl

pub some_both : (a b : Answer) → is_some a ≡ true → is_some b ≡ true → is_some (answer_both a b) ≡ true
some_both None b h k = h
some_both (Some true) b h k = k
some_both (Some false) b h k = refl

pub some_either : (a b : Answer) → is_some a ≡ true → is_some b ≡ true → is_some (answer_either a b) ≡ true
some_either None b h k = h
some_either (Some true) b h k = refl
some_either (Some false) b h k = k

pub some_not : (a : Answer) → is_some a ≡ true → is_some (option_map not a) ≡ true
some_not None h = h
some_not (Some b) h = refl

-- ---- as the code makes them

pub all_pushed : (m : Matches) (x y : Cond) (xs ys zs made : List Cond) (s : State) (c : Code) → xs ≡ [] → ys ≡ xs ++ x ∷ []
    → zs ≡ ys ++ y ∷ [] → made ≡ zs → truth_of m (All made) s c ≡ (truth_of m x s c && truth_of m y s c)
all_pushed m x y xs ys zs made s c none one two all =
    let same : made ≡ x ∷ y ∷ [] = all ∙ two ∙ ap (λ l. l ++ y ∷ []) (one ∙ ap (λ l. l ++ x ∷ []) none) in
    ap (λ l. truth_of m (All l) s c) same ∙ all_two m x y s c

pub any_pushed : (m : Matches) (x y : Cond) (xs ys zs made : List Cond) (s : State) (c : Code) → xs ≡ [] → ys ≡ xs ++ x ∷ []
    → zs ≡ ys ++ y ∷ [] → made ≡ zs → truth_of m (Any made) s c ≡ (truth_of m x s c || truth_of m y s c)
any_pushed m x y xs ys zs made s c none one two all =
    let same : made ≡ x ∷ y ∷ [] = all ∙ two ∙ ap (λ l. l ++ y ∷ []) (one ∙ ap (λ l. l ++ x ∷ []) none) in
    ap (λ l. truth_of m (Any l) s c) same ∙ any_two m x y s c

pub negated_made : (m : Matches) (x y : Cond) (s : State) (c : Code) → y ≡ x → truth_of m (Not y) s c ≡ not (truth_of m x s c)
negated_made m x y s c e = ap (λ k. truth_of m (Not k) s c) e ∙ truth_of_not m x s c

or_not : (x : Bool) → (x || not x) ≡ true
or_not true = refl
or_not false = refl

and_not : (x : Bool) → (x && not x) ≡ false
and_not true = refl
and_not false = refl

pub or_negated : (z x y : Bool) → z ≡ (x || y) → y ≡ not x → z ≡ true
or_negated z x y e n = e ∙ ap (λ b. x || b) n ∙ or_not x

pub and_negated : (z x y : Bool) → z ≡ (x && y) → y ≡ not x → z ≡ false
and_negated z x y e n = e ∙ ap (λ b. x && b) n ∙ and_not x

pub sides_literal : (m : Matches) (k : Comparison) (v : Value) (s : State) (c : Code) → k.comparand ≡ comparand.Literal v
    → truth_of m (Present k.list k.id) s c ≡ is_some (comparison_answer k s)
sides_literal m k v s c h = truth_there m k.list k.id s c ∙ sym (answer_literal k v s h)

pub sides_instance : (m : Matches) (k : Comparison) (list : Name) (id : AttrId) (s : State) (c : Code) (z : Bool)
    → k.comparand ≡ comparand.Instance list id → z ≡ (truth_of m (Present k.list k.id) s c && truth_of m (Present list id) s c)
    → z ≡ is_some (comparison_answer k s)
sides_instance m k list id s c z h e =
    e ∙ ap (λ b. b && truth_of m (Present list id) s c) (truth_there m k.list k.id s c)
    ∙ ap (λ b. has_instance k.id (list_of k.list s) && b) (truth_there m list id s c) ∙ sym (answer_instance k list id s h)

pub unmet_copy : (m : Matches) (k copy : Comparison) (s : State) (c : Code) (z : Bool) → copy ≡ k → z ≡ not (truth_of m (Compare copy) s c)
    → z ≡ not (is_true (comparison_answer k s))
unmet_copy m k copy s c z same e = e ∙ ap (λ x. not (truth_of m (Compare x) s c)) same ∙ ap not (truth_met m k s c)

pub differs_of : (a : Answer) (z x y : Bool) → z ≡ (x && y) → x ≡ is_some a → y ≡ not (is_true a) → z ≡ is_false a
differs_of a z x y e there unmet = e ∙ ap (λ k. k && y) there ∙ ap (λ k. is_some a && k) unmet ∙ false_there a

first_there : (k : Kind) (r : Relation) (x y : Option Value) → IsTrue (is_true (compared k r x y)) → IsTrue (is_some x)
first_there k r None y h = h
first_there k r (Some x) y h = refl

second_there : (k : Kind) (r : Relation) (x y : Option Value) → IsTrue (is_true (compared k r x y)) → IsTrue (is_some y)
second_there k r None y h = cc
second_there k r (Some x) None h = h
second_there k r (Some x) (Some y) h = refl

moved_here : (x y : Bool) → x ≡ y → IsTrue x → IsTrue y
moved_here x y e h = sym e ∙ h

pub moved_present : (l list : Name) (i id : AttrId) (s : State) → l ≡ list → i ≡ id → IsTrue (has_instance i (list_of l s))
    → IsTrue (has_instance id (list_of list s))
moved_present l list i id s e f h =
    moved_here _ _ (ap (λ x. has_instance x (list_of l s)) f ∙ ap (λ x. has_instance id (list_of x s)) e) h

pub left_present : (k : Comparison) (list : Name) (id : AttrId) (s : State) → k.list ≡ list → k.id ≡ id
    → IsTrue (is_true (comparison_answer k s)) → IsTrue (has_instance id (list_of list s))
left_present k list id s e f h =
    moved_present k.list list k.id id s e f
    (moved_here _ _ (sym (found_value k.list k.id s))
    (first_there k.kind k.relation (first_value k.list k.id s) (compared_with k.comparand s) h))

pub right_present : (k : Comparison) (l list : Name) (i id : AttrId) (s : State) → k.comparand ≡ comparand.Instance l i
    → l ≡ list → i ≡ id → IsTrue (is_true (comparison_answer k s)) → IsTrue (has_instance id (list_of list s))
right_present k l list i id s g e f h =
    let there : IsTrue (is_some (compared_with k.comparand s)) =
    second_there k.kind k.relation (first_value k.list k.id s) (compared_with k.comparand s) h in
    moved_present l list i id s e f
    (moved_here _ _ (ap (λ x. is_some (compared_with x s)) g ∙ sym (found_value l i s)) there)

pub from_first : (a b : Answer) (p : Bool) → (IsTrue (is_true a) → IsTrue p) → IsTrue (is_true (answer_both a b)) → IsTrue p
from_first None b p f h = cc
from_first (Some true) b p f h = f refl
from_first (Some false) b p f h = cc

pub from_next : (a b : Answer) (p : Bool) → (IsTrue (is_true b) → IsTrue p) → IsTrue (is_true (answer_both a b)) → IsTrue p
from_next None b p f h = cc
from_next (Some true) b p f h = f h
from_next (Some false) b p f h = cc

pub from_either : (a b : Answer) (p : Bool) → (IsTrue (is_true a) → IsTrue p) → (IsTrue (is_true b) → IsTrue p)
    → IsTrue (is_true (answer_either a b)) → IsTrue p
from_either None b p f g h = cc
from_either (Some true) b p f g h = f refl
from_either (Some false) b p f g h = g h

pub implied_same : (h t : Bool) → (IsTrue t → IsTrue h) → (true && t) ≡ (h && t)
implied_same true t f = refl
implied_same false true f = sym (f refl)
implied_same false false f = refl

pub present_same : (m : Matches) (list : Name) (id : AttrId) (s : State) (c : Code) (t : Bool)
    → (truth_of m (Present list id) s c && t) ≡ (has_instance id (list_of list s) && t)
present_same m list id s c t = ap (λ b. b && t) (truth_there m list id s c)

pub literal_before : (k : Comparison) (v : Value) (s : State) (g t : Bool) → k.comparand ≡ comparand.Literal v
    → (g && t) ≡ (has_instance k.id (list_of k.list s) && t) → (g && t) ≡ (is_some (comparison_answer k s) && t)
literal_before k v s g t h e = e ∙ ap (λ b. b && t) (sym (answer_literal k v s h))

pub sides_here : (a b t : Bool) → a ≡ b → (a && t) ≡ (b && t)
sides_here a b t e = ap (λ x. x && t) e

pub guarded_sides : (a b : Answer) (g : Bool) → (g && is_true b) ≡ (is_some a && is_true b)
    → (is_true a || (g && is_true b)) ≡ is_true (answer_either a b)
guarded_sides a b g e = ap (λ x. is_true a || x) e ∙ guarded_by_answer a b

pub guarded_false : (a b : Answer) (g : Bool) → g ≡ is_false a → (is_true a || (g && is_true b)) ≡ is_true (answer_either a b)
guarded_false a b g e = ap (λ x. is_true a || (x && is_true b)) e ∙ guarded_by_false a b

pub or_with : (z x y w : Bool) → z ≡ (x || y) → y ≡ w → z ≡ (x || w)
or_with z x y w e f = e ∙ ap (λ b. x || b) f

pub false_guarded_by : (a b : Answer) (g : Bool) → g ≡ is_true a → (is_false a || (g && is_false b)) ≡ is_false (answer_both a b)
false_guarded_by a b g e = ap (λ x. is_false a || (x && is_false b)) e ∙ false_guarded a b

pub last_word : (m : Matches) (word : Code) (s : State) (c : Code) → truth_of m (Last word) s c ≡ same_code c word
last_word m word s c = truth_of_last m word s c

pub compare_copied : (m : Matches) (k copy : Comparison) (s : State) (c : Code) → copy ≡ k → truth_of m (Compare copy) s c ≡ is_true (comparison_answer k s)
compare_copied m k copy s c e = ap (λ x. truth_of m (Compare x) s c) e ∙ truth_met m k s c

pub not_last : (m : Matches) (word : Code) (s : State) (c : Code) (z : Bool) → z ≡ not (truth_of m (Last word) s c) → z ≡ not (same_code c word)
not_last m word s c z e = e ∙ ap not (truth_of_last m word s c)

pub captured_false : (m : Matches) (group : ℕ) (s : State) (c : Code) → truth_of m (Captured group) s c ≡ false
captured_false m group s c = truth_of_captured m group s c

pub not_captured : (m : Matches) (group : ℕ) (s : State) (c : Code) (z : Bool) → z ≡ not (truth_of m (Captured group) s c) → z ≡ true
not_captured m group s c z e = e ∙ ap not (truth_of_captured m group s c)

pub not_there : (m : Matches) (list : Name) (id : AttrId) (s : State) (c : Code) (z : Bool) → z ≡ not (truth_of m (Present list id) s c)
    → z ≡ not (has_instance id (list_of list s))
not_there m list id s c z e = e ∙ ap not (truth_there m list id s c)

pub false_of_both : (a b : Answer) (z f g n : Bool) → z ≡ (f || (g && n)) → f ≡ is_false a → n ≡ is_false b
    → (is_false a || (g && is_false b)) ≡ is_false (answer_both a b) → z ≡ is_false (answer_both a b)
false_of_both a b z f g n e x y w = e ∙ ap (λ k. k || (g && n)) x ∙ ap (λ k. is_false a || (g && k)) y ∙ w

pub false_of_either : (a b : Answer) (z f n : Bool) → z ≡ (f && n) → f ≡ is_false a → n ≡ is_false b
    → z ≡ is_false (answer_either a b)
false_of_either a b z f n e x y = e ∙ ap (λ k. k && n) x ∙ ap (λ k. is_false a && k) y ∙ sym (false_either a b)

-- ---- comparisons with patterns

pub selected_instance : (selection : Selection) (id : AttrId) (pairs : List Pair) → IsTrue (has_selected selection id pairs) → IsTrue (has_instance id pairs)
selected_instance selections.All id pairs h = h
selected_instance (selections.EachTag tagging) id pairs h = h
selected_instance (selections.Tag tagging n) id [] h = h
selected_instance (selections.Tag tagging n) id (p ∷ ps) h = by (has_id id p) (selected_instance (selections.Tag tagging n) id ps) h where
  by : (b : Bool) → (IsTrue (has_selected (selections.Tag tagging n) id ps) → IsTrue (has_instance id ps))
      → IsTrue ((b && is_tag n (tag_of tagging p.value)) || has_selected (selections.Tag tagging n) id ps) → IsTrue (b || has_instance id ps)
  by true others e = refl
  by false others e = others e

-- all instances
pub all_there : (m : Matches) (list : Name) (id : AttrId) (selection : Selection) (s : State) (c : Code) → selection ≡ selections.All
    → truth_of m (Present list id) s c ≡ has_selected selection id (list_of list s)
all_there m list id selection s c e = truth_there m list id s c ∙ ap (λ x. has_selected x id (list_of list s)) (sym e)

-- those that are meant
pub some_there : (m : Matches) (list : Name) (id : AttrId) (selection : Selection) (s : State) (c : Code)
    → truth_of m (PresentSelected list id selection) s c ≡ has_selected selection id (list_of list s)
some_there m list id selection s c = truth_of_present_selected m list id selection s c ∙ sym (found_selected (is_selected selection id) (list_of list s))

pub is_answered : (there met : Bool) → (IsTrue met → IsTrue there) → met ≡ is_true (cond there (Some met) None)
is_answered true met f = refl
is_answered false true f = sym (f refl)
is_answered false false f = refl

unanswered : (there met : Bool) → (there && not met) ≡ is_false (cond there (Some met) None)
unanswered true met = refl
unanswered false met = refl

pub some_answered : (there met : Bool) → is_some (cond there (Some met) None) ≡ there
some_answered true met = refl
some_answered false met = refl

there_answered : (there met : Bool) → IsTrue (is_true (cond there (Some met) None)) → IsTrue there
there_answered true met h = refl
there_answered false met h = h

pub match_copied : (m : Matches) (k copy : Matching) (s : State) (c : Code) → copy ≡ k
    → truth_of m (Match copy) s c ≡ is_true (matching_answer m.printed.matched k s)
match_copied m k copy s c e =
    ap (λ x. truth_of m (Match x) s c) e ∙ truth_of_match m k s c
    ∙ is_answered (has_selected k.selection k.id (list_of k.list s)) (m.printed.matched k s) (m.is_there k s)

pub mismatch_of : (m : Matches) (k copy : Matching) (s : State) (c : Code) (z x y : Bool) → copy ≡ k → z ≡ (x && y)
    → x ≡ has_selected k.selection k.id (list_of k.list s) → y ≡ not (truth_of m (Match copy) s c)
    → z ≡ is_false (matching_answer m.printed.matched k s)
mismatch_of m k copy s c z x y same e there unmet =
    let is_unmet : y ≡ not (m.printed.matched k s) = unmet ∙ ap (λ w. not (truth_of m (Match w) s c)) same ∙ ap not (truth_of_match m k s c) in
    e ∙ ap (λ w. w && y) there ∙ ap (λ w. has_selected k.selection k.id (list_of k.list s) && w) is_unmet
    ∙ unanswered (has_selected k.selection k.id (list_of k.list s)) (m.printed.matched k s)

pub matched_present : (m : Matches) (k : Matching) (list : Name) (id : AttrId) (s : State) → k.list ≡ list → k.id ≡ id
    → IsTrue (is_true (matching_answer m.printed.matched k s)) → IsTrue (has_instance id (list_of list s))
matched_present m k list id s e f h =
    moved_present k.list list k.id id s e f
    (selected_instance k.selection k.id (list_of k.list s) (there_answered (has_selected k.selection k.id (list_of k.list s)) (m.printed.matched k s) h))

-- before a condition: all instances
pub matched_before : (m : Matches) (k : Matching) (s : State) (g t : Bool) → k.selection ≡ selections.All
    → (g && t) ≡ (has_instance k.id (list_of k.list s) && t) → (g && t) ≡ (is_some (matching_answer m.printed.matched k s) && t)
matched_before m k s g t e h =
    h ∙ ap (λ x. has_selected x k.id (list_of k.list s) && t) (sym e)
    ∙ ap (λ b. b && t) (sym (some_answered (has_selected k.selection k.id (list_of k.list s)) (m.printed.matched k s)))

-- those that are meant
pub matched_here : (m : Matches) (k : Matching) (s : State) (g t : Bool) → g ≡ has_selected k.selection k.id (list_of k.list s)
    → (g && t) ≡ (is_some (matching_answer m.printed.matched k s) && t)
matched_here m k s g t e =
    ap (λ b. b && t) (e ∙ sym (some_answered (has_selected k.selection k.id (list_of k.list s)) (m.printed.matched k s)))

-- ---- comparisons of texts

pub texts_copied : (m : Matches) (k copy : TextComparison) (s : State) (c : Code) → copy ≡ k
    → truth_of m (CompareTexts copy) s c ≡ is_true (texts_answer m.printed.texts k s)
texts_copied m k copy s c e =
    ap (λ x. truth_of m (CompareTexts x) s c) e ∙ truth_of_texts m k s c
    ∙ is_answered (is_side_there k.left s) (m.printed.texts k s) (m.is_text_there k s)

pub text_match_copied : (m : Matches) (k copy : Matching) (s : State) (c : Code) → copy ≡ k
    → truth_of m (MatchText copy) s c ≡ m.printed.text_matched k s
text_match_copied m k copy s c e = ap (λ x. truth_of m (MatchText x) s c) e ∙ truth_of_match_text m k s c

pub group_match_copied : (m : Matches) (k copy : GroupMatching) (s : State) (c : Code) → copy ≡ k
    → truth_of m (MatchGroup copy) s c ≡ m.printed.group_matched k
group_match_copied m k copy s c e = ap (λ x. truth_of m (MatchGroup x) s c) e ∙ truth_of_match_group m k s c

pub unmet_texts_copy : (m : Matches) (k copy : TextComparison) (s : State) (c : Code) (z : Bool) → copy ≡ k
    → z ≡ not (truth_of m (CompareTexts copy) s c) → z ≡ not (m.printed.texts k s)
unmet_texts_copy m k copy s c z same e = e ∙ ap (λ x. not (truth_of m (CompareTexts x) s c)) same ∙ ap not (truth_of_texts m k s c)

pub text_mismatch_of : (m : Matches) (k copy : Matching) (s : State) (c : Code) (z : Bool) → copy ≡ k
    → z ≡ not (truth_of m (MatchText copy) s c) → z ≡ not (m.printed.text_matched k s)
text_mismatch_of m k copy s c z same e = e ∙ ap not (text_match_copied m k copy s c same)

pub group_mismatch_of : (m : Matches) (k copy : GroupMatching) (s : State) (c : Code) (z : Bool) → copy ≡ k
    → z ≡ not (truth_of m (MatchGroup copy) s c) → z ≡ not (m.printed.group_matched k)
group_mismatch_of m k copy s c z same e = e ∙ ap not (group_match_copied m k copy s c same)

pub texts_differ_of : (m : Matches) (k : TextComparison) (parts : List Part) (s : State) (z : Bool) → k.left ≡ side.Text parts
    → z ≡ not (m.printed.texts k s) → z ≡ is_false (texts_answer m.printed.texts k s)
texts_differ_of m k parts s z h e =
    e ∙ ap (λ x. is_false (cond (is_side_there x s) (Some (m.printed.texts k s)) None)) (sym h)

pub instance_differs_of : (m : Matches) (k : TextComparison) (list : Name) (id : AttrId) (selection : Selection) (s : State) (z x y : Bool)
    → k.left ≡ side.Instance list id selection → z ≡ (x && y) → x ≡ has_selected selection id (list_of list s)
    → y ≡ not (m.printed.texts k s) → z ≡ is_false (texts_answer m.printed.texts k s)
instance_differs_of m k list id selection s z x y h e there unmet =
    e ∙ ap (λ w. w && y) (there ∙ ap (λ w. is_side_there w s) (sym h)) ∙ ap (λ w. is_side_there k.left s && w) unmet
    ∙ unanswered (is_side_there k.left s) (m.printed.texts k s)

pub texts_answered : (m : Matches) (k : TextComparison) (s : State) → is_side_there k.left s ≡ true
    → is_some (texts_answer m.printed.texts k s) ≡ true
texts_answered m k s h = some_answered (is_side_there k.left s) (m.printed.texts k s) ∙ h
