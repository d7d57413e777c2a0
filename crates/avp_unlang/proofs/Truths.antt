-- The truth of each kind of condition, and what each can be compared in.
use Rattle.std.proofs.Common.{◌≡◌, ℕ, Bool, true, false, not, ◌&&◌, ◌||◌, List, [], ◌∷◌, refl, sym, ap, ◌∙◌, map, cond, filter, is_some}
use Rattle.std.specs.List.{list_any, list_all}
use Rattle.avp_lists.specs.Instances.{first_instance, front, has_id, has_instance}
use Rattle.avp_lists.specs.Selections.{first_selected_instance}
use Rattle.avp_lists.specs.States.{list_of}
use Rattle.avp_lists.specs.declared.tags.Selection.{Selection}
use Rattle.avp_lists.specs.declared.pairs.AttrId.{AttrId}
use Rattle.avp_lists.specs.declared.pairs.Pair.{Pair}
use Rattle.avp_lists.specs.declared.lists.List.{List as Name}
use Rattle.avp_lists.specs.declared.lists.State.{State}
use Rattle.avp_unlang.specs.Truth.{Test, cond_comparable, cond_comparable_by, cond_truth_with, comparable, comparable_by, Printed, are_printable, nothing_printed, printed_by, truth_by, is_comparable, is_met, is_met_by_meaning, same_code, truth}
use Rattle.std.specs.Option.{option_map_or}
use Rattle.avp_dict.specs.Dictionary.{Dictionary}
use Rattle.avp_patterns.specs.Patterns.{Written}
use Rattle.avp_unlang.specs.PatternTruth.{instance_in, is_matchable_by, is_matched, pattern_in}
use Rattle.avp_unlang.specs.Captures.{no_captures}
use Rattle.avp_unlang.specs.Texts.{group_pattern, is_group_matched, is_met_by_texts, is_text_matched}
use Rattle.avp_unlang.specs.PolicyPatterns.{cond_layer_passes, cond_patterns_pass, passes}
use Rattle.avp_unlang.specs.declared.codes.Code.{Code}
use Rattle.avp_unlang.specs.declared.tree.Comparison.{Comparison}
use Rattle.avp_unlang.specs.declared.tree.Cond.{Cond}
use Rattle.avp_unlang.specs.declared.tree.GroupMatching.{GroupMatching}
use Rattle.avp_unlang.specs.declared.tree.Matching.{Matching}
use Rattle.avp_unlang.specs.declared.tree.MeantComparison.{MeantComparison}
use Rattle.avp_unlang.specs.declared.tree.TextComparison.{TextComparison}
use Rattle.avp_unlang.specs.declared.tree.Cond.TheFolds.{fold-Cond, fold-roll-Cond}
use Rattle.avp_unlang.specs.declared.tree.Cond.TheOpen as layer
use Rattle.avp_unlang.specs.declared.tree.Cond.TheVariants.{Any, All, Not, Last, Present, PresentSelected, Compare, CompareMeant, CompareTexts, Match, MatchText, MatchGroup, Captured, rolls-Any, rolls-All, rolls-Not, rolls-Last, rolls-Present, rolls-PresentSelected, rolls-Compare, rolls-CompareMeant, rolls-CompareTexts, rolls-Match, rolls-MatchText, rolls-MatchGroup, rolls-Captured}

any_mapped : {A B : Type 0} (f : A → B) (test : B → Bool) (xs : List A) → list_any test (map f xs) ≡ list_any (λ x. test (f x)) xs
any_mapped f test [] = refl
any_mapped f test (x ∷ xs) = ap (λ b. test (f x) || b) (any_mapped f test xs)

all_mapped : {A B : Type 0} (f : A → B) (test : B → Bool) (xs : List A) → list_all test (map f xs) ≡ list_all (λ x. test (f x)) xs
all_mapped f test [] = refl
all_mapped f test (x ∷ xs) = ap (λ b. test (f x) && b) (all_mapped f test xs)

pub found_first : (id : AttrId) (pairs : List Pair) → has_instance id pairs ≡ is_some (first_instance id pairs)
found_first id [] = refl
found_first id (p ∷ ps) =
    elim (has_id id p) as (λ b. (b || list_any (has_id id) ps) ≡ is_some (front (cond b (p ∷ filter (has_id id) ps) (filter (has_id id) ps)))) [
      | true ↦ refl
      | false ↦ found_first id ps
    ]

-- ---- the truth of each kind, whatever comparisons with patterns and of texts come to

module _ (printed : Printed) where
  abbrev pub Given : Cond → Test
  Given = fold-Cond Test (cond_truth_with printed)

  pub given_any : (cs : List Cond) (s : State) (c : Code) → Given (Any cs) s c ≡ list_any (λ cond. Given cond s c) cs
  given_any cs s c =
      ap (λ k. Given k s c) (sym (rolls-Any cs)) ∙ ap (λ (t : Test). t s c) (fold-roll-Cond Test (cond_truth_with printed) (layer.Any cs))
      ∙ any_mapped Given (λ (t : Test). t s c) cs

  pub given_all : (cs : List Cond) (s : State) (c : Code) → Given (All cs) s c ≡ list_all (λ cond. Given cond s c) cs
  given_all cs s c =
      ap (λ k. Given k s c) (sym (rolls-All cs)) ∙ ap (λ (t : Test). t s c) (fold-roll-Cond Test (cond_truth_with printed) (layer.All cs))
      ∙ all_mapped Given (λ (t : Test). t s c) cs

  pub given_not : (d : Cond) (s : State) (c : Code) → Given (Not d) s c ≡ not (Given d s c)
  given_not d s c = ap (λ k. Given k s c) (sym (rolls-Not d)) ∙ ap (λ (t : Test). t s c) (fold-roll-Cond Test (cond_truth_with printed) (layer.Not d))

  pub given_last : (word : Code) (s : State) (c : Code) → Given (Last word) s c ≡ same_code c word
  given_last word s c = ap (λ k. Given k s c) (sym (rolls-Last word)) ∙ ap (λ (t : Test). t s c) (fold-roll-Cond Test (cond_truth_with printed) (layer.Last word))

  pub given_present : (list : Name) (id : AttrId) (s : State) (c : Code) → Given (Present list id) s c ≡ is_some (first_instance id (list_of list s))
  given_present list id s c =
      ap (λ k. Given k s c) (sym (rolls-Present list id)) ∙ ap (λ (t : Test). t s c) (fold-roll-Cond Test (cond_truth_with printed) (layer.Present list id))
      ∙ found_first id (list_of list s)

  pub given_present_selected : (list : Name) (id : AttrId) (selection : Selection) (s : State) (c : Code) → Given (PresentSelected list id selection) s c ≡ is_some (first_selected_instance selection id (list_of list s))
  given_present_selected list id selection s c =
      ap (λ k. Given k s c) (sym (rolls-PresentSelected list id selection)) ∙ ap (λ (t : Test). t s c) (fold-roll-Cond Test (cond_truth_with printed) (layer.PresentSelected list id selection))

  pub given_compare_meant : (k : MeantComparison) (s : State) (c : Code) → Given (CompareMeant k) s c ≡ is_met_by_meaning k s
  given_compare_meant k s c = ap (λ x. Given x s c) (sym (rolls-CompareMeant k)) ∙ ap (λ (t : Test). t s c) (fold-roll-Cond Test (cond_truth_with printed) (layer.CompareMeant k))

  pub given_match : (m : Matching) (s : State) (c : Code) → Given (Match m) s c ≡ printed.matched m s
  given_match m s c = ap (λ x. Given x s c) (sym (rolls-Match m)) ∙ ap (λ (t : Test). t s c) (fold-roll-Cond Test (cond_truth_with printed) (layer.Match m))

  pub given_captured : (group : ℕ) (s : State) (c : Code) → Given (Captured group) s c ≡ false
  given_captured group s c = ap (λ x. Given x s c) (sym (rolls-Captured group)) ∙ ap (λ (t : Test). t s c) (fold-roll-Cond Test (cond_truth_with printed) (layer.Captured group))

  pub given_compare_texts : (k : TextComparison) (s : State) (c : Code) → Given (CompareTexts k) s c ≡ printed.texts k s
  given_compare_texts k s c = ap (λ x. Given x s c) (sym (rolls-CompareTexts k)) ∙ ap (λ (t : Test). t s c) (fold-roll-Cond Test (cond_truth_with printed) (layer.CompareTexts k))

  pub given_match_text : (m : Matching) (s : State) (c : Code) → Given (MatchText m) s c ≡ printed.text_matched m s
  given_match_text m s c = ap (λ x. Given x s c) (sym (rolls-MatchText m)) ∙ ap (λ (t : Test). t s c) (fold-roll-Cond Test (cond_truth_with printed) (layer.MatchText m))

  pub given_match_group : (m : GroupMatching) (s : State) (c : Code) → Given (MatchGroup m) s c ≡ printed.group_matched m
  given_match_group m s c = ap (λ x. Given x s c) (sym (rolls-MatchGroup m)) ∙ ap (λ (t : Test). t s c) (fold-roll-Cond Test (cond_truth_with printed) (layer.MatchGroup m))

  pub given_compare : (k : Comparison) (s : State) (c : Code) → Given (Compare k) s c ≡ is_met k s
  given_compare k s c = ap (λ x. Given x s c) (sym (rolls-Compare k)) ∙ ap (λ (t : Test). t s c) (fold-roll-Cond Test (cond_truth_with printed) (layer.Compare k))

-- ---- conditions that compare with no pattern and no texts, and all

pub truth_any : (cs : List Cond) (s : State) (c : Code) → truth (Any cs) s c ≡ list_any (λ cond. truth cond s c) cs
unfolding truth
truth_any = given_any nothing_printed

pub truth_by_any : (dictionary : Dictionary) (cs : List Cond) (s : State) (c : Code) → truth_by dictionary (Any cs) s c ≡ list_any (λ cond. truth_by dictionary cond s c) cs
unfolding truth_by
truth_by_any dictionary = given_any (printed_by dictionary)

pub truth_all : (cs : List Cond) (s : State) (c : Code) → truth (All cs) s c ≡ list_all (λ cond. truth cond s c) cs
unfolding truth
truth_all = given_all nothing_printed

pub truth_by_all : (dictionary : Dictionary) (cs : List Cond) (s : State) (c : Code) → truth_by dictionary (All cs) s c ≡ list_all (λ cond. truth_by dictionary cond s c) cs
unfolding truth_by
truth_by_all dictionary = given_all (printed_by dictionary)

pub truth_not : (d : Cond) (s : State) (c : Code) → truth (Not d) s c ≡ not (truth d s c)
unfolding truth
truth_not = given_not nothing_printed

pub truth_by_not : (dictionary : Dictionary) (d : Cond) (s : State) (c : Code) → truth_by dictionary (Not d) s c ≡ not (truth_by dictionary d s c)
unfolding truth_by
truth_by_not dictionary = given_not (printed_by dictionary)

pub truth_last : (word : Code) (s : State) (c : Code) → truth (Last word) s c ≡ same_code c word
unfolding truth
truth_last = given_last nothing_printed

pub truth_by_last : (dictionary : Dictionary) (word : Code) (s : State) (c : Code) → truth_by dictionary (Last word) s c ≡ same_code c word
unfolding truth_by
truth_by_last dictionary = given_last (printed_by dictionary)

pub truth_present : (list : Name) (id : AttrId) (s : State) (c : Code) → truth (Present list id) s c ≡ is_some (first_instance id (list_of list s))
unfolding truth
truth_present = given_present nothing_printed

pub truth_by_present : (dictionary : Dictionary) (list : Name) (id : AttrId) (s : State) (c : Code) → truth_by dictionary (Present list id) s c ≡ is_some (first_instance id (list_of list s))
unfolding truth_by
truth_by_present dictionary = given_present (printed_by dictionary)

pub truth_present_selected : (list : Name) (id : AttrId) (selection : Selection) (s : State) (c : Code) → truth (PresentSelected list id selection) s c ≡ is_some (first_selected_instance selection id (list_of list s))
unfolding truth
truth_present_selected = given_present_selected nothing_printed

pub truth_by_present_selected : (dictionary : Dictionary) (list : Name) (id : AttrId) (selection : Selection) (s : State) (c : Code) → truth_by dictionary (PresentSelected list id selection) s c ≡ is_some (first_selected_instance selection id (list_of list s))
unfolding truth_by
truth_by_present_selected dictionary = given_present_selected (printed_by dictionary)

pub truth_compare_meant : (k : MeantComparison) (s : State) (c : Code) → truth (CompareMeant k) s c ≡ is_met_by_meaning k s
unfolding truth
truth_compare_meant = given_compare_meant nothing_printed

pub truth_by_compare_meant : (dictionary : Dictionary) (k : MeantComparison) (s : State) (c : Code) → truth_by dictionary (CompareMeant k) s c ≡ is_met_by_meaning k s
unfolding truth_by
truth_by_compare_meant dictionary = given_compare_meant (printed_by dictionary)

pub truth_match : (m : Matching) (s : State) (c : Code) → truth (Match m) s c ≡ false
unfolding truth
truth_match = given_match nothing_printed

pub truth_by_match : (dictionary : Dictionary) (m : Matching) (s : State) (c : Code) → truth_by dictionary (Match m) s c ≡ is_matched dictionary m s
unfolding truth_by
truth_by_match dictionary = given_match (printed_by dictionary)

pub truth_captured : (group : ℕ) (s : State) (c : Code) → truth (Captured group) s c ≡ false
unfolding truth
truth_captured = given_captured nothing_printed

pub truth_by_captured : (dictionary : Dictionary) (group : ℕ) (s : State) (c : Code) → truth_by dictionary (Captured group) s c ≡ false
unfolding truth_by
truth_by_captured dictionary = given_captured (printed_by dictionary)

pub truth_compare_texts : (k : TextComparison) (s : State) (c : Code) → truth (CompareTexts k) s c ≡ false
unfolding truth
truth_compare_texts = given_compare_texts nothing_printed

pub truth_by_compare_texts : (dictionary : Dictionary) (k : TextComparison) (s : State) (c : Code) → truth_by dictionary (CompareTexts k) s c ≡ is_met_by_texts dictionary k s no_captures
unfolding truth_by
truth_by_compare_texts dictionary = given_compare_texts (printed_by dictionary)

pub truth_match_text : (m : Matching) (s : State) (c : Code) → truth (MatchText m) s c ≡ false
unfolding truth
truth_match_text = given_match_text nothing_printed

pub truth_by_match_text : (dictionary : Dictionary) (m : Matching) (s : State) (c : Code) → truth_by dictionary (MatchText m) s c ≡ is_text_matched dictionary m s
unfolding truth_by
truth_by_match_text dictionary = given_match_text (printed_by dictionary)

pub truth_match_group : (m : GroupMatching) (s : State) (c : Code) → truth (MatchGroup m) s c ≡ false
unfolding truth
truth_match_group = given_match_group nothing_printed

pub truth_by_match_group : (dictionary : Dictionary) (m : GroupMatching) (s : State) (c : Code) → truth_by dictionary (MatchGroup m) s c ≡ is_group_matched m no_captures
unfolding truth_by
truth_by_match_group dictionary = given_match_group (printed_by dictionary)

pub truth_compare : (k : Comparison) (s : State) (c : Code) → truth (Compare k) s c ≡ is_met k s
unfolding truth
truth_compare = given_compare nothing_printed

pub truth_by_compare : (dictionary : Dictionary) (k : Comparison) (s : State) (c : Code) → truth_by dictionary (Compare k) s c ≡ is_met k s
unfolding truth_by
truth_by_compare dictionary = given_compare (printed_by dictionary)

pub comparable_any : (cs : List Cond) (s : State) → comparable (Any cs) s ≡ list_all (λ cond. comparable cond s) cs
unfolding comparable
comparable_any cs s =
    ap (λ k. comparable k s) (sym (rolls-Any cs)) ∙ ap (λ (t : State → Bool). t s) (fold-roll-Cond (State → Bool) cond_comparable (layer.Any cs))
    ∙ all_mapped comparable (λ (t : State → Bool). t s) cs

pub comparable_all : (cs : List Cond) (s : State) → comparable (All cs) s ≡ list_all (λ cond. comparable cond s) cs
unfolding comparable
comparable_all cs s =
    ap (λ k. comparable k s) (sym (rolls-All cs)) ∙ ap (λ (t : State → Bool). t s) (fold-roll-Cond (State → Bool) cond_comparable (layer.All cs))
    ∙ all_mapped comparable (λ (t : State → Bool). t s) cs

pub comparable_not : (d : Cond) (s : State) → comparable (Not d) s ≡ comparable d s
unfolding comparable
comparable_not d s = ap (λ k. comparable k s) (sym (rolls-Not d)) ∙ ap (λ (t : State → Bool). t s) (fold-roll-Cond (State → Bool) cond_comparable (layer.Not d))

pub comparable_compare : (k : Comparison) (s : State) → comparable (Compare k) s ≡ is_comparable k s
unfolding comparable
comparable_compare k s = ap (λ x. comparable x s) (sym (rolls-Compare k)) ∙ ap (λ (t : State → Bool). t s) (fold-roll-Cond (State → Bool) cond_comparable (layer.Compare k))

-- the same by a dictionary
module _ (dictionary : Dictionary) where
  pub comparable_by_any : (cs : List Cond) (s : State) → comparable_by dictionary (Any cs) s ≡ list_all (λ cond. comparable_by dictionary cond s) cs
  unfolding comparable_by
  comparable_by_any cs s =
      ap (λ k. comparable_by dictionary k s) (sym (rolls-Any cs)) ∙ ap (λ (t : State → Bool). t s) (fold-roll-Cond (State → Bool) (cond_comparable_by dictionary) (layer.Any cs))
      ∙ all_mapped (comparable_by dictionary) (λ (t : State → Bool). t s) cs

  pub comparable_by_all : (cs : List Cond) (s : State) → comparable_by dictionary (All cs) s ≡ list_all (λ cond. comparable_by dictionary cond s) cs
  unfolding comparable_by
  comparable_by_all cs s =
      ap (λ k. comparable_by dictionary k s) (sym (rolls-All cs)) ∙ ap (λ (t : State → Bool). t s) (fold-roll-Cond (State → Bool) (cond_comparable_by dictionary) (layer.All cs))
      ∙ all_mapped (comparable_by dictionary) (λ (t : State → Bool). t s) cs

  pub comparable_by_not : (d : Cond) (s : State) → comparable_by dictionary (Not d) s ≡ comparable_by dictionary d s
  unfolding comparable_by
  comparable_by_not d s =
      ap (λ k. comparable_by dictionary k s) (sym (rolls-Not d)) ∙ ap (λ (t : State → Bool). t s) (fold-roll-Cond (State → Bool) (cond_comparable_by dictionary) (layer.Not d))

  pub comparable_by_compare : (k : Comparison) (s : State) → comparable_by dictionary (Compare k) s ≡ is_comparable k s
  unfolding comparable_by
  comparable_by_compare k s =
      ap (λ x. comparable_by dictionary x s) (sym (rolls-Compare k)) ∙ ap (λ (t : State → Bool). t s) (fold-roll-Cond (State → Bool) (cond_comparable_by dictionary) (layer.Compare k))

  pub comparable_by_match : (m : Matching) (s : State) → comparable_by dictionary (Match m) s ≡ option_map_or (is_matchable_by dictionary) (instance_in m s) true
  unfolding comparable_by
  comparable_by_match m s =
      ap (λ x. comparable_by dictionary x s) (sym (rolls-Match m)) ∙ ap (λ (t : State → Bool). t s) (fold-roll-Cond (State → Bool) (cond_comparable_by dictionary) (layer.Match m))

  pub comparable_by_compare_texts : (k : TextComparison) (s : State) → comparable_by dictionary (CompareTexts k) s ≡ are_printable dictionary k s
  unfolding comparable_by
  comparable_by_compare_texts k s =
      ap (λ x. comparable_by dictionary x s) (sym (rolls-CompareTexts k)) ∙ ap (λ (t : State → Bool). t s) (fold-roll-Cond (State → Bool) (cond_comparable_by dictionary) (layer.CompareTexts k))

  pub comparable_by_match_text : (m : Matching) (s : State) → comparable_by dictionary (MatchText m) s ≡ option_map_or (is_matchable_by dictionary) (instance_in m s) true
  unfolding comparable_by
  comparable_by_match_text m s =
      ap (λ x. comparable_by dictionary x s) (sym (rolls-MatchText m)) ∙ ap (λ (t : State → Bool). t s) (fold-roll-Cond (State → Bool) (cond_comparable_by dictionary) (layer.MatchText m))

-- ---- the patterns of each kind

pub all_passes : {A : Type 0} (f : A → Bool) (xs : List A) → list_all passes (map f xs) ≡ list_all f xs
all_passes f [] = refl
all_passes f (x ∷ xs) = ap (λ b. f x && b) (all_passes f xs)

pub passes_any : (test : Written → Bool) (cs : List Cond) → cond_patterns_pass test (Any cs) ≡ list_all (cond_patterns_pass test) cs
unfolding cond_patterns_pass
passes_any test cs =
    ap (cond_patterns_pass test) (sym (rolls-Any cs)) ∙ fold-roll-Cond Bool (cond_layer_passes test) (layer.Any cs) ∙ all_passes (cond_patterns_pass test) cs

pub passes_all : (test : Written → Bool) (cs : List Cond) → cond_patterns_pass test (All cs) ≡ list_all (cond_patterns_pass test) cs
unfolding cond_patterns_pass
passes_all test cs =
    ap (cond_patterns_pass test) (sym (rolls-All cs)) ∙ fold-roll-Cond Bool (cond_layer_passes test) (layer.All cs) ∙ all_passes (cond_patterns_pass test) cs

pub passes_not : (test : Written → Bool) (c : Cond) → cond_patterns_pass test (Not c) ≡ cond_patterns_pass test c
unfolding cond_patterns_pass
passes_not test c = ap (cond_patterns_pass test) (sym (rolls-Not c)) ∙ fold-roll-Cond Bool (cond_layer_passes test) (layer.Not c)

pub passes_match : (test : Written → Bool) (m : Matching) → cond_patterns_pass test (Match m) ≡ test (pattern_in m)
unfolding cond_patterns_pass
passes_match test m = ap (cond_patterns_pass test) (sym (rolls-Match m)) ∙ fold-roll-Cond Bool (cond_layer_passes test) (layer.Match m)

pub passes_captured : (test : Written → Bool) (group : ℕ) → cond_patterns_pass test (Captured group) ≡ true
unfolding cond_patterns_pass
passes_captured test group = ap (cond_patterns_pass test) (sym (rolls-Captured group)) ∙ fold-roll-Cond Bool (cond_layer_passes test) (layer.Captured group)

pub passes_last : (test : Written → Bool) (word : Code) → cond_patterns_pass test (Last word) ≡ true
unfolding cond_patterns_pass
passes_last test word = ap (cond_patterns_pass test) (sym (rolls-Last word)) ∙ fold-roll-Cond Bool (cond_layer_passes test) (layer.Last word)

pub passes_present : (test : Written → Bool) (list : Name) (id : AttrId) → cond_patterns_pass test (Present list id) ≡ true
unfolding cond_patterns_pass
passes_present test list id = ap (cond_patterns_pass test) (sym (rolls-Present list id)) ∙ fold-roll-Cond Bool (cond_layer_passes test) (layer.Present list id)

pub passes_present_selected : (test : Written → Bool) (list : Name) (id : AttrId) (selection : Selection) → cond_patterns_pass test (PresentSelected list id selection) ≡ true
unfolding cond_patterns_pass
passes_present_selected test list id selection = ap (cond_patterns_pass test) (sym (rolls-PresentSelected list id selection)) ∙ fold-roll-Cond Bool (cond_layer_passes test) (layer.PresentSelected list id selection)

pub passes_compare : (test : Written → Bool) (k : Comparison) → cond_patterns_pass test (Compare k) ≡ true
unfolding cond_patterns_pass
passes_compare test k = ap (cond_patterns_pass test) (sym (rolls-Compare k)) ∙ fold-roll-Cond Bool (cond_layer_passes test) (layer.Compare k)

pub passes_compare_meant : (test : Written → Bool) (k : MeantComparison) → cond_patterns_pass test (CompareMeant k) ≡ true
unfolding cond_patterns_pass
passes_compare_meant test k = ap (cond_patterns_pass test) (sym (rolls-CompareMeant k)) ∙ fold-roll-Cond Bool (cond_layer_passes test) (layer.CompareMeant k)

pub passes_compare_texts : (test : Written → Bool) (k : TextComparison) → cond_patterns_pass test (CompareTexts k) ≡ true
unfolding cond_patterns_pass
passes_compare_texts test k = ap (cond_patterns_pass test) (sym (rolls-CompareTexts k)) ∙ fold-roll-Cond Bool (cond_layer_passes test) (layer.CompareTexts k)

pub passes_match_text : (test : Written → Bool) (m : Matching) → cond_patterns_pass test (MatchText m) ≡ test (pattern_in m)
unfolding cond_patterns_pass
passes_match_text test m = ap (cond_patterns_pass test) (sym (rolls-MatchText m)) ∙ fold-roll-Cond Bool (cond_layer_passes test) (layer.MatchText m)

pub passes_match_group : (test : Written → Bool) (m : GroupMatching) → cond_patterns_pass test (MatchGroup m) ≡ test (group_pattern m)
unfolding cond_patterns_pass
passes_match_group test m = ap (cond_patterns_pass test) (sym (rolls-MatchGroup m)) ∙ fold-roll-Cond Bool (cond_layer_passes test) (layer.MatchGroup m)
