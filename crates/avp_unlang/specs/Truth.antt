-- Whether a condition is true in a state, after a code.
use Rattle.std.specs.Prelude.{ℕ, Bool, true, false, not, ◌&&◌, ◌||◌, if◌then◌else◌, List, Option, Some, None, is_some}
use Rattle.std.specs.Cmp.Lexicographic.{slice_cmp}
use Rattle.std.specs.List.{list_any, list_all}
use Rattle.std.specs.Option.{option_and_then, option_map, option_map_or}
use Rattle.std.specs.Ordering.{nat_cmp, int_cmp}
use Rattle.std.specs.declared.cmp.Ordering.{Ordering}
use Rattle.avp_lists.specs.Instances.{first_instance, has_instance}
use Rattle.avp_lists.specs.Selections.{first_selected_instance}
use Rattle.avp_lists.specs.States.{list_of}
use Rattle.avp_lists.specs.declared.pairs.AttrId.{AttrId}
use Rattle.avp_lists.specs.declared.pairs.Pair.{Pair}
use Rattle.avp_lists.specs.declared.pairs.Value.{Value}
use Rattle.avp_lists.specs.declared.pairs.Value.TheVariants.{Bytes, Int, Raw, Signed}
use Rattle.avp_lists.specs.declared.lists.List.{List as Name}
use Rattle.avp_lists.specs.declared.lists.State.{State}
use Rattle.avp_lists.specs.declared.tags.Selection.{Selection}
use Rattle.avp_dict.specs.Limits.{is_of_kind}
use Rattle.avp_dict.specs.Octets.{octets_of}
use Rattle.avp_dict.specs.Sent.{is_raw}
use Rattle.avp_dict.specs.declared.entries.Kind.{Kind}
use Rattle.avp_dict.specs.declared.entries.Kind.TheVariants as kinds
use Rattle.avp_dict.specs.declared.forms.Form.{Form}
use Rattle.avp_dict.specs.declared.forms.Form.TheVariants.{AsTyped}
use Rattle.avp_forms.specs.Orders.{order_by_meaning}
use Rattle.avp_dict.specs.Dictionary.{Dictionary}
use Rattle.avp_unlang.specs.PatternTruth.{instance_in, is_matchable_by, is_matched}
use Rattle.avp_unlang.specs.Captures.{no_captures}
use Rattle.avp_unlang.specs.Relations.{meets}
use Rattle.avp_unlang.specs.Texts.{is_group_matched, is_met_by_texts, is_text_matched}
use Rattle.avp_unlang.specs.declared.codes.Code.{Code}
use Rattle.avp_unlang.specs.declared.codes.Code.TheVariants as code
use Rattle.avp_unlang.specs.declared.tree.Comparand.{Comparand}
use Rattle.avp_unlang.specs.declared.tree.Comparand.TheVariants.{Literal, Instance}
use Rattle.avp_unlang.specs.declared.tree.Comparison.{Comparison}
use Rattle.avp_unlang.specs.declared.tree.Cond.{Cond}
use Rattle.avp_unlang.specs.declared.tree.Cond.TheFolds.{fold-Cond}
use Rattle.avp_unlang.specs.declared.tree.Cond.TheOpen.{Cond-F, Any, All, Not, Last, Present, PresentSelected, Compare, CompareMeant, CompareTexts, Match, MatchText, MatchGroup, Captured}
use Rattle.avp_unlang.specs.declared.tree.GroupMatching.{GroupMatching}
use Rattle.avp_unlang.specs.declared.tree.Matching.{Matching}
use Rattle.avp_unlang.specs.declared.tree.MeantComparand.{MeantComparand}
use Rattle.avp_unlang.specs.declared.tree.MeantComparand.TheVariants as meant
use Rattle.avp_unlang.specs.declared.tree.MeantComparison.{MeantComparison}
use Rattle.avp_unlang.specs.declared.tree.Part.{Part}
use Rattle.avp_unlang.specs.declared.tree.Part.TheVariants as part
use Rattle.avp_unlang.specs.declared.tree.Relation.{Relation}
use Rattle.avp_unlang.specs.declared.tree.Relation.TheVariants.{Differs}
use Rattle.avp_unlang.specs.declared.tree.TextComparison.{TextComparison}
use Rattle.avp_unlang.specs.declared.tree.TextSide.{TextSide}
use Rattle.avp_unlang.specs.declared.tree.TextSide.TheVariants as side

-- ---- two values

-- values of these types are compared as numbers
abbrev pub is_numeric : Kind → Bool
is_numeric kinds.Text = false
is_numeric kinds.Bytes = false
is_numeric kinds.Addr = false
is_numeric kinds.Ether = false
is_numeric kinds.Integer = true
is_numeric kinds.Date = true
is_numeric kinds.Byte = true
is_numeric kinds.Short = true
is_numeric kinds.Signed = true
is_numeric kinds.Integer64 = true

abbrev pub is_number_value : Value → Bool
is_number_value (Int n) = true
is_number_value (Signed z) = true
is_number_value _ = false

-- the order of two numbers; raw octets are none
abbrev pub number_order : Value → Value → Option Ordering
number_order (Int m) (Int n) = Some (nat_cmp m n)
number_order (Signed y) (Signed z) = Some (int_cmp y z)
number_order _ _ = None

-- the order of two values of a type: of numbers, or else of octets, one after the other, a proper prefix first
abbrev pub order : Kind → Value → Value → Option Ordering
order kind v w =
    if is_numeric kind then number_order v w
    else Some (slice_cmp nat_cmp (octets_of (Some kind) v) (octets_of (Some kind) w))

-- values without an order are in no relation, also not different
abbrev pub relates : Kind → Relation → Value → Value → Bool
relates kind relation v w = option_map_or (meets relation) (order kind v w) false

-- ---- comparisons

abbrev pub value_in : Pair → Value
value_in p = p.value

-- the value of the first instance, if there is one
abbrev pub first_value : Name → AttrId → State → Option Value
first_value list id s = option_map value_in (first_instance id (list_of list s))

abbrev pub compared_with : Comparand → State → Option Value
compared_with (Literal v) s = Some v
compared_with (Instance list id) s = first_value list id s

-- two values that are there, in the relation
abbrev pub are_related : Kind → Relation → Option Value → Option Value → Bool
are_related kind relation (Some v) (Some w) = relates kind relation v w
are_related kind relation _ _ = false

abbrev pub is_met : Comparison → State → Bool
is_met c s = are_related c.kind c.relation (first_value c.list c.id s) (compared_with c.comparand s)

-- ---- comparisons by meaning, of a wider policy

-- the octets of a value with the form by which they mean something; raw ones mean nothing
unfoldable pub octets_meant : Form → Value → Option (Form × List ℕ)
octets_meant form (Bytes octets) = Some (form, octets)
octets_meant form (Raw octets) = Some (AsTyped, octets)
octets_meant form _ = None

-- the first of the instances that are meant
abbrev pub selected_value : Name → AttrId → Selection → State → Option Value
selected_value list id selection s =
    option_map value_in (first_selected_instance selection id (list_of list s))

abbrev pub selected_octets : Name → AttrId → Selection → Form → State → Option (Form × List ℕ)
selected_octets list id selection form s =
    option_and_then (octets_meant form) (selected_value list id selection s)

abbrev pub meant_with : MeantComparand → State → Option (Form × List ℕ)
meant_with (meant.Literal form octets) s = Some (form, octets)
meant_with (meant.Instance list id selection form) s = selected_octets list id selection form s

-- an order in the relation; values without one, as two prefixes of which neither has the other in it, differ
abbrev pub meets_if_ordered : Relation → Option Ordering → Bool
meets_if_ordered relation (Some o) = meets relation o
meets_if_ordered Differs None = true
meets_if_ordered _ None = false

-- two values that are there, in the relation by what they mean
abbrev pub are_related_by_meaning : Relation → Option (Form × List ℕ) → Option (Form × List ℕ)
    → Bool
are_related_by_meaning relation (Some v) (Some w) =
    meets_if_ordered relation (order_by_meaning v.0 v.1 w.0 w.1)
are_related_by_meaning relation _ _ = false

abbrev pub is_met_by_meaning : MeantComparison → State → Bool
is_met_by_meaning c s =
    are_related_by_meaning c.relation (selected_octets c.list c.id c.selection c.form s)
    (meant_with c.comparand s)

-- ---- conditions

abbrev pub same_code : Code → Code → Bool
same_code code.Ok code.Ok = true
same_code code.Noop code.Noop = true
same_code code.Updated code.Updated = true
same_code code.Fail code.Fail = true
same_code code.Reject code.Reject = true
same_code _ _ = false

-- what a state and a code decide
abbrev pub Test : Type 0
Test = State → Code → Bool

-- how comparisons are decided for which values are printed
pub record Printed : Type 0 where
  pub matched : Matching → State → Bool
  pub texts : TextComparison → State → Bool
  pub text_matched : Matching → State → Bool
  pub group_matched : GroupMatching → Bool

-- a condition, each part of it decided: a code is true if it is the last one, and a reference if it has an instance;
-- what was captured is not looked at, and counts as empty
abbrev pub cond_truth_with : Printed → Cond-F Test → Test
cond_truth_with printed (Any tests) s c = list_any (λ (test : Test). test s c) tests
cond_truth_with printed (All tests) s c = list_all (λ (test : Test). test s c) tests
cond_truth_with printed (Not test) s c = not (test s c)
cond_truth_with printed (Last word) s c = same_code c word
cond_truth_with printed (Present list id) s c = has_instance id (list_of list s)
cond_truth_with printed (PresentSelected list id selection) s c =
    is_some (first_selected_instance selection id (list_of list s))
cond_truth_with printed (Compare comparison) s c = is_met comparison s
cond_truth_with printed (CompareMeant comparison) s c = is_met_by_meaning comparison s
cond_truth_with printed (Match matching) s c = printed.matched matching s
cond_truth_with printed (CompareTexts comparison) s c = printed.texts comparison s
cond_truth_with printed (MatchText matching) s c = printed.text_matched matching s
cond_truth_with printed (MatchGroup matching) s c = printed.group_matched matching
cond_truth_with printed (Captured group) s c = false

abbrev pub never_matched : Matching → State → Bool
never_matched matching s = false

abbrev pub nothing_printed : Printed
nothing_printed = record {
  matched = never_matched;
  texts = λ c s. false;
  text_matched = never_matched;
  group_matched = λ m. false;
}

-- whether a condition is true that compares with no pattern and no texts; comparisons with these count as false
unfoldable pub truth : Cond → Test
truth = fold-Cond Test (cond_truth_with nothing_printed)

-- where nothing was captured
abbrev pub printed_by : Dictionary → Printed
printed_by dictionary = record {
  matched = is_matched dictionary;
  texts = λ c s. is_met_by_texts dictionary c s no_captures;
  text_matched = is_text_matched dictionary;
  group_matched = λ m. is_group_matched m no_captures;
}

-- whether a condition is true, by the dictionary by which values are printed
unfoldable pub truth_by : Dictionary → Cond → Test
truth_by dictionary = fold-Cond Test (cond_truth_with (printed_by dictionary))

-- ---- what can be compared

-- raw octets, or a value of the type
abbrev pub is_alike : Kind → Value → Bool
is_alike kind v = is_raw v || is_of_kind v kind

abbrev pub is_comparable : Comparison → State → Bool
is_comparable c s =
    option_map_or (is_alike c.kind) (first_value c.list c.id s) true
    && option_map_or (is_alike c.kind) (compared_with c.comparand s) true

abbrev pub cond_comparable : Cond-F (State → Bool) → State → Bool
cond_comparable (Any tests) s = list_all (λ (test : State → Bool). test s) tests
cond_comparable (All tests) s = list_all (λ (test : State → Bool). test s) tests
cond_comparable (Not test) s = test s
cond_comparable (Last word) s = true
cond_comparable (Present list id) s = true
cond_comparable (PresentSelected list id selection) s = true
cond_comparable (Compare comparison) s = is_comparable comparison s
cond_comparable (CompareMeant comparison) s = true
cond_comparable (Match matching) s = true
cond_comparable (CompareTexts comparison) s = true
cond_comparable (MatchText matching) s = true
cond_comparable (MatchGroup matching) s = true
cond_comparable (Captured group) s = true

-- what `holds` wants: each value that is compared by its type is raw, or of the type that the condition keeps for it;
-- it looks at no pattern and at no text
unfoldable pub comparable : Cond → State → Bool
comparable = fold-Cond (State → Bool) cond_comparable

-- the first of the instances that a part or a side means can be put in
abbrev pub is_printable_at : Dictionary → Name → AttrId → Selection → State → Bool
is_printable_at dictionary list id selection s =
    option_map_or (is_matchable_by dictionary)
    (first_selected_instance selection id (list_of list s)) true

abbrev pub part_printable : Dictionary → State → Part → Bool
part_printable dictionary s (part.Meant list id selection) =
    is_printable_at dictionary list id selection s
part_printable dictionary s (part.Instance list id) = false
part_printable dictionary s _ = true

abbrev pub side_printable : Dictionary → State → TextSide → Bool
side_printable dictionary s (side.Text parts) = list_all (part_printable dictionary s) parts
side_printable dictionary s (side.Instance list id selection) = true

abbrev pub are_printable : Dictionary → TextComparison → State → Bool
are_printable dictionary c s =
    side_printable dictionary s c.left && list_all (part_printable dictionary s) c.right

abbrev pub cond_comparable_by : Dictionary → Cond-F (State → Bool) → State → Bool
cond_comparable_by dictionary (Match matching) s =
    option_map_or (is_matchable_by dictionary) (instance_in matching s) true
cond_comparable_by dictionary (CompareTexts comparison) s = are_printable dictionary comparison s
cond_comparable_by dictionary (MatchText matching) s =
    option_map_or (is_matchable_by dictionary) (instance_in matching s) true
cond_comparable_by dictionary layer s = cond_comparable layer s

-- what `holds_by` and `evaluate` want: the same, and each instance whose text is searched or compared can be printed by
-- the dictionary
unfoldable pub comparable_by : Dictionary → Cond → State → Bool
comparable_by dictionary = fold-Cond (State → Bool) (cond_comparable_by dictionary)
