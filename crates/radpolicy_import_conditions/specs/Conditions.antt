-- What a server makes of a condition.
use Rattle.std.specs.Prelude.{Bool, true, false, not, Option, Some, None, if◌then◌else◌}
use Rattle.std.specs.Option.{option_map}
use Rattle.avp_lists.specs.Instances.{has_instance}
use Rattle.avp_lists.specs.Selections.{has_selected}
use Rattle.avp_lists.specs.States.{list_of}
use Rattle.avp_lists.specs.declared.pairs.Value.{Value}
use Rattle.avp_lists.specs.declared.lists.State.{State}
use Rattle.avp_dict.specs.Dictionary.{Dictionary}
use Rattle.avp_dict.specs.declared.entries.Kind.{Kind}
use Rattle.avp_unlang.specs.Truth.{Printed, compared_with, first_value, nothing_printed, printed_by, relates, same_code}
use Rattle.avp_unlang.specs.declared.codes.Code.{Code}
use Rattle.avp_unlang.specs.declared.tree.Comparison.{Comparison}
use Rattle.avp_unlang.specs.declared.tree.Matching.{Matching}
use Rattle.avp_unlang.specs.declared.tree.Relation.{Relation}
use Rattle.avp_unlang.specs.declared.tree.TextComparison.{TextComparison}
use Rattle.avp_unlang.specs.declared.tree.TextSide.{TextSide}
use Rattle.avp_unlang.specs.declared.tree.TextSide.TheVariants.{Instance, Text}
pub use Rattle.server_unlang.specs.Answers.{Answer, answer_both, answer_either, is_false, is_true}
use Rattle.radpolicy_import_conditions.specs.declared.server_conditions.ServerCondition.{ServerCondition, Constant, Last, Present, Compare, Match, CompareTexts, MatchText, MatchGroup, Captured, Not', And', Or'}

-- two values that are there are compared
abbrev pub compared : Kind → Relation → Option Value → Option Value → Answer
compared kind relation (Some v) (Some w) = Some (relates kind relation v w)
compared kind relation (Some v) None = None
compared kind relation None other = None

abbrev pub comparison_answer : Comparison → State → Answer
comparison_answer c s =
    compared c.kind c.relation (first_value c.list c.id s) (compared_with c.comparand s)

-- a comparison with a pattern, given which of them are met
abbrev pub matching_answer : (Matching → State → Bool) → Matching → State → Answer
matching_answer matched m s =
    if has_selected m.selection m.id (list_of m.list s) then Some (matched m s) else None

-- a text is always there, an instance, which is a string, where it is present
abbrev pub is_side_there : TextSide → State → Bool
is_side_there (Text parts) s = true
is_side_there (Instance list id selection) s = has_selected selection id (list_of list s)

-- a comparison of texts, given which of them are met
abbrev pub texts_answer : (TextComparison → State → Bool) → TextComparison → State → Answer
texts_answer met c s = if is_side_there c.left s then Some (met c s) else None

-- Given how comparisons are decided for which values are printed. What was captured is not looked at, and counts as
-- empty.
abbrev pub answer_with : Printed → ServerCondition → State → Code → Answer
answer_with printed (Constant value) s c = Some value
answer_with printed (Last word) s c = Some (same_code c word)
answer_with printed (Present list id) s c = Some (has_instance id (list_of list s))
answer_with printed (Compare comparison) s c = comparison_answer comparison s
answer_with printed (Match matching) s c = matching_answer printed.matched matching s
answer_with printed (CompareTexts comparison) s c = texts_answer printed.texts comparison s
answer_with printed (MatchText matching) s c = Some (printed.text_matched matching s)
answer_with printed (MatchGroup matching) s c = Some (printed.group_matched matching)
answer_with printed (Captured group) s c = Some false
answer_with printed (Not' p inner) s c = option_map not (answer_with printed inner s c)
answer_with printed (And' p first q next) s c =
    answer_both (answer_with printed first s c) (answer_with printed next s c)
answer_with printed (Or' p first q next) s c =
    answer_either (answer_with printed first s c) (answer_with printed next s c)

-- of a condition that compares with no pattern and no texts; a comparison with these that has an answer counts as false
abbrev pub answer : ServerCondition → State → Code → Answer
answer = answer_with nothing_printed

-- whether a server takes the branch of a condition that compares with no pattern and no texts
abbrev pub server_truth : ServerCondition → State → Code → Bool
server_truth condition s c = is_true (answer condition s c)

-- whether a server takes the branch of a condition, by the dictionary by which values are printed
abbrev pub server_truth_by : Dictionary → ServerCondition → State → Code → Bool
server_truth_by dictionary condition s c =
    is_true (answer_with (printed_by dictionary) condition s c)
