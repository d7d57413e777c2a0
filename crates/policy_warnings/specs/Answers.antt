-- What a server makes of a condition.
use Rattle.std.specs.Prelude.{Bool, true, false, not, if◌then◌else◌, List, [], ◌∷◌, Option, Some, None}
use Rattle.std.specs.List.{list_all}
use Rattle.std.specs.Option.{option_map}
use Rattle.avp_lists.specs.Instances.{has_instance}
use Rattle.avp_lists.specs.Selections.{has_selected}
use Rattle.avp_lists.specs.States.{list_of}
use Rattle.avp_lists.specs.declared.lists.State.{State}
use Rattle.avp_dict.specs.Dictionary.{Dictionary}
use Rattle.avp_unlang.specs.Truth.{Printed, is_met, is_met_by_meaning, nothing_printed, printed_by, same_code}
use Rattle.avp_unlang.specs.declared.codes.Code.{Code}
use Rattle.avp_unlang.specs.declared.tree.Cond.{Cond}
use Rattle.avp_unlang.specs.declared.tree.Cond.TheFolds.{fold-Cond}
use Rattle.avp_unlang.specs.declared.tree.Cond.TheOpen.{Cond-F, Any, All, Not, Last, Present, PresentSelected, Compare, CompareMeant, CompareTexts, Match, MatchText, MatchGroup, Captured}
pub use Rattle.server_unlang.specs.Answers.{Answer, answer_both, answer_either, is_false, is_true}
use Rattle.policy_warnings.specs.Mentions.{comparison_mentions, is_there, matching_mentions, meant_comparison_mentions, side_mentions}
use Rattle.policy_warnings.specs.declared.mentions.Mention.{Mention}

-- what a state and a code are answered
abbrev pub Asked : Type 0
Asked = State → Code → Answer

abbrev pub answer_all : List Asked → Asked
answer_all [] s c = Some true
answer_all (first ∷ others) s c = answer_both (first s c) (answer_all others s c)

abbrev pub answer_any : List Asked → Asked
answer_any [] s c = Some false
answer_any (first ∷ others) s c = answer_either (first s c) (answer_any others s c)

-- the truth of a comparison, where all that it looks at is there
abbrev pub answer_compared : List Mention → State → Bool → Answer
answer_compared compared s met = if list_all (is_there s) compared then Some met else None

-- a condition, given which comparisons with patterns and of texts are met
abbrev pub cond_answer_with : Printed → Cond-F Asked → Asked
cond_answer_with printed (Any parts) s c = answer_any parts s c
cond_answer_with printed (All parts) s c = answer_all parts s c
cond_answer_with printed (Not part) s c = option_map not (part s c)
cond_answer_with printed (Last word) s c = Some (same_code c word)
cond_answer_with printed (Present list id) s c = Some (has_instance id (list_of list s))
cond_answer_with printed (PresentSelected list id selection) s c =
    Some (has_selected selection id (list_of list s))
cond_answer_with printed (Compare k) s c = answer_compared (comparison_mentions k) s (is_met k s)
cond_answer_with printed (CompareMeant k) s c =
    answer_compared (meant_comparison_mentions k) s (is_met_by_meaning k s)
cond_answer_with printed (Match m) s c =
    answer_compared (matching_mentions m) s (printed.matched m s)
cond_answer_with printed (CompareTexts k) s c =
    answer_compared (side_mentions k.left) s (printed.texts k s)
cond_answer_with printed (MatchText m) s c = Some (printed.text_matched m s)
cond_answer_with printed (MatchGroup m) s c = Some (printed.group_matched m)
cond_answer_with printed (Captured group) s c = Some false

-- of a condition that compares with no pattern and no texts; a comparison with these counts as false where it has an
-- answer
unfoldable pub server_answer : Cond → Asked
server_answer = fold-Cond Asked (cond_answer_with nothing_printed)

-- of a condition, by the dictionary by which values are printed
unfoldable pub server_answer_by : Dictionary → Cond → Asked
server_answer_by dictionary = fold-Cond Asked (cond_answer_with (printed_by dictionary))

-- whether a server takes the branch of a condition that compares with no pattern and no texts
abbrev pub server_truth : Cond → State → Code → Bool
server_truth cond s c = is_true (server_answer cond s c)

-- whether a server takes the branch of a condition
abbrev pub server_truth_by : Dictionary → Cond → State → Code → Bool
server_truth_by dictionary cond s c = is_true (server_answer_by dictionary cond s c)
