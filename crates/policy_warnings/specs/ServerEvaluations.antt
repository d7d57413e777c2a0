-- What a server makes of a condition, from left to right, where comparisons with patterns capture: nothing but the end of a
-- comparison with an absent attribute sets it apart from what the condition is evaluated to.
use Rattle.std.specs.Prelude.{◌≡◌, Bool, true, false, not, nat_lt, if◌then◌else◌, List, [], ◌∷◌, Some, None, length}
use Rattle.std.specs.Option.{option_map}
use Rattle.avp_lists.specs.Instances.{has_instance}
use Rattle.avp_lists.specs.Selections.{has_selected}
use Rattle.avp_lists.specs.States.{list_of}
use Rattle.avp_lists.specs.declared.lists.State.{State}
use Rattle.avp_dict.specs.Dictionary.{Dictionary}
use Rattle.avp_unlang.specs.Captures.{Captures, captured, captures_after}
use Rattle.avp_unlang.specs.Evaluations.{evaluated}
use Rattle.avp_unlang.specs.PatternTruth.{is_matched}
use Rattle.avp_unlang.specs.Texts.{captures_after_group, captures_after_text, is_group_matched, is_met_by_texts, is_text_matched}
use Rattle.avp_unlang.specs.Truth.{is_met, is_met_by_meaning, same_code}
use Rattle.avp_unlang.specs.declared.codes.Code.{Code}
use Rattle.avp_unlang.specs.declared.tree.Cond.{Cond}
use Rattle.avp_unlang.specs.declared.tree.Cond.TheFolds.{fold-Cond}
use Rattle.avp_unlang.specs.declared.tree.Cond.TheOpen.{Cond-F, Any, All, Not, Last, Present, PresentSelected, Compare, CompareMeant, CompareTexts, Match, MatchText, MatchGroup, Captured}
use Rattle.policy_warnings.specs.Answers.{Answer, answer_compared, is_false, is_true}
use Rattle.policy_warnings.specs.Mentions.{comparison_mentions, matching_mentions, meant_comparison_mentions, side_mentions}

-- the answer, and what was captured after it
pub record Answered : Type 0 where
  pub answer : Answer
  pub captures : Captures

abbrev pub Answering : Type 0
Answering = State → Code → Captures → Answered

-- an answer, with what was captured before it
abbrev pub answered : Answer → Captures → Answered
answered answer captures = record { answer = answer; captures = captures }

-- conditions with `||` between them, up to the first that is not false
abbrev pub any_answered : List Answering → Answering
any_answered [] s c captures = answered (Some false) captures
any_answered (first ∷ others) s c captures =
    let a = first s c captures in
    if is_false a.answer then any_answered others s c a.captures else a

-- conditions with `&&` between them, up to the first that is not true
abbrev pub all_answered : List Answering → Answering
all_answered [] s c captures = answered (Some true) captures
all_answered (first ∷ others) s c captures =
    let a = first s c captures in
    if is_true a.answer then all_answered others s c a.captures else a

abbrev pub opposite : Answered → Answered
opposite a = record a { answer = option_map not a.answer }

-- a condition, each part of it answered; one that asks for what was captured always has an answer
abbrev pub cond_answered : Dictionary → Cond-F Answering → Answering
cond_answered dictionary (Any parts) s c captures = any_answered parts s c captures
cond_answered dictionary (All parts) s c captures = all_answered parts s c captures
cond_answered dictionary (Not part) s c captures = opposite (part s c captures)
cond_answered dictionary (Last word) s c captures = answered (Some (same_code c word)) captures
cond_answered dictionary (Present list id) s c captures =
    answered (Some (has_instance id (list_of list s))) captures
cond_answered dictionary (PresentSelected list id selection) s c captures =
    answered (Some (has_selected selection id (list_of list s))) captures
cond_answered dictionary (Compare k) s c captures =
    answered (answer_compared (comparison_mentions k) s (is_met k s)) captures
cond_answered dictionary (CompareMeant k) s c captures =
    answered (answer_compared (meant_comparison_mentions k) s (is_met_by_meaning k s)) captures
cond_answered dictionary (Match m) s c captures =
    answered (answer_compared (matching_mentions m) s (is_matched dictionary m s))
    (captures_after dictionary m s captures)
cond_answered dictionary (CompareTexts k) s c captures =
    answered (answer_compared (side_mentions k.left) s (is_met_by_texts dictionary k s captures))
    captures
cond_answered dictionary (MatchText m) s c captures =
    answered (Some (is_text_matched dictionary m s)) (captures_after_text dictionary m s)
cond_answered dictionary (MatchGroup m) s c captures =
    answered (Some (is_group_matched m captures)) (captures_after_group m captures)
cond_answered dictionary (Captured group) s c captures =
    answered (Some (nat_lt 0 (length (captured group captures)))) captures

-- what a server makes of a condition, by the dictionary by which values are printed
unfoldable pub server_evaluated : Dictionary → Cond → Answering
server_evaluated dictionary = fold-Cond Answering (cond_answered dictionary)

-- ---- where both come to the same

-- by the same state, code and captures, a server takes the branch of the condition exactly where it is true
abbrev pub TakesAlike : Cond → Type 0
TakesAlike cond =
    (d : Dictionary) (s : State) (c : Code) (captures : Captures)
    → (evaluated d cond s c captures).truth
    ≡ is_true (server_evaluated d cond s c captures).answer

-- Where a server has an answer, both have captured the same. Where it has none, they need not have: a comparison that
-- comes after the one with the absent attribute captures here, and is not looked at there.
abbrev pub CapturesAlike : Cond → Type 0
CapturesAlike cond =
    (d : Dictionary) (s : State) (c : Code) (captures : Captures) (answer : Bool)
    → (server_evaluated d cond s c captures).answer ≡ Some answer
    → (server_evaluated d cond s c captures).captures ≡ (evaluated d cond s c captures).captures
