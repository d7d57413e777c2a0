-- What a server captures where it asks a condition, and conditions of which ours capture the same.
use Rattle.std.specs.Prelude.{Bool, true, false, not, nat_lt, ◌&&◌, ◌||◌, if◌then◌else◌, length, Some}
use Rattle.std.specs.List.{list_any}
use Rattle.std.specs.Option.{option_map}
use Rattle.avp_lists.specs.Instances.{has_instance}
use Rattle.avp_lists.specs.States.{list_of}
use Rattle.avp_lists.specs.declared.lists.State.{State}
use Rattle.avp_dict.specs.Dictionary.{Dictionary}
use Rattle.avp_unlang.specs.Captures.{Captures, captured, captures_after}
use Rattle.avp_unlang.specs.Evaluations.{Evaluated, decided, is_capture, side_has_captures}
use Rattle.avp_unlang.specs.PatternTruth.{is_matched}
use Rattle.avp_unlang.specs.Texts.{captures_after_group, captures_after_text, is_group_matched, is_met_by_texts, is_text_matched}
use Rattle.avp_unlang.specs.Truth.{same_code}
use Rattle.avp_unlang.specs.declared.codes.Code.{Code}
use Rattle.radpolicy_import_conditions.specs.Conditions.{Answer, comparison_answer, is_false, is_true, matching_answer, texts_answer}
use Rattle.radpolicy_import_conditions.specs.declared.server_conditions.ServerCondition.{ServerCondition, Constant, Last, Present, Compare, Match, CompareTexts, MatchText, MatchGroup, Captured, Not', And', Or'}

-- an answer, and what was captured after it
pub record Answered : Type 0 where
  pub answer : Answer
  pub captures : Captures

-- nothing was captured anew
abbrev pub unchanged : Answer → Captures → Answered
unchanged answer captures = record { answer = answer; captures = captures }

abbrev pub denied : Answered → Answered
denied a = record a { answer = option_map not a.answer }

-- `&&`: the next one is asked where the first is true
abbrev pub both_answered : Answered → (Captures → Answered) → Answered
both_answered first next = if is_true first.answer then next first.captures else first

-- `||`: the next one is asked where the first is false
abbrev pub either_answered : Answered → (Captures → Answered) → Answered
either_answered first next = if is_false first.answer then next first.captures else first

-- A condition, from left to right. Of an absent attribute nothing is captured, and what was captured stays.
abbrev pub answered : Dictionary → ServerCondition → State → Code → Captures → Answered
answered d (Constant value) s c captures = unchanged (Some value) captures
answered d (Last word) s c captures = unchanged (Some (same_code c word)) captures
answered d (Present list id) s c captures =
    unchanged (Some (has_instance id (list_of list s))) captures
answered d (Compare comparison) s c captures = unchanged (comparison_answer comparison s) captures
answered d (Match matching) s c captures =
    unchanged (matching_answer (is_matched d) matching s) (captures_after d matching s captures)
answered d (CompareTexts comparison) s c captures =
    unchanged (texts_answer (λ k state. is_met_by_texts d k state captures) comparison s) captures
answered d (MatchText matching) s c captures =
    unchanged (Some (is_text_matched d matching s)) (captures_after_text d matching s)
answered d (MatchGroup matching) s c captures =
    unchanged (Some (is_group_matched matching captures)) (captures_after_group matching captures)
answered d (Captured group) s c captures =
    unchanged (Some (nat_lt 0 (length (captured group captures)))) captures
answered d (Not' p inner) s c captures = denied (answered d inner s c captures)
answered d (And' p first q next) s c captures =
    both_answered (answered d first s c captures) (answered d next s c)
answered d (Or' p first q next) s c captures =
    either_answered (answered d first s c captures) (answered d next s c)

-- whether a server takes the branch of a condition, and what was captured by then
abbrev pub taken : Answered → Evaluated
taken a = decided (is_true a.answer) a.captures

abbrev pub server_evaluated : Dictionary → ServerCondition → State → Code → Captures → Evaluated
server_evaluated d condition s c captures = taken (answered d condition s c captures)

-- ---- what comes first may be asked once more, before what follows

abbrev pub has_pattern : ServerCondition → Bool
has_pattern (Match matching) = true
has_pattern (MatchText matching) = true
has_pattern (MatchGroup matching) = true
has_pattern (Not' p inner) = has_pattern inner
has_pattern (And' p first q next) = has_pattern first || has_pattern next
has_pattern (Or' p first q next) = has_pattern first || has_pattern next
has_pattern _ = false

abbrev pub uses_captures : ServerCondition → Bool
uses_captures (Captured group) = true
uses_captures (MatchGroup matching) = true
uses_captures (CompareTexts comparison) =
    side_has_captures comparison.left || list_any is_capture comparison.right
uses_captures (Not' p inner) = uses_captures inner
uses_captures (And' p first q next) = uses_captures first || uses_captures next
uses_captures (Or' p first q next) = uses_captures first || uses_captures next
uses_captures _ = false

-- it captures nothing, or does not look at what was captured
abbrev pub is_repeatable : ServerCondition → Bool
is_repeatable condition = not (has_pattern condition) || not (uses_captures condition)

-- whether our condition captures what the server's does
abbrev pub keeps_captures : ServerCondition → Bool
keeps_captures (Not' p inner) = keeps_captures inner
keeps_captures (And' p first q next) =
    is_repeatable first && (keeps_captures first && keeps_captures next)
keeps_captures (Or' p first q next) =
    is_repeatable first && (keeps_captures first && keeps_captures next)
keeps_captures _ = true
