-- Which of our conditions a server's become.
use Rattle.std.specs.Prelude.{Bool, true, false, ◌&&◌, ◌||◌, if◌then◌else◌, [], ◌∷◌, Option, None, Some}
use Rattle.avp_lists.specs.Pairs.{id_eq}
use Rattle.avp_lists.specs.declared.pairs.AttrId.{AttrId}
use Rattle.avp_lists.specs.declared.lists.List.{List as Name}
use Rattle.avp_lists.specs.declared.lists.List.TheVariants.{Request, Reply, Control}
use Rattle.avp_lists.specs.declared.tags.Selection.{Selection}
use Rattle.avp_lists.specs.declared.tags.Selection.TheVariants as selection
use Rattle.avp_unlang.specs.declared.codes.Code.TheVariants.{Ok}
use Rattle.avp_unlang.specs.declared.tree.Comparand.{Comparand}
use Rattle.avp_unlang.specs.declared.tree.Comparand.TheVariants.{Literal, Instance}
use Rattle.avp_unlang.specs.declared.tree.Comparison.{Comparison}
use Rattle.avp_unlang.specs.declared.tree.Cond.{Cond}
use Rattle.avp_unlang.specs.declared.tree.Cond.TheVariants as ours
use Rattle.avp_unlang.specs.declared.tree.Matching.{Matching}
use Rattle.avp_unlang.specs.declared.tree.TextComparison.{TextComparison}
use Rattle.avp_unlang.specs.declared.tree.TextSide.{TextSide}
use Rattle.avp_unlang.specs.declared.tree.TextSide.TheVariants as side
use Rattle.radpolicy_import_conditions.specs.declared.server_conditions.ServerCondition.{ServerCondition, Constant, Last, Present, Compare, Match, CompareTexts, MatchText, MatchGroup, Captured, Not', And', Or'}

abbrev pub both : Cond → Cond → Cond
both first next = ours.All (first ∷ next ∷ [])

abbrev pub either : Cond → Cond → Cond
either first next = ours.Any (first ∷ next ∷ [])

-- a code is the last one, or it is not
abbrev pub always : Cond
always = either (ours.Last Ok) (ours.Not (ours.Last Ok))

abbrev pub never : Cond
never = both (ours.Last Ok) (ours.Not (ours.Last Ok))

-- ---- comparisons

abbrev pub selected : Name → AttrId → Selection → Cond
selected list id selection.All = ours.Present list id
selected list id which = ours.PresentSelected list id which

abbrev pub is_there : Matching → Cond
is_there m = selected m.list m.id m.selection

abbrev pub mismatches : Matching → Cond
mismatches m = both (is_there m) (ours.Not (ours.Match m))

abbrev pub with_side : TextSide → Cond → Cond
with_side (side.Text parts) cond = cond
with_side (side.Instance list id selection) cond = both (selected list id selection) cond

abbrev pub texts_differ : TextComparison → Cond
texts_differ k = with_side k.left (ours.Not (ours.CompareTexts k))

abbrev pub sides : Name → AttrId → Comparand → Cond
sides list id (Literal value) = ours.Present list id
sides list id (Instance other other_id) =
    both (ours.Present list id) (ours.Present other other_id)

abbrev pub both_sides : Comparison → Cond
both_sides k = sides k.list k.id k.comparand

abbrev pub differs : Comparison → Cond
differs k = both (both_sides k) (ours.Not (ours.Compare k))

-- ---- what a condition implies

abbrev pub is_text : TextSide → Bool
is_text (side.Text parts) = true
is_text (side.Instance list id selection) = false

abbrev pub is_certain : ServerCondition → Bool
is_certain (Compare comparison) = false
is_certain (Match matching) = false
is_certain (CompareTexts comparison) = is_text comparison.left
is_certain (Not' p inner) = is_certain inner
is_certain (And' p first q next) = is_certain first && is_certain next
is_certain (Or' p first q next) = is_certain first && is_certain next
is_certain _ = true

abbrev pub is_same_list : Name → Name → Bool
is_same_list Request Request = true
is_same_list Reply Reply = true
is_same_list Control Control = true
is_same_list _ _ = false

abbrev pub is_same : Name → AttrId → Name → AttrId → Bool
is_same list id other other_id = is_same_list list other && id_eq id other_id

abbrev pub is_right : Comparand → Name → AttrId → Bool
is_right (Literal value) list id = false
is_right (Instance other other_id) list id = is_same other other_id list id

abbrev pub names : Comparison → Name → AttrId → Bool
names k list id = is_same k.list k.id list id || is_right k.comparand list id

abbrev pub implies_present : ServerCondition → Name → AttrId → Bool
implies_present (Present other other_id) list id = is_same other other_id list id
implies_present (Compare comparison) list id = names comparison list id
implies_present (Match matching) list id = is_same matching.list matching.id list id
implies_present (And' p first q next) list id =
    implies_present first list id || implies_present next list id
implies_present (Or' p first q next) list id =
    implies_present first list id && implies_present next list id
implies_present _ list id = false

abbrev pub captures_with : ServerCondition → Name → AttrId → Bool
captures_with (Match matching) list id = is_same matching.list matching.id list id
captures_with (MatchText matching) list id = false
captures_with (MatchGroup matching) list id = false
captures_with (Not' p inner) list id = captures_with inner list id
captures_with (And' p first q next) list id =
    captures_with first list id && captures_with next list id
captures_with (Or' p first q next) list id =
    captures_with first list id && captures_with next list id
captures_with _ list id = true

-- ---- guards

abbrev pub present_before : Name → AttrId → ServerCondition → Option Cond
present_before list id next =
    if implies_present next list id && captures_with next list id then None
    else Some (ours.Present list id)

abbrev pub before_sides : Name → AttrId → Comparand → ServerCondition → Option Cond
before_sides list id (Literal value) next = present_before list id next
before_sides list id (Instance other other_id) next =
    Some (sides list id (Instance other other_id))

abbrev pub sides_before : Comparison → ServerCondition → Option Cond
sides_before k next = before_sides k.list k.id k.comparand next

abbrev pub before_selected : Name → AttrId → Selection → ServerCondition → Option Cond
before_selected list id selection.All next = present_before list id next
before_selected list id which next = Some (selected list id which)

abbrev pub there_before : Matching → ServerCondition → Option Cond
there_before m next = before_selected m.list m.id m.selection next

-- where the first is not certain, and false where this is true
abbrev pub guard : ServerCondition → Cond → ServerCondition → Option Cond
guard (Compare comparison) fails next = sides_before comparison next
guard (Match matching) fails next = there_before matching next
guard _ fails next = Some fails

abbrev pub guard_of : ServerCondition → Cond → ServerCondition → Option Cond
guard_of first fails next = if is_certain first then None else guard first fails next

abbrev pub guard_of_and : ServerCondition → Cond → Option Cond
guard_of_and first holds = if is_certain first then None else Some holds

abbrev pub either_guarded : Cond → Option Cond → Cond → Cond
either_guarded first None next = either first next
either_guarded first (Some before) next = either first (both before next)

-- ---- a condition: ours is true where the answer is this one

abbrev pub rewritten_as : ServerCondition → Bool → Cond
rewritten_as (Constant true) true = always
rewritten_as (Constant true) false = never
rewritten_as (Constant false) true = never
rewritten_as (Constant false) false = always
rewritten_as (Last word) true = ours.Last word
rewritten_as (Last word) false = ours.Not (ours.Last word)
rewritten_as (Present list id) true = ours.Present list id
rewritten_as (Present list id) false = ours.Not (ours.Present list id)
rewritten_as (Compare comparison) true = ours.Compare comparison
rewritten_as (Compare comparison) false = differs comparison
rewritten_as (Match matching) true = ours.Match matching
rewritten_as (Match matching) false = mismatches matching
rewritten_as (CompareTexts comparison) true = ours.CompareTexts comparison
rewritten_as (CompareTexts comparison) false = texts_differ comparison
rewritten_as (MatchText matching) true = ours.MatchText matching
rewritten_as (MatchText matching) false = ours.Not (ours.MatchText matching)
rewritten_as (MatchGroup matching) true = ours.MatchGroup matching
rewritten_as (MatchGroup matching) false = ours.Not (ours.MatchGroup matching)
rewritten_as (Captured group) true = ours.Captured group
rewritten_as (Captured group) false = ours.Not (ours.Captured group)
rewritten_as (Not' p inner) true = rewritten_as inner false
rewritten_as (Not' p inner) false = rewritten_as inner true
rewritten_as (And' p first q next) true = both (rewritten_as first true) (rewritten_as next true)
rewritten_as (And' p first q next) false =
    either_guarded (rewritten_as first false) (guard_of_and first (rewritten_as first true))
    (rewritten_as next false)
rewritten_as (Or' p first q next) true =
    either_guarded (rewritten_as first true) (guard_of first (rewritten_as first false) next)
    (rewritten_as next true)
rewritten_as (Or' p first q next) false =
    both (rewritten_as first false) (rewritten_as next false)
