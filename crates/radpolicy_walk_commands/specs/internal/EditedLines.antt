-- The lines of a policy by which the instances of an attribute in a list may change, and what other steps leave.
use Rattle.std.specs.Prelude.{◌≡◌, ◌≢◌, ◌<◌, ℕ, ◌-◌, Bool, true, false, ◌==◌, ◌&&◌, List, [], ◌∷◌, ◌++◌, Option, None, Some, is_some, if◌then◌else◌, length, map}
use Rattle.std.specs.HashMap.{HashMap, get_by}
use Rattle.std.specs.HashSet.{HashSet}
use Rattle.std.specs.List.{flat_map, list_any}
use Rattle.std.specs.Borrow.{Bor}
use Rattle.avp_lists.specs.Instances.{instances}
use Rattle.avp_lists.specs.Pairs.{id_eq}
use Rattle.avp_lists.specs.Selections.{apply_selected}
use Rattle.avp_lists.specs.States.{list_of}
use Rattle.avp_lists.specs.declared.lists.List.{List as Name}
use Rattle.avp_lists.specs.declared.lists.List.TheVariants.{Request, Reply, Control}
use Rattle.avp_lists.specs.declared.pairs.AttrId.{AttrId}
use Rattle.avp_lists.specs.declared.pairs.Pair.{Pair}
use Rattle.avp_lists.specs.declared.lists.State.{State}
use Rattle.avp_dict.specs.Dictionary.{Dictionary}
use Rattle.avp_step.specs.Trace.{Entry, trace_of}
use Rattle.avp_step.specs.declared.labels.Label.{Label}
use Rattle.avp_step.specs.declared.labels.Label.TheVariants as label
use Rattle.avp_unlang.specs.declared.tree.Branch.{Branch}
use Rattle.avp_unlang.specs.Resolutions.{pair_of}
use Rattle.avp_unlang.specs.declared.tree.Line.{Line}
use Rattle.avp_unlang.specs.declared.tree.Source.TheVariants.{Literal}
use Rattle.avp_unlang.specs.declared.tree.Statement.{Statement}
use Rattle.avp_unlang.specs.declared.tree.Statement.TheFolds.{fold-Statement, fold-Branch}
use Rattle.avp_unlang.specs.declared.tree.Statement.TheOpen.{Statement-F, Branch-F, Update, If, Transaction, Word}
use Rattle.radpolicy_walk_commands.specs.Histories.{entry_at}
use Rattle.radpolicy_walk_commands.specs.Steps.{is_one_of}
use Rattle.radpolicy_walk_commands.specs.declared.edited_lines.EditedLines.{EditedLines}
use Rattle.radpolicy_walk_commands.specs.declared.edited_lines.Effect.{Effect}

abbrev pub same_list : Name → Name → Bool
same_list Request Request = true
same_list Reply Reply = true
same_list Control Control = true
same_list _ _ = false

-- the line edits the attribute in the list
abbrev pub edits : Name → AttrId → Line → Bool
edits list id line = same_list list line.list && id_eq line.id id

-- lines without where they lie in memory
abbrev pub lines_behind : List (Bor Line) → List Line
lines_behind refs = map (λ line. line.now) refs

abbrev pub number_if : Bool → ℕ → List ℕ
number_if true n = n ∷ []
number_if false n = []

-- the numbers of those that do
abbrev pub line_numbers : Name → AttrId → List Line → List ℕ
line_numbers list id [] = []
line_numbers list id (line ∷ lines) =
    number_if (edits list id line) line.line ++ line_numbers list id lines

-- ---- the update lines of a policy, in the order of its text

abbrev pub joined : List (List Line) → List Line
joined = flat_map (λ (lines : List Line). lines)

abbrev pub joined_if_given : Option (List (List Line)) → List Line
joined_if_given None = []
joined_if_given (Some block) = joined block

abbrev pub statement_lines : Statement-F (List Line) (List Line) → List Line
statement_lines (Update n lines) = lines
statement_lines (If branches otherwise) = joined branches ++ joined_if_given otherwise
statement_lines (Transaction n block) = joined block
statement_lines (Word n word) = []

abbrev pub branch_lines : Branch-F (List Line) (List Line) → List Line
branch_lines b = joined b.block

unfoldable pub lines_in : Statement → List Line
lines_in = fold-Statement (List Line) (List Line) statement_lines branch_lines

unfoldable pub lines_in_branch : Branch → List Line
lines_in_branch = fold-Branch (List Line) (List Line) statement_lines branch_lines

abbrev pub lines_of : List Statement → List Line
lines_of statements = flat_map lines_in statements

abbrev pub lines_if_given : Option (List Statement) → List Line
lines_if_given None = []
lines_if_given (Some block) = lines_of block

-- ---- what a line makes of the instances

-- what an operator with a value makes of an attribute's instances
abbrev pub made_by : AttrId → Effect → List Pair → List Pair
made_by id effect pairs =
    apply_selected effect.selection effect.op (pair_of id effect.value) pairs

-- the line edits them so, with a value that is written out
pub record IsEffectOf (list : Name) (id : AttrId) (effect : Effect) (line : Line) : Type 0 where
  pub edit : edits list id line ≡ true
  pub source : line.source ≡ Literal effect.value
  pub op : line.op ≡ effect.op
  pub selection : line.selection ≡ effect.selection

-- of these lines, each with this number edits them so
abbrev pub Agree : Name → AttrId → ℕ → Effect → List Line → Type 0
Agree list id n effect [] = Unit {0}
Agree list id n effect (line ∷ lines) =
    (line.line ≡ n → IsEffectOf list id effect line) × Agree list id n effect lines

-- ---- which steps they are of

abbrev pub has_any : List ℕ → Bool
has_any [] = false
has_any (n ∷ numbers) = true

-- where these lines edit it, a step of this kind may change the instances
abbrev pub may_change : List ℕ → Label → Bool
may_change numbers (label.Line n) = is_one_of numbers n
may_change numbers (label.Failed n reason) = has_any numbers
may_change numbers (label.Rollback n) = has_any numbers
may_change numbers _ = false

abbrev pub has_number : {S : Type 0} → HashSet ℕ S → ℕ → Bool
has_number numbers n = list_any (λ own. n == own) numbers.keys

abbrev pub has_line : EditedLines → ℕ → Bool
has_line edited n = has_number edited.lines n

-- the same, where the numbers are kept like this
abbrev pub may_change_by : EditedLines → Label → Bool
may_change_by edited (label.Line n) = has_line edited n
may_change_by edited (label.Failed n reason) = edited.any
may_change_by edited (label.Rollback n) = edited.any
may_change_by edited _ = false

-- these are the lines of the numbers
pub record AreOf (numbers : List ℕ) (edited : EditedLines) : Type 0 where
  pub any : edited.any ≡ has_any numbers
  pub each : (n : ℕ) → has_line edited n ≡ is_one_of numbers n

-- ---- which lines make what

-- what is kept of a number: nothing, or an effect, or that there is none to tell
abbrev pub effect_in : {S : Type 0} → HashMap ℕ (Option Effect) S → ℕ → Option (Option Effect)
effect_in effects n = get_by (λ own. n == own) effects

abbrev pub effect_at : EditedLines → ℕ → Option (Option Effect)
effect_at edited n = effect_in edited.effects n

abbrev pub told : Option (Option Effect) → Option Effect
told None = None
told (Some effect) = effect

-- what is kept of n after a line with an effect, or none: a second line with its number makes that there is none to tell
abbrev pub kept_of : ℕ → Option Effect → Option (Option Effect) → Option (Option Effect) → ℕ
    → Option (Option Effect)
kept_of line effect before own n =
    if line == n then Some (if is_some before then None else effect) else own

-- none of the lines has this number
abbrev pub IsNew : ℕ → List Line → Type 0
IsNew n [] = Unit {0}
IsNew n (line ∷ lines) = (line.line ≢ n) × IsNew n lines

-- the effect that is kept of a number is that of each line with this number, and of a number without a line there is none
pub record AreEffects (list : Name) (id : AttrId) (lines : List Line)
    (effects : ℕ → Option (Option Effect)) : Type 0 where
  pub sole : (n : ℕ) (effect : Effect) → effects n ≡ Some (Some effect)
      → Agree list id n effect lines
  pub fresh : (n : ℕ) → effects n ≡ None → IsNew n lines

-- ---- what steps leave and make

-- each step of this kind leaves the instances
abbrev pub Leave : Name → AttrId → List Entry → (Label → Bool) → Type 0
Leave list id trace may =
    (k : ℕ) → 0 < k → k < length trace → may (entry_at trace k).label ≡ false
    → instances id (list_of list (entry_at trace (k - 1)).outcome.state)
    ≡ instances id (list_of list (entry_at trace k).outcome.state)

-- each step that is of none of the lines leaves the instances
abbrev pub LeaveOthers : Name → AttrId → EditedLines → List Entry → Type 0
LeaveOthers list id edited trace = Leave list id trace (may_change_by edited)

-- the effect of a step of this kind, if it is told
abbrev pub told_effect : (ℕ → Option (Option Effect)) → Label → Option Effect
told_effect effects (label.Line n) = told (effects n)
told_effect effects _ = None

-- each step with an effect that is told makes it
abbrev pub AreMade : Name → AttrId → (ℕ → Option (Option Effect)) → List Entry → Type 0
AreMade list id effects trace =
    (k : ℕ) (effect : Effect) → 0 < k → k < length trace
    → told_effect effects (entry_at trace k).label ≡ Some effect
    → instances id (list_of list (entry_at trace k).outcome.state)
    ≡ made_by id effect (instances id (list_of list (entry_at trace (k - 1)).outcome.state))

-- the trace is that of the policy from some lists
abbrev pub IsRunOf : Dictionary → List Statement → List Entry → Type 0
IsRunOf dictionary statements trace = (s : State) × (trace ≡ trace_of dictionary statements s)
