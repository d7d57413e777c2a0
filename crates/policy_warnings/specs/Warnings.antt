-- What a policy is warned of.
use Rattle.std.specs.Prelude.{ℕ, Bool, true, false, ◌&&◌, if◌then◌else◌, List, [], ◌∷◌, ◌++◌, Option, Some, None}
use Rattle.std.specs.List.{flat_map}
use Rattle.avp_lists.specs.Pairs.{id_eq}
use Rattle.avp_lists.specs.declared.edits.Op.{Op}
use Rattle.avp_lists.specs.declared.edits.Op.TheVariants.{Replace, KeepEqual}
use Rattle.avp_unlang.specs.declared.tree.Branch.{Branch}
use Rattle.avp_unlang.specs.declared.tree.Line.{Line}
use Rattle.avp_unlang.specs.declared.tree.Source.{Source}
use Rattle.avp_unlang.specs.declared.tree.Source.TheVariants.{Literal}
use Rattle.avp_unlang.specs.declared.tree.Statement.{Statement}
use Rattle.avp_unlang.specs.declared.tree.Statement.TheFolds.{fold-Statement, fold-Branch}
use Rattle.avp_unlang.specs.declared.tree.Statement.TheOpen.{Statement-F, Branch-F, Update, If, Transaction, Word}
use Rattle.policy_warnings.specs.Absences.{warns_of_absence}
use Rattle.policy_warnings.specs.Mentions.{is_within, same_list}
use Rattle.policy_warnings.specs.declared.warnings.Reason.{Reason}
use Rattle.policy_warnings.specs.declared.warnings.Reason.TheVariants.{AbsentComparison, EmptyUpdate, FilterInUpdate, UndoneLine, TransactionBlock}
use Rattle.policy_warnings.specs.declared.warnings.Warning.{Warning}

abbrev pub warning : ℕ → Reason → Warning
warning line reason = record { line = line; reason = reason }

-- the warning, if the test says so
abbrev pub warning_if : Bool → ℕ → Reason → List Warning
warning_if test line reason = if test then warning line reason ∷ [] else []

-- ---- updates

abbrev pub is_filter : Op → Bool
is_filter KeepEqual = true
is_filter _ = false

abbrev pub is_replacement : Op → Bool
is_replacement Replace = true
is_replacement _ = false

abbrev pub is_literal : Source → Bool
is_literal (Literal v) = true
is_literal _ = false

-- Both lines are `:=` of one attribute, and the second does not look at what the first set. A text is taken to look at
-- it, also one in which nothing is put but what was captured.
abbrev pub is_undone : Line → Line → Bool
is_undone line next =
    is_replacement line.op && is_replacement next.op && same_list line.list next.list
    && id_eq line.id next.id && is_within line.selection next.selection && is_literal next.source

-- the next line undoes it
abbrev pub undone_by : Line → List Line → List Warning
undone_by line [] = []
undone_by line (next ∷ others) = warning_if (is_undone line next) line.line UndoneLine

-- `==` filters the list on a server, and what follows is sorted
abbrev pub line_warnings : Line → List Line → List Warning
line_warnings line others =
    warning_if (is_filter line.op) line.line FilterInUpdate ++ undone_by line others

abbrev pub lines_warnings : List Line → List Warning
lines_warnings [] = []
lines_warnings (line ∷ others) = line_warnings line others ++ lines_warnings others

abbrev pub update_warnings : ℕ → List Line → List Warning
update_warnings n [] = warning n EmptyUpdate ∷ []
update_warnings n (line ∷ others) = lines_warnings (line ∷ others)

-- ---- statements

abbrev pub joined : List (List Warning) → List Warning
joined = flat_map (λ (ws : List Warning). ws)

abbrev pub joined_if_given : Option (List (List Warning)) → List Warning
joined_if_given None = []
joined_if_given (Some block) = joined block

-- of a statement, given the warnings of the statements and branches inside it
abbrev pub statement_warnings : Statement-F (List Warning) (List Warning) → List Warning
statement_warnings (Update n lines) = update_warnings n lines
statement_warnings (If branches otherwise) = joined branches ++ joined_if_given otherwise
statement_warnings (Transaction n block) = warning n TransactionBlock ∷ joined block
statement_warnings (Word n word) = []

abbrev pub branch_warnings : Branch-F (List Warning) (List Warning) → List Warning
branch_warnings b = warning_if (warns_of_absence b.cond) b.line AbsentComparison ++ joined b.block

unfoldable pub warnings_in : Statement → List Warning
warnings_in = fold-Statement (List Warning) (List Warning) statement_warnings branch_warnings

unfoldable pub warnings_in_branch : Branch → List Warning
warnings_in_branch = fold-Branch (List Warning) (List Warning) statement_warnings branch_warnings

-- of a policy, in the order of its text
abbrev pub warnings_of : List Statement → List Warning
warnings_of statements = flat_map warnings_in statements

abbrev pub warnings_if_given : Option (List Statement) → List Warning
warnings_if_given None = []
warnings_if_given (Some block) = warnings_of block
