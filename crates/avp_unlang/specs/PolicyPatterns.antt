-- The patterns that conditions compare with.
use Rattle.std.specs.Prelude.{◌≡◌, Bool, true, false, not, ◌&&◌, bytes_eq, IsTrue, List, Option, None, Some}
use Rattle.std.specs.List.{list_all, list_any}
use Rattle.avp_patterns.specs.Patterns.{Written}
use Rattle.avp_unlang.specs.PatternTruth.{pattern_in}
use Rattle.avp_unlang.specs.Texts.{group_pattern}
use Rattle.avp_unlang.specs.declared.tree.Branch.{Branch}
use Rattle.avp_unlang.specs.declared.tree.Cond.{Cond}
use Rattle.avp_unlang.specs.declared.tree.Cond.TheFolds.{fold-Cond}
use Rattle.avp_unlang.specs.declared.tree.Cond.TheOpen.{Cond-F, Any, All, Not, Last, Present, PresentSelected, Compare, CompareMeant, CompareTexts, Match, MatchText, MatchGroup, Captured}
use Rattle.avp_unlang.specs.declared.tree.Statement.{Statement}
use Rattle.avp_unlang.specs.declared.tree.Statement.TheFolds.{fold-Statement, fold-Branch}
use Rattle.avp_unlang.specs.declared.tree.Statement.TheOpen.{Statement-F, Branch-F, Update, If, Transaction, Word}

abbrev pub same_bool : Bool → Bool → Bool
same_bool true b = b
same_bool false b = not b

-- the same text and the same flags
unfoldable pub same_pattern : Written → Written → Bool
same_pattern v w =
    bytes_eq v.text w.text
    && (same_bool v.flags.ignore_case w.flags.ignore_case
    && same_bool v.flags.multi_line w.flags.multi_line)

-- a pattern is one of these
abbrev pub is_among : List Written → Written → Bool
is_among patterns w = list_any (λ v. same_pattern v w) patterns

abbrev pub passes : Bool → Bool
passes b = b

abbrev pub cond_layer_passes : (Written → Bool) → Cond-F Bool → Bool
cond_layer_passes test (Any parts) = list_all passes parts
cond_layer_passes test (All parts) = list_all passes parts
cond_layer_passes test (Not part) = part
cond_layer_passes test (Last word) = true
cond_layer_passes test (Present list id) = true
cond_layer_passes test (PresentSelected list id selection) = true
cond_layer_passes test (Compare comparison) = true
cond_layer_passes test (CompareMeant comparison) = true
cond_layer_passes test (Match matching) = test (pattern_in matching)
cond_layer_passes test (CompareTexts comparison) = true
cond_layer_passes test (MatchText matching) = test (pattern_in matching)
cond_layer_passes test (MatchGroup matching) = test (group_pattern matching)
cond_layer_passes test (Captured group) = true

-- each pattern that a condition compares with passes a test
unfoldable pub cond_patterns_pass : (Written → Bool) → Cond → Bool
cond_patterns_pass test = fold-Cond Bool (cond_layer_passes test)

-- ---- policies

abbrev pub block_passes : Option (List Bool) → Bool
block_passes None = true
block_passes (Some block) = list_all passes block

abbrev pub statement_layer_passes : Statement-F Bool Bool → Bool
statement_layer_passes (Update n lines) = true
statement_layer_passes (If branches otherwise) =
    list_all passes branches && block_passes otherwise
statement_layer_passes (Transaction n block) = list_all passes block
statement_layer_passes (Word n word) = true

abbrev pub branch_layer_passes : (Written → Bool) → Branch-F Bool Bool → Bool
branch_layer_passes test b = cond_patterns_pass test b.cond && list_all passes b.block

abbrev pub statement_patterns_pass : (Written → Bool) → Statement → Bool
statement_patterns_pass test =
    fold-Statement Bool Bool statement_layer_passes (branch_layer_passes test)

abbrev pub branch_patterns_pass : (Written → Bool) → Branch → Bool
branch_patterns_pass test =
    fold-Branch Bool Bool statement_layer_passes (branch_layer_passes test)

-- each pattern that a policy compares with passes a test
abbrev pub policy_patterns_pass : (Written → Bool) → List Statement → Bool
policy_patterns_pass test statements = list_all (statement_patterns_pass test) statements

-- no pattern passes, so that what passes has none
abbrev pub none_passes : Written → Bool
none_passes w = false

-- a condition of the policy compares with a pattern
abbrev pub HasPatterns : List Statement → Type 0
HasPatterns statements = policy_patterns_pass none_passes statements ≡ false

-- the same of the branches of an `if`, and of its last block
abbrev pub branches_pass : (Written → Bool) → List Branch → Bool
branches_pass test branches = list_all (branch_patterns_pass test) branches

abbrev pub else_passes : (Written → Bool) → Option (List Statement) → Bool
else_passes test None = true
else_passes test (Some block) = policy_patterns_pass test block

-- what was among some patterns is among others
abbrev pub AreKept : List Written → List Written → Type 0
AreKept old new = (w : Written) → IsTrue (is_among old w) → IsTrue (is_among new w)
