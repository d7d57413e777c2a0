-- How many parts of a policy are begun and not yet ended at once in a run. (How deep signs may nest is said where they
-- are spelled.)
use Rattle.std.specs.Prelude.{ℕ, ◌+◌, List, [], ◌∷◌, map, max, Option, Some, None}
use Rattle.avp_unlang.specs.declared.tree.Branch.{Branch}
use Rattle.avp_unlang.specs.declared.tree.Statement.{Statement}
use Rattle.avp_unlang.specs.declared.tree.Statement.TheFolds.{fold-Statement, fold-Branch}
use Rattle.avp_unlang.specs.declared.tree.Statement.TheOpen.{Statement-F, Branch-F, Update, If, Transaction, Word}

abbrev pub greatest : List ℕ → ℕ
greatest [] = 0
greatest (n ∷ ns) = max n (greatest ns)

abbrev pub greatest_if_given : Option (List ℕ) → ℕ
greatest_if_given None = 0
greatest_if_given (Some block) = greatest block

-- an update and an `if` are one part, a transaction is one with its body as another
abbrev pub statement_depth : Statement-F ℕ ℕ → ℕ
statement_depth (Update n lines) = 1
statement_depth (If branches otherwise) = 1 + max (greatest branches) (greatest_if_given otherwise)
statement_depth (Transaction n block) = 2 + greatest block
statement_depth (Word n word) = 0

abbrev pub branch_depth : Branch-F ℕ ℕ → ℕ
branch_depth b = greatest b.block

abbrev pub depth : Statement → ℕ
depth = fold-Statement ℕ ℕ statement_depth branch_depth

abbrev pub depth_of_branch : Branch → ℕ
depth_of_branch = fold-Branch ℕ ℕ statement_depth branch_depth

-- the parts inside a block
abbrev pub depth_of : List Statement → ℕ
depth_of statements = greatest (map depth statements)

abbrev pub depth_of_branches : List Branch → ℕ
depth_of_branches bs = greatest (map depth_of_branch bs)

abbrev pub else_depth : Option (List Statement) → ℕ
else_depth None = 0
else_depth (Some block) = depth_of block
