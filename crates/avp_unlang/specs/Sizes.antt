-- The size of a policy: one for each update line, condition and word, and two for each transaction.
use Rattle.std.specs.Prelude.{ℕ, ◌+◌, List, [], ◌∷◌, length, map, Option, Some, None}
use Rattle.avp_unlang.specs.declared.tree.Branch.{Branch}
use Rattle.avp_unlang.specs.declared.tree.Statement.{Statement}
use Rattle.avp_unlang.specs.declared.tree.Statement.TheFolds.{fold-Statement, fold-Branch}
use Rattle.avp_unlang.specs.declared.tree.Statement.TheOpen.{Statement-F, Branch-F, Update, If, Transaction, Word}

abbrev pub total : List ℕ → ℕ
total [] = 0
total (n ∷ ns) = n + total ns

abbrev pub total_if_given : Option (List ℕ) → ℕ
total_if_given None = 0
total_if_given (Some ns) = total ns

-- of a statement, given the sizes of the statements and branches inside it
abbrev pub statement_size : Statement-F ℕ ℕ → ℕ
statement_size (Update line lines) = length lines
statement_size (If branches otherwise) = total branches + total_if_given otherwise
statement_size (Transaction line block) = 2 + total block
statement_size (Word line code) = 1

abbrev pub branch_size : Branch-F ℕ ℕ → ℕ
branch_size branch = 1 + total branch.block

unfoldable pub size : Statement → ℕ
size = fold-Statement ℕ ℕ statement_size branch_size

unfoldable pub size_of_branch : Branch → ℕ
size_of_branch = fold-Branch ℕ ℕ statement_size branch_size

abbrev pub size_of : List Statement → ℕ
size_of statements = total (map size statements)
