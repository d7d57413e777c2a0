-- What a search for the next step may pass.
use Rattle.std.specs.Prelude.{ℕ, ◌+◌, List, map, Some, None}
use Rattle.avp_unlang.specs.declared.tree.Statement.{Statement}
use Rattle.avp_unlang.specs.declared.tree.Statement.TheFolds.{fold-Statement}
use Rattle.avp_unlang.specs.declared.tree.Statement.TheOpen.{Statement-F, Branch-F, Update, If, Transaction, Word}
use Rattle.avp_unlang.specs.Sizes.{total}

abbrev pub statement_skips : Statement-F ℕ ℕ → ℕ
statement_skips (Update n lines) = 2
statement_skips (If branches None) = 2
statement_skips (If branches (Some block)) = 3 + total block
statement_skips (Transaction n block) = 0
statement_skips (Word n word) = 0

abbrev pub branch_skips : Branch-F ℕ ℕ → ℕ
branch_skips b = 0

abbrev pub skips : Statement → ℕ
skips = fold-Statement ℕ ℕ statement_skips branch_skips

abbrev pub skips_of : List Statement → ℕ
skips_of statements = total (map skips statements)
