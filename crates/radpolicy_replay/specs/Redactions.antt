-- Of which policies secrets are hidden.
use Rattle.std.specs.Prelude.{List, ◌++◌, Option, None, Some}
use Rattle.avp_unlang.specs.declared.tree.Statement.{Statement}
use Rattle.radpolicy.specs.Starts.{Prepared}

-- the statements of a policy, and of the one that its answers are compared with
abbrev pub statements_compared : Prepared → Option Prepared → List Statement
statements_compared policy None = policy.statements
statements_compared policy (Some old) = policy.statements ++ old.statements
