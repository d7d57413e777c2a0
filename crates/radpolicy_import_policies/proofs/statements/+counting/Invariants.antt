use Rattle.std.proofs.Common.{◌≡◌, ◌+◌, drop}
use Rattle.radpolicy_import_policies.specs.Statements.{count_of}
use Rattle.radpolicy_import_policies.proofs.statements.+counting.Given as goal

abbrev pub invariant-count_of-loop-statement : goal.invariant-count_of-loop-statement
invariant-count_of-loop-statement l = l.total + count_of (drop l.statement-index l.statements) ≡ count_of l.statements
