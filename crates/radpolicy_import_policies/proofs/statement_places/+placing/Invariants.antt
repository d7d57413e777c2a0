use Rattle.std.proofs.Common.{◌≡◌, ◌++◌, drop}
use Rattle.radpolicy_import_policies.specs.Statements.{places_of}
use Rattle.radpolicy_import_policies.proofs.statement_places.+placing.Given as goal

abbrev pub invariant-push_places_of-loop-statement : goal.invariant-push_places_of-loop-statement
invariant-push_places_of-loop-statement l =
    l.places.items ++ places_of (drop l.statement-index l.statements) ≡ l.fn.places.items ++ places_of l.statements
