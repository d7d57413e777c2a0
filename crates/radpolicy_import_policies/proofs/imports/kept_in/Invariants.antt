use Rattle.std.proofs.Common.{◌≡◌, ◌+◌, drop}
use Rattle.radpolicy_import_policies.specs.Imports.{kept_in}
use Rattle.radpolicy_import_policies.proofs.imports.kept_in.Given as goal

abbrev pub invariant-loop-line : goal.invariant-loop-line
invariant-loop-line l = l.total + kept_in (drop l.line-index l.lines) ≡ kept_in l.lines
