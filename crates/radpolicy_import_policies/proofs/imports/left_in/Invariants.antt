use Rattle.std.proofs.Common.{◌≡◌, ◌+◌, drop}
use Rattle.radpolicy_import_policies.specs.Imports.{left_in}
use Rattle.radpolicy_import_policies.proofs.imports.left_in.Given as goal

abbrev pub invariant-loop-part : goal.invariant-loop-part
invariant-loop-part l = l.total + left_in (drop l.part-index l.parts) ≡ left_in l.parts
