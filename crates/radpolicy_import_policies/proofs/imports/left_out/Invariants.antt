use Rattle.server_configuration.specs.Places.{AreOnLines}
use Rattle.radpolicy_import_policies.specs.Imports.{part_origins}
use Rattle.radpolicy_import_policies.specs.Origins.{AreLines}
use Rattle.radpolicy_import_policies.proofs.imports.left_out.Given as goal

abbrev pub invariant-loop-part : goal.invariant-loop-part
invariant-loop-part l =
    AreOnLines l.configuration.files.items l.configuration.items.items
    → AreLines l.configuration.files.items (part_origins l.made.items)
