use Rattle.server_configuration.specs.Places.{AreOnLines}
use Rattle.radpolicy_import_policies.specs.Imports.{warning_origins}
use Rattle.radpolicy_import_policies.specs.Origins.{AreLines}
use Rattle.radpolicy_import_policies.proofs.imports.warnings_of.Given as goal

abbrev pub invariant-loop-warning : goal.invariant-loop-warning
invariant-loop-warning l =
    AreOnLines l.configuration.files.items l.configuration.items.items
    → AreLines l.configuration.files.items (warning_origins l.made.items)
