use Rattle.std.proofs.Common.{◌≡◌}
use Rattle.radpolicy_import_texts.proofs.names.SecretNames.add_copies.Given as goal

abbrev pub invariant-loop-item : goal.invariant-loop-item
invariant-loop-item l = l.self.redaction ≡ l.fn.self.redaction
