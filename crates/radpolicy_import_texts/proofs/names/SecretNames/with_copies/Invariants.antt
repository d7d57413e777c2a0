use Rattle.std.proofs.Common.{◌≡◌}
use Rattle.radpolicy_import_texts.proofs.names.SecretNames.with_copies.Given as goal

abbrev pub invariant-loop : goal.invariant-loop
invariant-loop l = l.names.redaction ≡ l.fn.redaction
