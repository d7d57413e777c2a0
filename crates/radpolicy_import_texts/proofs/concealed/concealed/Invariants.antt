use Rattle.radpolicy_import_texts.specs.Concealing.{HasNoValues}
use Rattle.radpolicy_import_texts.proofs.concealed.concealed.Given as goal

abbrev pub invariant-loop-octet : goal.invariant-loop-octet
invariant-loop-octet l = HasNoValues l.names l.reader.shown.items
