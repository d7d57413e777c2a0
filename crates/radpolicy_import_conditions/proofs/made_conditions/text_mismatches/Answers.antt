use Rattle.radpolicy_import_conditions.proofs.Truths.{text_mismatch_of}
use Rattle.radpolicy_import_conditions.proofs.made_conditions.text_mismatches.Goals as goal

pub returns-clause-truth : goal.returns-clause-truth
returns-clause-truth c = λ m s k. text_mismatch_of m c.args.matching.now _ s k _ c.in_ok-copy_matching.ensures (c.in_ok-made.ensures.truth m s k)
