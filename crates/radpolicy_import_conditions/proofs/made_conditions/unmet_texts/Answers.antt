use Rattle.radpolicy_import_conditions.proofs.Truths.{unmet_texts_copy}
use Rattle.radpolicy_import_conditions.proofs.made_conditions.unmet_texts.Goals as goal

pub returns-clause-truth : goal.returns-clause-truth
returns-clause-truth c = λ m s k. unmet_texts_copy m c.args.comparison.now _ s k _ c.in_ok-copy_texts.ensures (c.in_ok-made.ensures.truth m s k)
