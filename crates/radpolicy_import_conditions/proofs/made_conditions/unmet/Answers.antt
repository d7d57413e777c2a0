use Rattle.radpolicy_import_conditions.proofs.Truths.{unmet_copy}
use Rattle.radpolicy_import_conditions.proofs.made_conditions.unmet.Goals as goal

pub returns-clause-truth : goal.returns-clause-truth
returns-clause-truth c = λ m s k. unmet_copy m c.args.comparison.now _ s k _ c.in_ok-copy_comparison.ensures (c.in_ok-made.ensures.truth m s k)
