use Rattle.radpolicy_import_conditions.proofs.Truths.{not_last}
use Rattle.radpolicy_import_conditions.proofs.made_conditions.is_other_code.Goals as goal

pub returns-clause-truth : goal.returns-clause-truth
returns-clause-truth c = λ m s k. not_last m _ s k _ (c.in_ok-made.ensures.truth m s k)
