use Rattle.radpolicy_import_conditions.proofs.Truths.{differs_of}
use Rattle.radpolicy_import_conditions.proofs.made_conditions.differs.Goals as goal

pub returns-clause-truth : goal.returns-clause-truth
returns-clause-truth c = λ m s k. differs_of _ _ _ _ (c.in_ok-made.ensures.truth m s k) (c.in_ok-are_there.ensures.truth m s k) (c.in_ok-is_unmet.ensures.truth m s k)
