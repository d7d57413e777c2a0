use Rattle.radpolicy_import_conditions.proofs.Truths.{false_of_either}
use Rattle.radpolicy_import_conditions.proofs.rewriting.neither.Goals as goal

pub returns-clause-truth : goal.returns-clause-truth
returns-clause-truth c = λ m s k. false_of_either _ _ _ _ _ (c.in_ok-made.ensures.truth m s k) (c.requires.first m s k) (c.requires.next m s k)
