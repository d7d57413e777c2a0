use Rattle.radpolicy_import_conditions.proofs.Truths.{group_mismatch_of}
use Rattle.radpolicy_import_conditions.proofs.made_conditions.group_mismatches.Goals as goal

pub returns-clause-truth : goal.returns-clause-truth
returns-clause-truth c = λ m s k. group_mismatch_of m c.args.matching.now _ s k _ c.in_ok-copy_group_matching.ensures (c.in_ok-made.ensures.truth m s k)
