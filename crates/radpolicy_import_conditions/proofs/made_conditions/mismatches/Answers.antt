use Rattle.radpolicy_import_conditions.proofs.Truths.{mismatch_of}
use Rattle.radpolicy_import_conditions.proofs.made_conditions.mismatches.Goals as goal

pub returns-clause-truth : goal.returns-clause-truth
returns-clause-truth c = λ m s k.
    mismatch_of m c.args.matching.now _ s k _ _ _ c.in_ok-copy_matching.ensures (c.in_ok-made.ensures.truth m s k) (c.is_there.ensures.truth m s k) (c.in_ok-is_unmet.ensures.truth m s k)
