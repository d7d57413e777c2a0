use Rattle.std.proofs.Common.{arith}
use Rattle.radpolicy.proofs.DistinctNames.{all_taken, distinct_push, not_distinct}
use Rattle.radpolicy.proofs.plans.are_distinct.Goals as goal

pub loop-i-preserved : goal.loop-i-preserved
loop-i-preserved c =
    let others = c.has_name.ensures.other c.if-has_name.false in
    distinct_push _ _ _ c.loop-i-test.true c.loop-i.invariant others

pub returns-clause-distinct : goal.returns-clause-distinct
returns-clause-distinct c = λ _. rw (all_taken c.args.names.now c.loop-i.i (omega arith)) at c.loop-i.invariant

pub returns-then-has_name-clause-same : goal.returns-then-has_name-clause-same
returns-then-has_name-clause-same c = λ _. not_distinct c.args.names.now c.loop-i.i _ c.loop-i-test.true (c.has_name.ensures.taken c.if-has_name.true)
