use Rattle.std.proofs.Common.{◌∙◌, arith, sym}
use Rattle.radpolicy.proofs.DistinctNames.{all_others_push, all_taken, one_is}
use Rattle.radpolicy.proofs.plans.has_name.Goals as goal

pub loop-taken-preserved : goal.loop-taken-preserved
loop-taken-preserved c =
    all_others_push _ _ _ c.loop-taken-test.true _ c.loop-taken.invariant (sym c.eq.ensures ∙ c.if-eq.false)

pub returns-clause-other : goal.returns-clause-other
returns-clause-other c = λ _. rw (all_taken c.args.names.now c.loop-taken.taken-index (omega arith)) at c.loop-taken.invariant

pub returns-then-eq-clause-taken : goal.returns-then-eq-clause-taken
returns-then-eq-clause-taken c = λ _. one_is c.args.names.now c.loop-taken.taken-index _ c.loop-taken-test.true c.args.name.now (sym c.eq.ensures ∙ c.if-eq.true)
