use Rattle.std.proofs.Common.{◌≡◌, subst, sym}
use Rattle.text_comparison.specs.Comparisons.{AreCompared, common}
use Rattle.text_comparison.specs.internal.Further.{IsFurther}
use Rattle.text_comparison.proofs.Commons.{further_other, further_same, not_both}
use Rattle.text_comparison.proofs.comparisons.Comparison.further.Goals as goal

pub returns-then-is_same-clause-further : goal.returns-then-is_same-clause-further
returns-then-is_same-clause-further c = λ before now compared on.
    subst (IsFurther before now c.args.earlier.now c.args.now.now) (sym c.common_length.ensures.same)
    (further_same before now c.args.earlier.now c.args.now.now (c.is_same.ensures.same before now compared c.if-is_same.true))

pub returns-else-is_same-clause-further : goal.returns-else-is_same-clause-further
returns-else-is_same-clause-further c = λ before now compared on.
    further_other before now c.args.earlier.now c.args.now.now
    (λ are. not_both c.is_same.result (c.is_same.ensures.other before (subst (λ text. AreCompared before text c.args.self.now) (sym are) compared)) c.if-is_same.false)
    on
