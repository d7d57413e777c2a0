use Rattle.std.proofs.Common.{◌≡◌, [], subst}
use Rattle.text_comparison.specs.Comparisons.{after, common}
use Rattle.text_comparison.specs.Parts.{IsBeginning}
use Rattle.text_comparison.proofs.Commons.{not_both, nothing_after, same_texts}
use Rattle.text_comparison.proofs.comparisons.Comparison.is_same.Goals as goal

pub returns-then-is_empty-clause-same : goal.returns-then-is_empty-clause-same
returns-then-is_empty-clause-same c = λ before now compared empty.
    same_texts before now
    (c.is_empty.ensures.none (after (common before now) before) compared.rest c.if-is_empty.true)
    (c.is_empty-then-is_empty.ensures.none (after (common before now) now) compared.rest_now empty)

pub returns-then-is_empty-clause-other : goal.returns-then-is_empty-clause-other
returns-then-is_empty-clause-other c = λ both compared.
    c.is_empty-then-is_empty.ensures.empty (subst (λ text. IsBeginning text c.args.self.now.current) (nothing_after both) compared.rest_now)

pub returns-else-is_empty-clause-other : goal.returns-else-is_empty-clause-other
returns-else-is_empty-clause-other c = λ both compared.
    c.is_empty.ensures.empty (subst (λ text. IsBeginning text c.args.self.now.earlier) (nothing_after both) compared.rest)
