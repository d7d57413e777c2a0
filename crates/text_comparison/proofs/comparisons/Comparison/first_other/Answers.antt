use Rattle.std.proofs.Common.{◌≡◌, ◌++◌, subst, sym}
use Rattle.text_comparison.specs.Comparisons.{AreCompared, after, common}
use Rattle.text_comparison.proofs.Commons.{not_both}
use Rattle.text_comparison.proofs.comparisons.Comparison.first_other.Goals as goal

pub returns : goal.returns
returns c = λ before now compared. (
  (λ are. not_both c.is_same.result (c.is_same.ensures.other before (subst (λ text. AreCompared before text c.args.self.now) (sym are) compared)) c.if-is_same.false),
  record {
    number = compared.place.number;
    line = c.in_ok-line_of.ensures (common before now) (after (common before now) before) compared.place compared.rest;
    line_now = c.in_ok-line_of-2.ensures (common before now) (after (common before now) now) compared.place compared.rest_now;
  },
)

pub returns-then-is_same : goal.returns-then-is_same
returns-then-is_same c = λ before now compared. c.is_same.ensures.same before now compared c.if-is_same.true
