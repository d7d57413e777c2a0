use Rattle.std.proofs.Common.{◌≡◌, ◌∙◌, ◌++◌, ap, subst, sym}
use Rattle.text_comparison.specs.Comparisons.{after, common}
use Rattle.text_comparison.specs.Parts.{IsBeginning, IsPlace}
use Rattle.text_comparison.proofs.Commons.{rest_taken}
use Rattle.text_comparison.proofs.comparisons.Comparison.add.Goals as goal

pub returns : goal.returns
returns c = λ before now compared on.
    let further = c.further-count.ensures.further before now compared on in
    record {
      place = subst (λ text. IsPlace text c.pass.new.self) (sym further.front) (c.in_ok-pass.ensures (common before now) compared.place);
      rest = subst (λ text. IsBeginning text c.add.new.self)
          (ap (λ more. after (common before now) before ++ more) (rest_taken c.further-count.result c.args.earlier.now) ∙ sym further.rest)
          (c.in_ok-add.ensures (after (common before now) before) compared.rest);
      rest_now = subst (λ text. IsBeginning text c.add-2.new.self)
          (ap (λ more. after (common before now) now ++ more) (rest_taken c.further-count.result c.args.now.now) ∙ sym further.rest_now)
          (c.in_ok-add-2.ensures (after (common before now) now) compared.rest_now);
    }
