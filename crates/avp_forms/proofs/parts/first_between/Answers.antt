use Rattle.std.proofs.Common.{eqb, arith}
use Rattle.std.proofs.lemmas.Grind.{common_steps}
use Rattle.avp_dict.proofs.FoundPositions.{parts_more, parts_last}
use Rattle.avp_forms.proofs.parts.first_between.Goals as goal

pub returns-clause-cut : goal.returns-clause-cut
returns-clause-cut c = let e = parts_more (λ o. eqb o c.args.separator) c.args.text.now c.in_ok-end.end (grind (arith, common_steps)) in grind (arith, common_steps, e)

pub returns-in_err-end-clause-whole : goal.returns-in_err-end-clause-whole
returns-in_err-end-clause-whole c = let e = parts_last (λ o. eqb o c.args.separator) c.args.text.now (grind (arith, common_steps)) in grind (arith, common_steps, e)
