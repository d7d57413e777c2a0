use Rattle.std.proofs.Common.{arith}
use Rattle.std.proofs.lemmas.Grind.{common_steps}
use Rattle.avp_dict.proofs.FoundPositions.{parts_last, parts_more}
use Rattle.radpolicy_common.specs.SecretAttributes.{is_equals_sign}
use Rattle.radpolicy_common.proofs.secret_attributes.cut_at_sign.Goals as goal

pub returns-clause-cut : goal.returns-clause-cut
returns-clause-cut c = let e = parts_more is_equals_sign c.args.text.now c.in_ok-at.at (grind (arith, common_steps)) in grind (arith, common_steps, e)

pub returns-in_err-at-clause-whole : goal.returns-in_err-at-clause-whole
returns-in_err-at-clause-whole c = let e = parts_last is_equals_sign c.args.text.now (grind (arith, common_steps)) in grind (arith, common_steps, e)
