use Rattle.avp_unlang.specs.Conditions.{RightIs, TextsBy, side_of, text_comparison}
use Rattle.avp_unlang.specs.Forms.{Gives}
use Rattle.avp_unlang.specs.declared.tree.Cond.TheVariants.{CompareTexts}
use Rattle.avp_unlang.proofs.Determined.{exits, then_stops}
use Rattle.avp_unlang.proofs.text.texts.instance_beside.Goals as goal

pub returns-in_err-right-clause-read : goal.returns-in_err-right-clause-read
returns-in_err-right-clause-read c =
    exits (TextsBy c.args.dictionary.now (side_of c.args.dictionary.now c.args.found) c.args.relation c.args.at.now) _ _ c.from_residual.ensures.1
    (then_stops (RightIs c.args.dictionary.now) (λ right. Gives (CompareTexts (text_comparison (side_of c.args.dictionary.now c.args.found) c.args.relation right))) c.args.at.now c.in_err-right.field-0.0 c.in_err-right.ensures.read)
