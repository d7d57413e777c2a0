use Rattle.avp_unlang.specs.Conditions.{MeantBy, MeantIs}
use Rattle.avp_forms.specs.declared.profiles.Profile.TheVariants.{Wider}
use Rattle.avp_unlang.proofs.ConditionsOne.{Meant}
use Rattle.avp_unlang.proofs.Determined.{exits, then_stops}
use Rattle.avp_unlang.proofs.text.meanings.related_by_meaning.Goals as goal

pub returns-in_err-comparand-clause-read : goal.returns-in_err-comparand-clause-read
returns-in_err-comparand-clause-read c =
    exits (MeantBy c.args.dictionary.now c.args.found c.args.relation c.args.at.now) _ _ c.from_residual.ensures.1
    (then_stops (MeantIs c.args.dictionary.now c.args.found.target) (Meant Wider c.args.dictionary.now c.args.found c.args.relation) c.args.at.now c.in_err-comparand.field-0.0 c.in_err-comparand.ensures.read)
