use Rattle.avp_unlang.specs.Conditions.{ComparandIs, ComparandOf, ComparedBy}
use Rattle.avp_unlang.proofs.ConditionsOne.{Compared}
use Rattle.avp_unlang.proofs.Determined.{exits, then_stops}
use Rattle.avp_unlang.proofs.LinesOne.{made_refused, made_stops}
use Rattle.avp_unlang.proofs.text.operands.related_by_type.Goals as goal

pub returns-in_err-written-clause-read : goal.returns-in_err-written-clause-read
returns-in_err-written-clause-read c =
    let target = c.args.found.target in
    exits (ComparedBy c.args.profile c.args.dictionary.now c.args.found c.args.relation c.args.at.now) _ _ c.from_residual.ensures.1
    (then_stops (ComparandIs c.args.profile c.args.dictionary.now target) (Compared c.args.profile c.args.dictionary.now c.args.found c.args.relation) c.args.at.now c.in_err-written.field-0.0
    (made_stops c.args.profile c.args.dictionary.now target (ComparandOf c.args.profile c.args.dictionary.now target) c.args.at.now c.in_err-written.field-0.0 c.in_err-written.ensures.read))

pub returns-in_err-comparand-clause-read : goal.returns-in_err-comparand-clause-read
returns-in_err-comparand-clause-read c =
    let target = c.args.found.target in
    exits (ComparedBy c.args.profile c.args.dictionary.now c.args.found c.args.relation c.args.at.now) _ _ c.from_residual-in_err-comparand.ensures.1
    (then_stops (ComparandIs c.args.profile c.args.dictionary.now target) (Compared c.args.profile c.args.dictionary.now c.args.found c.args.relation) c.args.at.now c.in_err-comparand.field-0.0
    (made_refused c.args.profile c.args.dictionary.now target (ComparandOf c.args.profile c.args.dictionary.now target) c.args.at.now c.in_ok-written.written c.in_ok-written.rest c.in_err-comparand.field-0.0
    c.in_ok-written.ensures.read c.in_err-comparand.ensures.read))
