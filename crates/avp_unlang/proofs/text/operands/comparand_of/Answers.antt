use Rattle.avp_unlang.specs.Conditions.{ComparandOf}
use Rattle.avp_unlang.proofs.ConditionsOne.{plain_refused}
use Rattle.avp_unlang.proofs.Determined.{exits_all}
use Rattle.avp_unlang.proofs.text.operands.comparand_of.Goals as goal

pub returns-in_err-value-in-Double-clause-read : goal.returns-in_err-value-in-Double-clause-read
returns-in_err-value-in-Double-clause-read c =
    exits_all (ComparandOf c.args.profile c.args.dictionary.now c.args.target c.args.written) _ _ c.from_residual.ensures.1
    (λ some x h. plain_refused c.args.profile c.args.dictionary.now c.args.target c.args.written c.in-Double.text c.in-Double.is (c.in_err-value-in-Double.ensures.err some) x h)
