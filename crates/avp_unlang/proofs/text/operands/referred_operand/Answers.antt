use Rattle.avp_unlang.specs.Conditions.{ComparedIs}
use Rattle.avp_unlang.specs.Forms.{Then}
use Rattle.avp_unlang.specs.References.{ReadableIs}
use Rattle.avp_unlang.proofs.Determined.{exits, then_stops}
use Rattle.avp_unlang.proofs.text.operands.referred_operand.Goals as goal

pub returns-in_err-found-clause-read : goal.returns-in_err-found-clause-read
returns-in_err-found-clause-read c =
    exits (Then (ReadableIs c.args.profile c.args.dictionary.now) (ComparedIs c.args.profile c.args.dictionary.now) c.args.at.now) _ _ c.from_residual.ensures.1
    (then_stops (ReadableIs c.args.profile c.args.dictionary.now) (ComparedIs c.args.profile c.args.dictionary.now) c.args.at.now c.in_err-found.field-0.0 c.in_err-found.ensures.read)
