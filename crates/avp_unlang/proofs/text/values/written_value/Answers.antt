use Rattle.std.proofs.Common.{◌≡◌, rules}
use Rattle.avp_unlang.specs.Values.{WrittenIs}
use Rattle.avp_unlang.specs.declared.text.tokens.Token.TheVariants.{Operator}
use Rattle.avp_unlang.specs.declared.text.tokens.Sign.TheVariants.{Reference}
use Rattle.avp_unlang.specs.RefusedForms.{Tells}
use Rattle.avp_unlang.specs.RefusedValues.{WrittenFails, WrittenFailsFrom}
use Rattle.avp_unlang.proofs.RefusedReads.{tells}
use Rattle.avp_unlang.proofs.RefusedTokens.{token_fails}
use Rattle.avp_unlang.proofs.Determined.{exits}
use Rattle.avp_unlang.proofs.LinesOne.{reference_refused}
use Rattle.avp_unlang.proofs.text.values.written_value.Goals as goal

pub returns-in_err-other-in-Operator-Reference-clause-read : goal.returns-in_err-other-in-Operator-Reference-clause-read
returns-in_err-other-in-Operator-Reference-clause-read c =
    let first : c.next-token.result.0 ≡ Operator Reference = search rules in
    exits (WrittenIs c.args.profile c.args.dictionary.now c.args.target c.args.at.now) _ _ c.from_residual-in_err-other-in-Operator-Reference.ensures.1
    (reference_refused c.args.profile c.args.dictionary.now c.args.target c.args.at.now c.next-token.result c.in_err-other-in-Operator-Reference.field-0.0 c.next-token.ensures.same first c.in_err-other-in-Operator-Reference.ensures.read)

pub returns-in_err-other-in-Operator-Reference-clause-refused : goal.returns-in_err-other-in-Operator-Reference-clause-refused
returns-in_err-other-in-Operator-Reference-clause-refused c =
    let first : c.next-token.result.0 ≡ Operator Reference = search rules in
    tells (Tells (WrittenFails c.args.profile c.args.dictionary.now c.args.target c.args.name.left c.args.at.now)) _ _ c.from_residual-in_err-other-in-Operator-Reference.ensures.1
    (λ some. token_fails (WrittenFailsFrom c.args.profile c.args.dictionary.now c.args.target c.args.name.left) c.args.at.now c.next-token.result c.position.result.left (Operator Reference) c.next-token.ensures.same first c.position.ensures.place
    c.in_err-other-in-Operator-Reference.field-0.0.left c.in_err-other-in-Operator-Reference.field-0.0.kind (c.in_err-other-in-Operator-Reference.ensures.refused some))
