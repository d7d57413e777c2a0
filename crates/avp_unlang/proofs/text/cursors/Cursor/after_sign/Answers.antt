use Rattle.std.proofs.Common.{ap, sym, ◌∙◌, rules}
use denote.Enum.Bare.{same_true}
use Rattle.avp_unlang.specs.contracts.text.tokens.Sign.{the_type}
use Rattle.avp_unlang.specs.declared.text.tokens.Token.{Token}
use Rattle.avp_unlang.specs.declared.text.tokens.Token.TheVariants.{Operator}
use Rattle.avp_unlang.proofs.text.cursors.Cursor.after_sign.Goals as goal

pub returns-in-Operator-clause-found : goal.returns-in-Operator-clause-found
returns-in-Operator-clause-found c =
    let same = same_true the_type (search rules) _ _ (sym c.if-eq.ensures) in
    c.after.ensures.follows ∙ ap (λ (t : Token). (t, c.after.result)) (sym c.token.ensures ∙ c.in-Operator.is ∙ ap Operator same)
