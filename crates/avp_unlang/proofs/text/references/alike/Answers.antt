use Rattle.avp_unlang.specs.References.{AlikeIs}
use Rattle.avp_unlang.proofs.Determined.{exits}
use Rattle.avp_unlang.proofs.text.references.alike.Goals as goal

pub returns-in_err-found-clause-read : goal.returns-in_err-found-clause-read
returns-in_err-found-clause-read c =
    exits (AlikeIs c.args.profile c.args.dictionary.now c.args.id c.args.at.now) _ _ c.from_residual.ensures.1 (λ some found rest h. c.in_err-found.ensures.read some found rest h.0)
