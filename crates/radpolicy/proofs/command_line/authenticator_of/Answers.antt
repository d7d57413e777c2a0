use Rattle.std.proofs.Common.{◌∙◌, ap, sym, refl}
use Rattle.std.specs.Option.{option_map}
use Rattle.std.proofs.lemmas.Result.{err_from_is_err_and}
use Rattle.radpolicy.proofs.command_line.authenticator_of.Goals as goal

pub returns-in_err-authenticator_in-in-Some-clause-refused : goal.returns-in_err-authenticator_in-in-Some-clause-refused
returns-in_err-authenticator_in-in-Some-clause-refused c =
    let p = err_from_is_err_and c.from_residual.result c.from_residual.ensures.1 in
    let given = sym c.text_in.ensures ∙ ap (option_map (λ text. text.now)) c.in-Some.is in
    let refused = c.in_err-authenticator_in-in-Some.ensures.refused in
    rw (p.1, p.2, given) (refused.0, λ authenticator of. refused.1 of.0 of.1)

pub returns-in_ok-authenticator_in-in-Some-clause-octets : goal.returns-in_ok-authenticator_in-in-Some-clause-octets
returns-in_ok-authenticator_in-in-Some-clause-octets c =
    let given = sym c.text_in.ensures ∙ ap (option_map (λ text. text.now)) c.in-Some.is in
    rw given (c.in_ok-authenticator_in-in-Some.field-0, c.in_ok-authenticator_in-in-Some.ensures.octets, refl)

pub returns-in-None-clause-octets : goal.returns-in-None-clause-octets
returns-in-None-clause-octets c = rw (sym c.text_in.ensures ∙ ap (option_map (λ text. text.now)) c.in-None.is) refl
