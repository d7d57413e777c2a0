use Rattle.std.proofs.Common.{◌≢◌, ◌∙◌, ap, sym, refl}
use Rattle.std.specs.Option.{option_map}
use Rattle.std.proofs.lemmas.Result.{IfErr-weaker, IfOk-weaker}
use Rattle.radpolicy.specs.declared.jobs.Form.TheVariants.{Hex}
use Rattle.radpolicy.proofs.command_line.identifier_of.Goals as goal

pub returns-in-None-default-clause-identifier : goal.returns-in-None-default-clause-identifier
returns-in-None-default-clause-identifier c = rw (sym c.text_in.ensures ∙ ap (option_map (λ text. text.now)) c.in-None-default.is-0) refl

pub returns-in-Some-Hex-clause-refused : goal.returns-in-Some-Hex-clause-refused
returns-in-Some-Hex-clause-refused c =
    let given = sym c.text_in.ensures ∙ ap (option_map (λ text. text.now)) c.in-Some-Hex.is-0 in
    rw given (refl, λ number (differs, is). differs c.in-Some-Hex.is-1)

pub returns-in-Some-Access : goal.returns-in-Some-Access
returns-in-Some-Access c =
    let given = sym c.text_in.ensures ∙ ap (option_map (λ text. text.now)) c.in-Some-Access.is-0 in
    let other : c.args.form ≢ Hex = λ hex. let bad = sym c.in-Some-Access.is-1 ∙ hex in cc in
    rw given (record {
      identifier = IfOk-weaker c.identifier_in.result _ _ (λ number is. (other, is)) c.identifier_in.ensures.number;
      refused = IfErr-weaker c.identifier_in.result _ _ (λ fault none. (none.0, λ number (differs, is). none.1 number is)) c.identifier_in.ensures.refused;
    })

pub returns-in-Some-Accounting : goal.returns-in-Some-Accounting
returns-in-Some-Accounting c =
    let given = sym c.text_in.ensures ∙ ap (option_map (λ text. text.now)) c.in-Some-Accounting.is-0 in
    let other : c.args.form ≢ Hex = λ hex. let bad = sym c.in-Some-Accounting.is-1 ∙ hex in cc in
    rw given (record {
      identifier = IfOk-weaker c.identifier_in-in-Some-Accounting.result _ _ (λ number is. (other, is)) c.identifier_in-in-Some-Accounting.ensures.number;
      refused = IfErr-weaker c.identifier_in-in-Some-Accounting.result _ _ (λ fault none. (none.0, λ number (differs, is). none.1 number is)) c.identifier_in-in-Some-Accounting.ensures.refused;
    })
