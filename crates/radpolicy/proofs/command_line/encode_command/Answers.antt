use Rattle.std.proofs.Common.{◌≡◌, ◌∙◌, ap, ap₂, codes, false, rules}
use Rattle.std.proofs.lemmas.Result.{IfOk-weaker}
use Rattle.clap.specs.Words.{App, app_of, new_app, rule_of, with_rule}
use Rattle.radpolicy.specs.CommandLines.{required, secret_option}
use Rattle.radpolicy.proofs.command_line.encode_command.Goals as goal

pub returns : goal.returns
returns c =
    let none : app_of c.about.result ≡ new_app (codes "encode") = search rules in
    let with_request_option = c.in_ok-arg.ensures.shape c.request_option.ensures.local ∙ ap₂ with_rule none c.request_option.ensures.rule in
    let with_accounting_option = c.in_ok-arg-2.ensures.shape c.accounting_option.ensures.local ∙ ap₂ with_rule with_request_option c.accounting_option.ensures.rule in
    let with_identifier_option = c.in_ok-arg-3.ensures.shape c.identifier_option.ensures.local ∙ ap₂ with_rule with_accounting_option c.identifier_option.ensures.rule in
    let secret_option_local : c.required.result.global ≡ false = ap (λ option. option.global) c.required.ensures ∙ c.secret_option.ensures.local in
    let with_secret_option = c.in_ok-arg-4.ensures.shape secret_option_local ∙ ap₂ with_rule with_identifier_option (ap rule_of c.required.ensures ∙ ap required c.secret_option.ensures.rule) in
    let with_authenticator_option = c.in_ok-arg-5.ensures.shape c.authenticator_option.ensures.local ∙ ap₂ with_rule with_secret_option c.authenticator_option.ensures.rule in
    IfOk-weaker c.arg-6.result _ _ (λ r h. ap (λ (app : App). app.top) (h.shape c.dictionary_files.ensures.local ∙ ap₂ with_rule with_authenticator_option c.dictionary_files.ensures.rule)) c.arg-6.ensures
