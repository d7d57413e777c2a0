use Rattle.std.proofs.Common.{◌≡◌, ◌∙◌, ap, ap₂, codes, false, rules}
use Rattle.std.proofs.lemmas.Result.{IfOk-weaker}
use Rattle.clap.specs.Words.{App, app_of, new_app, rule_of, with_rule}
use Rattle.radpolicy.specs.CommandLines.{policy_option, required, script_option}
use Rattle.radpolicy.proofs.command_line.step_command.Goals as goal

pub returns : goal.returns
returns c =
    let none : app_of c.about.result ≡ new_app (codes "step") = search rules in
    let with_request_option = c.in_ok-arg.ensures.shape c.request_option.ensures.local ∙ ap₂ with_rule none c.request_option.ensures.rule in
    let with_hex_option = c.in_ok-arg-2.ensures.shape c.hex_option.ensures.local ∙ ap₂ with_rule with_request_option c.hex_option.ensures.rule in
    let with_secret_option = c.in_ok-arg-3.ensures.shape c.secret_option.ensures.local ∙ ap₂ with_rule with_hex_option c.secret_option.ensures.rule in
    let policy_option_local : c.required.result.global ≡ false = ap (λ option. option.global) c.required.ensures ∙ c.policy_option.ensures.local in
    let with_policy_option = c.in_ok-arg-4.ensures.shape policy_option_local ∙ ap₂ with_rule with_secret_option (ap rule_of c.required.ensures ∙ ap required c.policy_option.ensures.rule) in
    let script_option_local : c.required-2.result.global ≡ false = ap (λ option. option.global) c.required-2.ensures ∙ c.script_option.ensures.local in
    let with_script_option = c.in_ok-arg-5.ensures.shape script_option_local ∙ ap₂ with_rule with_policy_option (ap rule_of c.required-2.ensures ∙ ap required c.script_option.ensures.rule) in
    IfOk-weaker c.arg-6.result _ _ (λ r h. ap (λ (app : App). app.top) (h.shape c.dictionary_files.ensures.local ∙ ap₂ with_rule with_script_option c.dictionary_files.ensures.rule)) c.arg-6.ensures
