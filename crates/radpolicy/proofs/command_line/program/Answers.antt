use Rattle.std.proofs.Common.{◌≡◌, ◌∙◌, ap, ap₂, codes, true, rules}
use Rattle.std.proofs.lemmas.Result.{IfOk-weaker}
use Rattle.clap.specs.Words.{App, Shape, app_of, new_app, with_subcommand}
use Rattle.radpolicy.proofs.PlainCommands.{has_no_globals}
use Rattle.radpolicy.proofs.command_line.program.Goals as goal

abbrev named : App
named = new_app (codes "radpolicy")

abbrev requiring : App
requiring = record named { top = record named.top { subcommand_required = true } }

abbrev helpless : App
helpless = record named { top = record named.top { subcommand_required = true; disable_help_subcommand = true } }

pub returns : goal.returns
returns c =
    let about : app_of c.about.result ≡ named = search rules in
    let after : app_of c.after_help.result ≡ named = search rules in
    let must : app_of c.subcommand_required.result ≡ requiring = search rules in
    let none : app_of c.disable_help_subcommand.result ≡ helpless = search rules in
    let with_run = c.in_ok-subcommand.ensures.shape (has_no_globals _ _ _ _ (ap (λ (s : Shape). s.is_plain) c.in_ok-run_command.ensures)) ∙ ap₂ with_subcommand none c.in_ok-run_command.ensures in
    let with_step = c.in_ok-subcommand-2.ensures.shape (has_no_globals _ _ _ _ (ap (λ (s : Shape). s.is_plain) c.in_ok-step_command.ensures)) ∙ ap₂ with_subcommand with_run c.in_ok-step_command.ensures in
    let with_encode = c.in_ok-subcommand-3.ensures.shape (has_no_globals _ _ _ _ (ap (λ (s : Shape). s.is_plain) c.in_ok-encode_command.ensures)) ∙ ap₂ with_subcommand with_step c.in_ok-encode_command.ensures in
    let with_decode = c.in_ok-subcommand-4.ensures.shape (has_no_globals _ _ _ _ (ap (λ (s : Shape). s.is_plain) c.in_ok-decode_command.ensures)) ∙ ap₂ with_subcommand with_encode c.in_ok-decode_command.ensures in
    IfOk-weaker c.subcommand-5.result _ _ (λ r h. h.shape (has_no_globals _ _ _ _ (ap (λ (s : Shape). s.is_plain) c.in_ok-check_command.ensures)) ∙ ap₂ with_subcommand with_decode c.in_ok-check_command.ensures) c.subcommand-5.ensures
