use Rattle.std.proofs.Common.{◌∙◌, ap, inl, inr, map, subst, sym, Some}
use Rattle.std.proofs.lemmas.Result.{IfErr-weaker, IfOk-weaker}
use Rattle.clap.specs.Words.{App, HasKind, IsAmong, fault_of, found_of, is_simple, is_simple_and_free, rows_of, subcommand_of}
use Rattle.radpolicy.specs.CommandLines.{program}
use Rattle.radpolicy.specs.WordPlans.{IsPlanOfRows, command_name}
use Rattle.radpolicy.proofs.CommandLines.{program_is_free, program_is_simple}
use Rattle.radpolicy.proofs.command_line.read_words.Goals as goal

pub returns-in-Err-clause-help : goal.returns-in-Err-clause-help
returns-in-Err-clause-help g c = λ is.
    let words = map g.S.AsStr.text c.args.words.now in
    let app = c.in_ok-program.ensures in
    let kinds = subst (λ (app : App). HasKind (fault_of app words) c.in-Err.error) app (c.in-Err.ensures.kinds (ap is_simple_and_free app ∙ program_is_free)) in
    let help = c.word_fault.ensures.help is in
    elim kinds [
      | inl memory ↦ let bad = sym memory ∙ help in cc
      | inr among ↦ subst (λ k. IsAmong k (fault_of program words)) help among
    ]

pub returns-in-Err-clause-usage : goal.returns-in-Err-clause-usage
returns-in-Err-clause-usage g c = λ is command rows names.
    let words = map g.S.AsStr.text c.args.words.now in
    let app = c.in_ok-program.ensures in
    let kinds = subst (λ (app : App). HasKind (fault_of app words) c.in-Err.error) app (c.in-Err.ensures.kinds (ap is_simple_and_free app ∙ program_is_free)) in
    elim (subst (λ those. HasKind those c.in-Err.error) names.right kinds) [
      | inl memory ↦ c.word_fault.ensures.usage is memory
      | inr none ↦ none
    ]

pub returns-in-Some-clause-plan : goal.returns-in-Some-clause-plan
returns-in-Some-clause-plan g c =
    let words = map g.S.AsStr.text c.args.words.now in
    let app = c.in_ok-program.ensures in
    let right = ap (λ (app : App). fault_of app words) (sym app) ∙ c.in-Ok.ensures.kinds (ap is_simple_and_free app ∙ program_is_free) in
    let matches = c.in-Ok.ensures.matches (ap is_simple app ∙ program_is_simple) in
    let found = ap (λ (app : App). subcommand_of app words) (sym app) ∙ sym matches.1 ∙ c.in-Some.ensures.some in
    IfOk-weaker c.plan_of.result _ _ (λ plan by. (
      rows_of (found_of c.in-Some.found.now),
      record {
        right = right;
        found = found ∙ ap (λ command. Some (command_name command, rows_of (found_of c.in-Some.found.now))) (sym by.command);
      },
      subst (λ command. IsPlanOfRows command (rows_of (found_of c.in-Some.found.now)) plan) (sym by.command) by,
    )) c.plan_of.ensures.plan

pub returns-in-Some-clause-value : goal.returns-in-Some-clause-value
returns-in-Some-clause-value g c =
    let words = map g.S.AsStr.text c.args.words.now in
    let app = c.in_ok-program.ensures in
    let right = ap (λ (app : App). fault_of app words) (sym app) ∙ c.in-Ok.ensures.kinds (ap is_simple_and_free app ∙ program_is_free) in
    let matches = c.in-Ok.ensures.matches (ap is_simple app ∙ program_is_simple) in
    let found = ap (λ (app : App). subcommand_of app words) (sym app) ∙ sym matches.1 ∙ c.in-Some.ensures.some in
    IfErr-weaker c.plan_of.result _ _ (λ fault refused is. (
      c.in-Some.command,
      rows_of (found_of c.in-Some.found.now),
      record {
        right = right;
        found = found;
      },
      (refused (λ memory. let bad = sym is ∙ memory in cc)).1,
    )) c.plan_of.ensures.refused

pub returns-clause-usage : goal.returns-clause-usage
returns-clause-usage g c = λ _ command rows names.
    let words = map g.S.AsStr.text c.args.words.now in
    let app = c.in_ok-program.ensures in
    let matches = c.in-Ok.ensures.matches (ap is_simple app ∙ program_is_simple) in
    c.command_in.ensures.none c.in-None.is command rows (matches.1 ∙ ap (λ (app : App). subcommand_of app words) app ∙ names.found)

pub returns-in-Err-clause-no_help : goal.returns-in-Err-clause-no_help
returns-in-Err-clause-no_help g c = λ is asked.
    let words = map g.S.AsStr.text c.args.words.now in
    let app = c.in_ok-program.ensures in
    let kinds = subst (λ (app : App). HasKind (fault_of app words) c.in-Err.error) app (c.in-Err.ensures.kinds (ap is_simple_and_free app ∙ program_is_free)) in
    elim (subst (λ those. HasKind those c.in-Err.error) asked kinds) [
      | inl memory ↦ c.word_fault.ensures.usage is memory
      | inr one ↦ elim one [
        | inl help ↦ c.word_fault.ensures.no_help is help
        | inr none ↦ none
      ]
    ]

pub returns-clause-no_help : goal.returns-clause-no_help
returns-clause-no_help g c = λ _ asked.
    let words = map g.S.AsStr.text c.args.words.now in
    let app = c.in_ok-program.ensures in
    let right = ap (λ (app : App). fault_of app words) (sym app) ∙ c.in-Ok.ensures.kinds (ap is_simple_and_free app ∙ program_is_free) in
    let bad = sym right ∙ asked in cc
