use Rattle.std.proofs.Common.{◌≡◌, ◌∙◌, ◌∷◌, ℕ, ap, false, rules}
use Rattle.avp_dict.specs.declared.request.tokens.Side.TheVariants.{Name}
use Rattle.avp_dict.specs.internal.RequestTokens.{ends_run}
use Rattle.avp_dict.proofs.LexedLines.{after_blanks, comma_lexed, run_begins, run_lexed, sign_lexed}
use Rattle.avp_dict.proofs.request.tokens.next_token.Goals as goal

pub returns-in-Some-eq44-default-clause-lexed : goal.returns-in-Some-eq44-default-clause-lexed
returns-in-Some-eq44-default-clause-lexed c =
    let comma : c.in-Some-eq44-default.field-0-0 ≡ 44 = search rules in
    λ ended.
    after_blanks c.args.side c.args.line.now c.without_blanks-filled.result.now _ _ _ c.without_blanks-filled.ensures.blanks
    (comma_lexed c.args.side c.without_blanks-filled.result.now c.in-Some-eq44-default.rest.now (c.in-Some-eq44-default.ensures ∙ ap (λ (o : ℕ). o ∷ c.in-Some-eq44-default.rest.now) comma))

pub returns-in-Some-eq61-default-clause-lexed : goal.returns-in-Some-eq61-default-clause-lexed
returns-in-Some-eq61-default-clause-lexed c =
    let sign : c.in-Some-eq61-default.field-0-0 ≡ 61 = search rules in
    let name : c.args.side ≡ Name = search rules in
    λ ended.
    after_blanks c.args.side c.args.line.now c.without_blanks-filled.result.now _ _ _ c.without_blanks-filled.ensures.blanks
    (sign_lexed c.args.side c.without_blanks-filled.result.now c.in-Some-eq61-default.rest.now name (c.in-Some-eq61-default.ensures ∙ ap (λ (o : ℕ). o ∷ c.in-Some-eq61-default.rest.now) sign))

pub returns-in-Some-eq34-default-clause-lexed : goal.returns-in-Some-eq34-default-clause-lexed
returns-in-Some-eq34-default-clause-lexed c =
    let quote : c.in-Some-eq34-default.field-0-0 ≡ 34 = search rules in
    λ ended.
    after_blanks c.args.side c.args.line.now c.without_blanks-filled.result.now _ _ _ c.without_blanks-filled.ensures.blanks
    (rw (c.in-Some-eq34-default.ensures, quote) (c.cut_quoted.ensures.lexed c.args.side ended))

pub returns-in-Some-eq39-default-clause-lexed : goal.returns-in-Some-eq39-default-clause-lexed
returns-in-Some-eq39-default-clause-lexed c =
    let quote : c.in-Some-eq39-default.field-0-0 ≡ 39 = search rules in
    λ ended.
    after_blanks c.args.side c.args.line.now c.without_blanks-filled.result.now _ _ _ c.without_blanks-filled.ensures.blanks
    (rw (c.in-Some-eq39-default.ensures, quote) (c.cut_quoted-in-Some-eq39-default.ensures.lexed c.args.side ended))

pub returns-in-Some-clause-lexed : goal.returns-in-Some-clause-lexed
returns-in-Some-clause-lexed c =
    let inside : ends_run c.args.side c.in-Some.field-0.0 ≡ false = search rules in
    let begins = run_begins c.args.side c.without_blanks-filled.result.now _ _ c.in-Some.ensures inside in
    λ ended.
    after_blanks c.args.side c.args.line.now c.without_blanks-filled.result.now _ _ _ c.without_blanks-filled.ensures.blanks
    (rw (c.cut_run.ensures.token, c.cut_run.ensures.side, c.cut_run.ensures.rest) (run_lexed c.args.side c.without_blanks-filled.result.now begins))
