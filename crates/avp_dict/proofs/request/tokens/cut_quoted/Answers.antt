use Rattle.std.proofs.Common.{◌∙◌, ◌+◌, List, ℕ, refl, sym, ap, drop}
use Rattle.std.proofs.lemmas.List.{take-append-drop}
use Rattle.avp_dict.specs.RequestLines.{Between, tokens_from}
use Rattle.avp_dict.proofs.LexedLines.{quoted_lexed}
use Rattle.avp_dict.proofs.Lexing.{at_quote, at_unended, rest_after}
use Rattle.avp_dict.proofs.request.tokens.cut_quoted.Goals as goal

pub returns-in-Some-clause-token : goal.returns-in-Some-clause-token
returns-in-Some-clause-token c =
    let octets : List ℕ = c.args.octets.now in
    let after : List ℕ = drop (c.in-Some.end + 1) octets in
    let whole = ap (tokens_from (Between c.args.mark)) (sym (take-append-drop (c.in-Some.end + 1) octets)) ∙ c.in-Some.ensures.text after in
    λ side. rw (rest_after (c.in-Some.end + 1) octets) (at_quote c.args.mark side octets after _ refl whole)

pub returns-in-None-clause-token : goal.returns-in-None-clause-token
returns-in-None-clause-token c = λ side. at_unended c.args.mark side c.args.octets.now c.in-None.ensures.text

pub returns-in-Some-clause-lexed : goal.returns-in-Some-clause-lexed
returns-in-Some-clause-lexed c =
    λ side ended.
    rw (rest_after (c.in-Some.end + 1) c.args.octets.now)
    (quoted_lexed c.args.mark side c.args.octets.now (c.in-Some.end + 1) c.in-Some.end c.in-Some.ensures.text)
