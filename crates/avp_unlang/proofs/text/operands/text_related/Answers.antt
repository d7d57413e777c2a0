use Rattle.std.proofs.Common.{◌≡◌, true, sym, ap, rules, ◌∙◌}
use Rattle.avp_unlang.specs.Conditions.{is_text, puts_in}
use Rattle.avp_unlang.specs.Tokens.{next_token}
use Rattle.avp_unlang.proofs.TextsRead.{alone_reads, texts_reads}
use Rattle.avp_unlang.proofs.text.operands.text_related.Goals as goal

pub returns-in-Some-clause-read : goal.returns-in-Some-clause-read
returns-in-Some-clause-read c =
    let fits : is_text (next_token c.args.at.now).0 ≡ true = first_of (cc, search rules) in
    alone_reads c.args.dictionary.now c.args.alone c.args.parts c.args.relation c.args.at.now fits c.in-Some.found c.in-Some.ensures.found.0 (ap puts_in (sym c.token-2.ensures) ∙ c.in-Some.ensures.found.1) c.value_related.result
    c.value_related.ensures.read

pub returns-in-None-clause-read : goal.returns-in-None-clause-read
returns-in-None-clause-read c =
    let fits : is_text (next_token c.args.at.now).0 ≡ true = first_of (cc, search rules) in
    texts_reads c.args.dictionary.now c.args.alone c.args.parts c.args.relation c.args.at.now fits (λ found is. ap puts_in (sym c.token-2.ensures) ∙ c.in-None.ensures.none found is) c.texts_compared.result c.texts_compared.ensures.read
