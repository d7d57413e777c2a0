use Rattle.std.proofs.Common.{ap, sym, ◌∙◌}
use Rattle.avp_unlang.specs.Conditions.{matcher_in, relation_of}
use Rattle.avp_unlang.specs.Tokens.{next_token}
use Rattle.avp_unlang.proofs.ConditionsOne.{compared_reads}
use Rattle.avp_unlang.proofs.text.operands.compared.Goals as goal

pub returns-clause-read : goal.returns-clause-read
returns-clause-read c =
    compared_reads c.args.profile c.args.dictionary.now c.args.found c.in-Some-relation_of.relation c.args.at (next_token c.args.at).0 c.after-after.result
    c.after-after.ensures.follows (ap (matcher_in c.args.profile) (sym c.token.ensures) ∙ sym c.matcher_in.ensures ∙ c.in_default.is)
    (ap relation_of (sym c.token-2.ensures) ∙ sym c.relation_of.ensures ∙ c.in-Some-relation_of.is) c.related.result c.related.ensures.read
