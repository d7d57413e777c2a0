use Rattle.std.proofs.Common.{None, Some, sym, ap, ◌∙◌}
use Rattle.avp_forms.specs.declared.profiles.Profile.TheVariants.{Wider}
use Rattle.avp_unlang.specs.Conditions.{matcher_in, relation_of}
use Rattle.avp_unlang.specs.Tokens.{next_token}
use Rattle.avp_unlang.proofs.TextsRead.{operator_reads, text_operand_reads}
use Rattle.avp_unlang.proofs.text.operands.text_operand.Goals as goal

pub returns-in-Some-relation_of-clause-read : goal.returns-in-Some-relation_of-clause-read
returns-in-Some-relation_of-clause-read c =
    let d = c.args.dictionary.now in
    let token = (next_token c.args.after).0 in
    let mid = c.after-in-Some-relation_of.result in
    text_operand_reads d c.args.mark c.args.text.now c.args.after token mid c.after-in-Some-relation_of.ensures.follows None (Some c.in-Some-relation_of.relation)
    (ap (matcher_in Wider) (sym c.token.ensures) ∙ sym c.matcher_in.ensures ∙ c.in_default.is) (ap relation_of (sym c.token-2.ensures) ∙ sym c.relation_of.ensures ∙ c.in-Some-relation_of.is) c.text_related.result
    (operator_reads d c.args.mark c.args.text.now c.args.after token mid c.after-in-Some-relation_of.ensures.follows c.in-Some-relation_of.relation c.text_alone-alone.result c.text_alone-alone.ensures c.in_ok-parts-2.parts c.in_ok-parts-2.ensures.read
    c.text_related.result c.text_related.ensures.read)
