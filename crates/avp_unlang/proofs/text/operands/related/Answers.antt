use Rattle.std.proofs.Common.{true, false, ap, ◌∙◌}
use Rattle.avp_unlang.specs.Conditions.{is_text_beside}
use Rattle.avp_unlang.proofs.ConditionsOne.{related_as_reads}
use Rattle.avp_unlang.proofs.text.operands.related.Goals as goal

pub returns-then-is_text_beside-clause-read : goal.returns-then-is_text_beside-clause-read
returns-then-is_text_beside-clause-read c =
    related_as_reads c.args.profile c.args.dictionary.now c.args.found c.args.relation c.args.at.now true (c.if-is_text_beside.ensures ∙ ap (is_text_beside c.args.profile) c.token.ensures) c.related_to_text.result c.related_to_text.ensures.read

pub returns-else-is_text_beside-clause-read : goal.returns-else-is_text_beside-clause-read
returns-else-is_text_beside-clause-read c =
    related_as_reads c.args.profile c.args.dictionary.now c.args.found c.args.relation c.args.at.now false (c.if-is_text_beside.ensures ∙ ap (is_text_beside c.args.profile) c.token.ensures) c.value_related.result c.value_related.ensures.read
