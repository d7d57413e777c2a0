use Rattle.std.proofs.Common.{false}
use Rattle.avp_unlang.proofs.ConditionsOne.{related_reads}
use Rattle.avp_unlang.proofs.text.operands.value_related.Goals as goal

pub returns-else-is_by_meaning-clause-read : goal.returns-else-is_by_meaning-clause-read
returns-else-is_by_meaning-clause-read c =
    related_reads c.args.profile c.args.dictionary.now c.args.found c.args.relation c.args.at.now false
    c.if-is_by_meaning.ensures c.related_by_type.result c.related_by_type.ensures.read
