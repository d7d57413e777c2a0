use Rattle.std.proofs.Common.{sym, ◌∙◌}
use Rattle.avp_dict.proofs.LinesRead.{context_of_none}
use Rattle.avp_dict.proofs.file.reader.ReadLines.for_octets.Goals as goal

pub returns-clause-tracked : goal.returns-clause-tracked
returns-clause-tracked c = c.in_ok-context.ensures ∙ sym context_of_none
