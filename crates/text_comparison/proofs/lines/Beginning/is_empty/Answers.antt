use Rattle.std.proofs.Common.{sym, ◌∙◌, arith}
use Rattle.text_comparison.specs.Lines.{first_line}
use Rattle.text_comparison.proofs.OneMore.{none_first, none_from_length, not_ended}
use Rattle.text_comparison.proofs.lines.Beginning.is_empty.Goals as goal

pub returns-then-len-lt1-clause-none : goal.returns-then-len-lt1-clause-none
returns-then-len-lt1-clause-none c = λ text is empty.
    none_first text (none_from_length c.args.self.now.line.items (first_line text) (omega arith) is.line)
    (sym is.ended ∙ not_ended c.args.self.now.is_ended empty)
