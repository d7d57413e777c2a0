use Rattle.std.proofs.Common.{◌≡◌, ◌++◌, length}
use Rattle.radpolicy_walk_commands.specs.internal.EditedLines.{line_numbers, lines_behind}
use Rattle.radpolicy_walk_commands.proofs.edited_lines.line_numbers.Given as goal

abbrev pub invariant-loop-rest : goal.invariant-loop-rest
invariant-loop-rest l = l.numbers.items ++ line_numbers l.list l.id (lines_behind l.rest) ≡ line_numbers l.list l.id (lines_behind l.lines)

abbrev pub decreases-loop-rest : goal.decreases-loop-rest
decreases-loop-rest l = length l.rest
