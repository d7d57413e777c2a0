use Rattle.std.proofs.Common.{◌≡◌, ◌++◌, drop}
use Rattle.radpolicy_walk_commands.specs.internal.EditedLines.{lines_behind}
use Rattle.radpolicy_walk_commands.proofs.edited_lines.push_lines.Given as goal

abbrev pub invariant-loop-line : goal.invariant-loop-line
invariant-loop-line l = lines_behind l.lines.items ++ drop l.line-index l.own ≡ lines_behind l.fn.lines.items ++ l.own
