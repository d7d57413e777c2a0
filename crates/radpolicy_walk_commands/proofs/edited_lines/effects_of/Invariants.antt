use Rattle.std.proofs.Common.{take}
use Rattle.radpolicy_walk_commands.specs.internal.EditedLines.{AreEffects, effect_in, lines_behind}
use Rattle.radpolicy_walk_commands.proofs.edited_lines.effects_of.Given as goal

abbrev pub invariant-loop-line : goal.invariant-loop-line
invariant-loop-line l = AreEffects l.list l.id (lines_behind (take l.line-index l.lines)) (effect_in l.effects)
