use Rattle.std.proofs.Common.{sym}
use Rattle.radpolicy_walk_commands.specs.internal.EditedLines.{effect_in}
use Rattle.radpolicy_walk_commands.proofs.KeptEffects.{next_effect}
use Rattle.radpolicy_walk_commands.proofs.edited_lines.effects_of.Goals as goal

pub loop-line-preserved : goal.loop-line-preserved
loop-line-preserved c =
    next_effect c.args.list c.args.id c.args.lines.now c.loop-line.line-index c.line-item.result (effect_in c.loop-line.effects) c.in_ok-effect.effect (effect_in c.put_effect.new.effects)
    c.loop-line-test.true (sym c.line-item.is) c.loop-line.invariant c.in_ok-effect.ensures c.in_ok-put_effect.ensures
