use Rattle.avp_lists.proofs.Planned.{plan-removed}
use Rattle.avp_lists.proofs.planning.plan_removal.Goals as goal

pub returns : goal.returns
returns c = plan-removed c.args.selection c.args.edit.now c.args.pool.now c.args.slots.now c.in_ok-turned.turned c.requires.pooled c.requires.removes c.in_ok-turned.ensures
