use Rattle.std.proofs.Common.{◌∙◌}
use Rattle.std.specs.Vec.Iter.{into_iter_items}
use Rattle.radpolicy_import_policies.proofs.InitialItems.{one_moved}
use Rattle.radpolicy_import_policies.proofs.initial.add_items.Goals as goal

pub loop-item-preserved : goal.loop-item-preserved
loop-item-preserved c =
    one_moved c.args.file c.in-Some.item c.loop-item.items.items c.push.new.self.items
    (into_iter_items c.loop-item.item-iterator) (into_iter_items c.next.new.self) c.in-Some.ensures.steps.0
    c.in_ok-push.ensures.items
    ∙ c.loop-item.invariant
