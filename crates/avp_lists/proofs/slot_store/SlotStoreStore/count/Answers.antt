use Rattle.std.proofs.Common.{◌+◌, length, sym, ap, ◌∙◌}
use Rattle.avp_lists.specs.declared.live.LivePlaces.{LivePlaces}
use Rattle.avp_lists.proofs.LivePairs.{count-live}
use Rattle.avp_lists.proofs.ShownPairs.{present-list}
use Rattle.avp_lists.proofs.slot_store.SlotStoreStore.count.Goals as goal

pub returns : goal.returns
returns c =
    let s = c.args.self.now in
    let which = c.args.list in
    c.len.ensures
    ∙ ap (λ (p : LivePlaces). length p.head.items + length p.tail.items) c.of.ensures
    ∙ count-live which s.pool.items s.slots.all.items s.slots.live s.slots.in_order
    ∙ sym (ap length (present-list which s.pool.items s.slots.all.items s.steps.items s.place s.placed s.standing))
