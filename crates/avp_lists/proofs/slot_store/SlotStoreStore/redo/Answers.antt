use Rattle.std.proofs.Common.{arith}
use Rattle.avp_lists.specs.internal.SlotLaws.{length-shown_states}
use Rattle.avp_lists.proofs.slot_store.SlotStoreStore.redo.Goals as goal

pub returns-then-to-len-clause-variant : goal.returns-then-to-len-clause-variant
returns-then-to-len-clause-variant c =
    let s = c.args.self.now in
    let long = length-shown_states s.pool.items s.slots.all.items s.steps.items in
    grind (arith, long, s.steps.ok.0, c.len.ensures)

pub returns-clause-variant : goal.returns-clause-variant
returns-clause-variant c =
    let s = c.args.self.now in
    let long = length-shown_states s.pool.items s.slots.all.items s.steps.items in
    let some = s.placed in
    grind (arith, long, some, s.steps.ok.0, c.len.ensures)
