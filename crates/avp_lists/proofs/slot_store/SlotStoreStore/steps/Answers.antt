use Rattle.std.proofs.Common.{arith}
use Rattle.avp_lists.specs.internal.SlotLaws.{length-shown_states}
use Rattle.avp_lists.proofs.slot_store.SlotStoreStore.steps.Goals as goal

pub returns : goal.returns
returns c =
    let s = c.args.self.now in
    let long = length-shown_states s.pool.items s.slots.all.items s.steps.items in
    let some = s.placed in
    omega (arith, c.len.ensures, long, some)
