use Rattle.std.proofs.Common.{◌∙◌, ap, sym, length}
use Rattle.avp_lists.proofs.slot_store.SlotStoreStore.reserve.Goals as goal

pub invariant_of-self : goal.invariant_of-self
invariant_of-self c =
    let s = c.args.self.now in
    rw c.reserve.ensures.items (record { placed = s.placed; beside = s.beside; below = s.below; counted = s.counted; counts = s.counts; grow = s.grow; housed = s.housed; standing = s.standing; limited = s.limited })

pub invariant_of-self-2 : goal.invariant_of-self-2
invariant_of-self-2 c =
    let s = c.args.self.now in
    let e = c.in_ok-reserve.ensures.items in
    record {
      placed = rw e s.placed;
      beside = ap length c.reserve-2.ensures.items ∙ s.beside ∙ sym (ap length e);
      below = rw e s.below;
      counted = rw e s.counted;
      counts = rw e s.counts;
      grow = rw e s.grow;
      housed = rw e s.housed;
      standing = rw e s.standing;
      limited = rw e s.limited;
    }
