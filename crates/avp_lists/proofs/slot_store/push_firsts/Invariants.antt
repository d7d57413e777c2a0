use Rattle.std.proofs.Common.{◌≡◌, ◌≤◌, ◌++◌, ◌-◌}
use Rattle.std.specs.Vec.{vec_capacity}
use Rattle.avp_lists.specs.internal.Plans.{fresh}
use Rattle.avp_lists.proofs.slot_store.push_firsts.Given as goal

abbrev pub invariant-loop-pair : goal.invariant-loop-pair
invariant-loop-pair l = record {
  items : l.slots.items ≡ l.fn.slots.items ++ fresh l.list l.from (l.pair - l.from);
  capacity : vec_capacity l.fn.slots ≤ vec_capacity l.slots;
}
