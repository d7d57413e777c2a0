use Rattle.std.proofs.Common.{◌≡◌, ◌≤◌, length, drop}
use Rattle.avp_lists.specs.internal.Slots.{turn_all}
use Rattle.avp_lists.proofs.slots.Slots.turn_all_last_first.Given as goal

abbrev pub invariant-loop-end : goal.invariant-loop-end
invariant-loop-end l = record {
  within : l.end ≤ length l.places;
  turned : l.self.all.items ≡ turn_all (drop l.end l.places) l.fn.self.all.items;
}

abbrev pub decreases-loop-end : goal.decreases-loop-end
decreases-loop-end l = l.end
