use Rattle.std.proofs.Common.{◌≡◌, take}
use Rattle.avp_lists.specs.internal.Slots.{turn_all}
use Rattle.avp_lists.proofs.slots.Slots.turn_all.Given as goal

abbrev pub invariant-loop-place : goal.invariant-loop-place
invariant-loop-place l = l.self.all.items ≡ turn_all (take l.place-index l.places) l.fn.self.all.items
