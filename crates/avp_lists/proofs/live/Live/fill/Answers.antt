use Rattle.std.proofs.Common.{◌+◌, sym, subst, take}
use Rattle.std.specs.List.Sorted.{IsPartitionedBy}
use Rattle.avp_lists.specs.declared.live.Live.{Live}
use Rattle.avp_lists.specs.internal.Live.{before, AreLive, HaveRoom}
use Rattle.avp_lists.specs.internal.Shown.{shows_at}
use Rattle.avp_lists.specs.internal.Slots.{slot_at}
use Rattle.avp_lists.proofs.LiveTurns.{live-filled, live-passed, room-filling, room-kept}
use Rattle.avp_lists.proofs.PlacesInOrder.{partitioned}
use Rattle.avp_lists.proofs.live.Live.fill.Goals as goal
use Rattle.avp_lists.proofs.live.Live.fill.Goals.{then-slot, else-slot}

pub turn-requires-clause-order : goal.turn-requires-clause-order
turn-requires-clause-order c =
    let slots = c.args.slots.now in
    let i = c.loop-place.place in
    let s = slot_at slots i in
    subst (IsPartitionedBy (before i)) (sym (c.loop-place.invariant.filled s.end s.list)) (partitioned (shows_at s.end s.list) 0 (take i slots) i)

pub turn-requires-clause-room : goal.turn-requires-clause-room
turn-requires-clause-room c = λ _. room-filling c.args.slots.now c.loop-place.place c.loop-place.self c.loop-place-test.true c.if-slot.true c.loop-place.invariant.filled c.loop-place.invariant.room

pub loop-place-preserved : goal.loop-place-preserved
loop-place-preserved c =
    let slots = c.args.slots.now in
    let i = c.loop-place.place in
    let old = c.loop-place.self in
    let inv = c.loop-place.invariant in
    let P : Live → Type 0 = λ l. AreLive (take (i + 1) slots) l in
    let Q : Live → Type 0 = λ l. HaveRoom slots l in
    elim c.if-slot.branch [
      | then-slot w ↦ record {
        filled = subst P (sym w.self-is) (live-filled slots i old w.turn.new.self c.loop-place-test.true w.if-slot.true inv.filled w.turn.ensures.turned);
        room = subst Q (sym w.self-is) (room-kept slots old w.turn.new.self w.turn.ensures.kept inv.room);
      }
      | else-slot w ↦ record {
        filled = subst P (sym w.self-is) (live-passed slots i old c.loop-place-test.true w.if-slot.false inv.filled);
        room = subst Q (sym w.self-is) inv.room;
      }
    ]
