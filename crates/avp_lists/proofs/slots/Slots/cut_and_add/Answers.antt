use Rattle.std.proofs.Common.{sym, subst}
use Rattle.avp_lists.specs.internal.Live.{AreLive, HaveRoom}
use Rattle.avp_lists.specs.declared.slots.Slot.{Slot}
use Rattle.std.proofs.Common.{List}
use Rattle.avp_lists.proofs.LiveTurns.{live-added, room-added}
use Rattle.avp_lists.proofs.slots.Slots.cut_and_add.Goals as goal

pub invariant_of-self : goal.invariant_of-self
invariant_of-self c =
    let s = c.args.self.now in
    let P : List Slot → Type 0 = λ xs. AreLive xs s.live in
    let Q : List Slot → Type 0 = λ xs. HaveRoom xs s.live in
    record {
      in_order = subst P (sym c.cut_and_add.ensures) (live-added c.args.end s.all.items c.args.added s.live c.requires.dark c.requires.unlit s.in_order);
      roomy = subst Q (sym c.cut_and_add.ensures) (room-added c.args.end s.all.items c.args.added s.live c.requires.live_room s.roomy);
    }
