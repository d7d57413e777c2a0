use Rattle.std.proofs.Common.{◌≡◌, ◌<◌, ℕ, List, Bool, true, false, not, length, set, refl, sym, ap, subst, ◌∙◌}
use Rattle.std.specs.Prelude.{vec_capacity}
use Rattle.std.specs.List.{filter}
use Rattle.std.specs.List.Sorted.{IsPartitionedBy}
use Rattle.std.proofs.lemmas.List.{get_or_read}
use Rattle.avp_lists.specs.declared.slots.Slot.{Slot}
use Rattle.avp_lists.specs.internal.Live.{live_at, before, LiveTurned, AreLive, HaveRoom}
use Rattle.avp_lists.specs.internal.Shown.{shows_at}
use Rattle.avp_lists.specs.internal.Slots.{no_slot, slot_at, flipped}
use Rattle.avp_lists.proofs.LivePlaces.{some-before_at}
use Rattle.avp_lists.proofs.LiveRoom.{room-same}
use Rattle.avp_lists.proofs.LiveTurns.{shown_where, entered-own, live-turned, room-for, room-kept}
use Rattle.avp_lists.proofs.PlacesInOrder.{partitioned}
use Rattle.avp_lists.proofs.Turning.{initials-set}
use Rattle.avp_lists.proofs.slots.Slots.turn.Goals as goal

not_true : (b : Bool) → not b ≡ true → b ≡ false
not_true true h = cc
not_true false h = refl

not_false : (b : Bool) → not b ≡ false → b ≡ true
not_false true h = refl
not_false false h = cc

pub turn-requires-clause-order : goal.turn-requires-clause-order
turn-requires-clause-order c =
    let s = c.args.self.now in
    let slot = c.index-slot.result.now in
    subst (IsPartitionedBy (before c.args.place)) (sym (s.in_order slot.end slot.list)) (partitioned (shows_at slot.end slot.list) 0 s.all.items c.args.place)

pub turn-requires-clause-room : goal.turn-requires-clause-room
turn-requires-clause-room c = λ h.
    let s = c.args.self.now in
    let all = s.all.items in
    let i = c.args.place in
    let slot = c.index-slot.result.now in
    let e : slot ≡ slot_at all i = get_or_read all i slot c.requires c.index-slot.ensures no_slot in
    let off : (slot_at all i).mark.live ≡ false = sym (ap (λ (x : Slot). x.mark.live) e) ∙ not_true slot.mark.live h in
    let P : Slot → Type 0 = λ x. length (live_at x.end x.list s.live).items < vec_capacity (live_at x.end x.list s.live) in
    subst P (sym e) (room-for all i s.live c.requires off s.in_order s.roomy)

pub turn-requires-clause-there : goal.turn-requires-clause-there
turn-requires-clause-there c = λ h.
    let s = c.args.self.now in
    let all = s.all.items in
    let i = c.args.place in
    let slot = c.index-slot.result.now in
    let e : slot ≡ slot_at all i = get_or_read all i slot c.requires c.index-slot.ensures no_slot in
    let p = shows_at slot.end slot.list in
    let on : p (slot_at all i) ≡ true = sym (ap p e) ∙ shown_where slot.end slot.list slot (entered-own slot) ∙ not_false slot.mark.live h in
    let P : List ℕ → Type 0 = λ xs. length (filter (before i) xs) < length xs in
    subst P (sym (s.in_order slot.end slot.list)) (some-before_at p all i c.requires on)

pub invariant_of-self : goal.invariant_of-self
invariant_of-self c =
    let s = c.args.self.now in
    let all = s.all.items in
    let i = c.args.place in
    let slot = c.index-slot.result.now in
    let new = c.turn.new.self in
    let e : slot ≡ slot_at all i = get_or_read all i slot c.requires c.index-slot.ensures no_slot in
    let R : Slot → Type 0 = λ x. LiveTurned x.end x.list i (not x.mark.live) s.live new in
    let P : Slot → Type 0 = λ x. AreLive (set all i (flipped x)) new in
    let Q : Slot → Type 0 = λ x. HaveRoom (set all i (flipped x)) new in
    record {
      in_order = subst P (sym e) (live-turned all i (not (slot_at all i).mark.live) s.live new c.requires refl s.in_order (subst R e c.turn.ensures.turned));
      roomy = subst Q (sym e) (room-kept (set all i (flipped (slot_at all i))) s.live new c.turn.ensures.kept (room-same all (set all i (flipped (slot_at all i))) s.live (initials-set flipped (λ s. refl) all i) s.roomy));
    }
