use Rattle.std.proofs.Common.{◌≡◌, ◌+◌, ◌≤◌, Option, length, set, refl, sym, subst, ◌∙◌, arith}
use Rattle.std.proofs.lemmas.List.{get_or_read}
use Rattle.avp_lists.specs.declared.slots.Slot.{Slot}
use Rattle.avp_lists.specs.declared.slots.Swap.{Swap}
use Rattle.avp_lists.specs.internal.Live.{AreLive, HaveRoom}
use Rattle.avp_lists.specs.internal.Shown.{shows_at}
use Rattle.avp_lists.specs.internal.Slots.{no_slot, slot_at, SwapWithin}
use Rattle.avp_lists.proofs.LivePlaces.{places-same_at}
use Rattle.avp_lists.proofs.LiveRoom.{room-same}
use Rattle.avp_lists.proofs.Turning.{initials-set}
use Rattle.avp_lists.proofs.slots.Slots.put_other.Goals as goal

-- another pair is shown in the same place
pub invariant_of-self : goal.invariant_of-self
invariant_of-self c =
    let s = c.args.self.now in
    let all = s.all.items in
    let i = c.in-Some.swap.slot in
    let slot = c.index-slot.result.now in
    let W : Option Swap → Type 0 = λ o. SwapWithin (length all) o in
    let fits : i + 1 ≤ length all = subst W c.in-Some.is c.requires in
    let e : slot ≡ slot_at all i = get_or_read all i slot (omega (arith, fits)) c.index-slot.ensures no_slot in
    let f : Slot → Slot = λ x. record { list = x.list; end = x.end; mark = record { live = x.mark.live; pair = c.if-slot-swap.pair }; initial = x.initial } in
    let new = set all i (f (slot_at all i)) in
    let P : Slot → Type 0 = λ x. AreLive (set all i (f x)) s.live in
    let Q : Slot → Type 0 = λ x. HaveRoom (set all i (f x)) s.live in
    let live : AreLive new s.live = λ end which. s.in_order end which ∙ sym (places-same_at (shows_at end which) all i (f (slot_at all i)) refl) in
    record {
      in_order = subst P (sym e) live;
      roomy = subst Q (sym e) (room-same all new s.live (initials-set f (λ s. refl) all i) s.roomy);
    }
