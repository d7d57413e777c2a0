use Rattle.std.proofs.Common.{List, length, ap, ◌∙◌, arith}
use Rattle.std.specs.List.{filter}
use Rattle.avp_lists.specs.declared.slots.Slot.{Slot}
use Rattle.avp_lists.specs.internal.Live.{entered_in}
use Rattle.avp_lists.proofs.LiveRoom.{count-settled}
use Rattle.avp_lists.proofs.slots.Slots.settle.Goals as goal

pub fill-requires-clause-room : goal.fill-requires-clause-room
fill-requires-clause-room c = λ end which.
    let s = c.args.self.now in
    let same = ap (λ (xs : List Slot). length (filter (entered_in end which) xs)) (c.deref.ensures.value ∙ c.forget_dark.ensures) in
    omega (arith, same, count-settled end which s.all.items, s.roomy end which, c.clear.ensures.kept end which)
