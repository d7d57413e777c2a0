use Rattle.std.proofs.Common.{◌<◌, ◌∙◌, List, length, get_or, set, ap, arith}
use Rattle.avp_lists.specs.declared.slots.Slot.{Slot}
use Rattle.avp_lists.specs.internal.Slots.{no_slot}
use Rattle.avp_lists.specs.internal.Slots.{kept}
use Rattle.avp_lists.proofs.Settling.{kept_more}
use Rattle.avp_lists.proofs.slots.keep_marks_of.Goals as goal

pub loop-slot-preserved : goal.loop-slot-preserved
loop-slot-preserved c =
    let i = c.loop-slot.slot-index in
    let within : i < length c.args.slots.now = omega (arith, c.loop-slot-test.true) in
    ap (λ (xs : List Slot). set xs i (kept (get_or xs i no_slot))) c.loop-slot.invariant ∙ kept_more c.args.slots.now i within
