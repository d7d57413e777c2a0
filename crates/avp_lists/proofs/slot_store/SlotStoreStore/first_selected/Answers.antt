use Rattle.std.proofs.Common.{◌∙◌, ap, ap₂, sym, List}
use Rattle.std.specs.List.{find}
use Rattle.avp_lists.specs.declared.pairs.Pair.{Pair}
use Rattle.avp_lists.specs.declared.slots.Slot.{Slot}
use Rattle.avp_lists.specs.internal.Shown.{shown_pairs}
use Rattle.avp_lists.specs.Tags.{is_selected}
use Rattle.avp_lists.proofs.Fronts.{find-front}
use Rattle.avp_lists.proofs.ShownPairs.{present-list}
use Rattle.avp_lists.proofs.slot_store.SlotStoreStore.first_selected.Goals as goal

pub returns : goal.returns
returns c =
    let s = c.args.self.now in
    let which = c.args.list in
    let test = is_selected c.args.selection c.args.id in
    c.first_shown.ensures
    ∙ ap₂ (λ (p : List Pair) (xs : List Slot). find test (shown_pairs which p xs)) c.deref-2.ensures.value c.deref.ensures.value
    ∙ ap (find test) (sym (present-list which s.pool.items s.slots.all.items s.steps.items s.place s.placed s.standing))
    ∙ find-front test _
