use Rattle.std.proofs.Common.{◌∙◌, ap, ap₂, sym, List}
use Rattle.std.specs.List.{slice_get}
use Rattle.avp_lists.specs.declared.pairs.Pair.{Pair}
use Rattle.avp_lists.specs.declared.slots.Slot.{Slot}
use Rattle.avp_lists.specs.internal.Shown.{shown_pairs}
use Rattle.avp_lists.proofs.ShownPairs.{present-list}
use Rattle.avp_lists.proofs.slot_store.SlotStoreStore.pair.Goals as goal

pub returns : goal.returns
returns c =
    let s = c.args.self.now in
    let which = c.args.list in
    let at = c.args.at in
    c.pair_shown.ensures
    ∙ ap₂ (λ (p : List Pair) (xs : List Slot). slice_get (shown_pairs which p xs) at) c.deref-2.ensures.value c.deref.ensures.value
    ∙ ap (λ (xs : List Pair). slice_get xs at) (sym (present-list which s.pool.items s.slots.all.items s.steps.items s.place s.placed s.standing))
