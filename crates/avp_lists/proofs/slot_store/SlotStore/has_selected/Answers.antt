use Rattle.std.proofs.Common.{◌≡◌, ◌∙◌, ap, ap₂, sym, List, rules}
use Rattle.std.specs.List.{list_any}
use Rattle.std.specs.Option.{is_some}
use Rattle.avp_lists.specs.declared.pairs.Pair.{Pair}
use Rattle.avp_lists.specs.declared.slots.Slot.{Slot}
use Rattle.avp_lists.specs.internal.Shown.{shows_passing}
use Rattle.avp_lists.specs.Tags.{is_selected}
use Rattle.avp_lists.proofs.Edited.{any-shown}
use Rattle.avp_lists.proofs.ShownPairs.{present-list, found_where}
use Rattle.avp_lists.proofs.slot_store.SlotStore.has_selected.Goals as goal

pub returns : goal.returns
returns c =
    let s = c.args.self.now in
    let which = c.args.list in
    let chosen = is_selected c.args.selection c.args.id in
    let slots = c.deref.result.now in
    let pool = c.deref-2.result.now in
    let test : c.is_some.result ≡ is_some c.first_slot.result = search rules in
    let any = found_where which chosen pool slots c.first_slot.result c.first_slot.ensures.shown c.first_slot.ensures.none in
    let same : list_any (shows_passing which chosen pool) slots ≡ list_any (shows_passing which chosen s.pool.items) s.slots.all.items = ap₂ (λ (p : List Pair) (xs : List Slot). list_any (shows_passing which chosen p) xs) c.deref-2.ensures.value c.deref.ensures.value in
    let shown : list_any (shows_passing which chosen s.pool.items) s.slots.all.items ≡ _ = any-shown which chosen s.pool.items s.slots.all.items ∙ ap (list_any chosen) (sym (present-list which s.pool.items s.slots.all.items s.steps.items s.place s.placed s.standing)) in
    test ∙ any ∙ same ∙ shown
