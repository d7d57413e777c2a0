use Rattle.std.proofs.Common.{◌≡◌, true, false, get_or}
use Rattle.avp_lists.specs.States.{empty_state}
use Rattle.avp_lists.specs.internal.Steps.{shown_states}
use Rattle.avp_lists.specs.Selections.{IsFullSelected}
use Rattle.avp_lists.proofs.Limits.{edited_limited}
use Rattle.avp_lists.proofs.slot_store.SlotStoreStore.edit_selected.Goals as goal

-- the edit is not too much for the present state
pub change-requires : goal.change-requires
change-requires c =
    let s = c.args.self.now in
    let state = get_or (shown_states s.pool.items s.slots.all.items s.steps.items) s.place empty_state in
    let not_full : IsFullSelected c.args.selection c.args.edit state → ⊥ = λ full. let t : false ≡ true = c.if-is_full.ensures.1 full in cc in
    record { fits = edited_limited c.args.selection c.args.edit state (s.limited s.place) not_full }
