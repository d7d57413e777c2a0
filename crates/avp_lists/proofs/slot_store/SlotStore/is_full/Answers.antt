use Rattle.std.proofs.Common.{◌∙◌, sym, ap, get_or, arith}
use Rattle.avp_lists.specs.States.{empty_state, list_of}
use Rattle.avp_lists.specs.internal.Growth.{lengthens}
use Rattle.avp_lists.specs.internal.Steps.{shown_states}
use Rattle.avp_lists.proofs.Lengths.{grows_past, length-apply}
use Rattle.avp_lists.proofs.slot_store.SlotStore.is_full.Goals as goal

-- a list of the greatest length is one longer, or no longer
pub returns-then-count-eq-MAX_PAIRS : goal.returns-then-count-eq-MAX_PAIRS
returns-then-count-eq-MAX_PAIRS c =
    let s = c.args.self.now in
    let e = c.args.edit.now in
    let xs = list_of e.list (get_or (shown_states s.pool.items s.slots.all.items s.steps.items) s.place empty_state) in
    let test = c.lengthens.ensures ∙ ap (lengthens e.op) c.has_selected.ensures in
    let grows = grows_past c.args.selection e.op e.pair xs 4096 (sym c.count.ensures ∙ c.if-count-eq-MAX_PAIRS.true) in
    (λ h. grows.0 (sym test ∙ h), λ h. test ∙ grows.1 h)

-- a shorter list has room for one more
pub returns-else-count-eq-MAX_PAIRS : goal.returns-else-count-eq-MAX_PAIRS
returns-else-count-eq-MAX_PAIRS c =
    let s = c.args.self.now in
    let e = c.args.edit.now in
    let xs = list_of e.list (get_or (shown_states s.pool.items s.slots.all.items s.steps.items) s.place empty_state) in
    let most = s.limited s.place e.list in
    let grown = length-apply c.args.selection e.op e.pair xs in
    grind (arith, c.count.ensures, most, grown, c.if-count-eq-MAX_PAIRS.false)
