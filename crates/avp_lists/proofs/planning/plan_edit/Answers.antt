use Rattle.std.proofs.Common.{◌≡◌, ◌∙◌, false, not, sym, ap}
use Rattle.std.proofs.lemmas.List.Folds.{list_any_at}
use Rattle.avp_lists.specs.declared.edits.Op.{Op}
use Rattle.avp_lists.specs.internal.Growth.{adds_one}
use Rattle.avp_lists.specs.internal.Shown.{shows_passing, shown_pairs}
use Rattle.avp_lists.specs.internal.Slots.{no_slot}
use Rattle.avp_lists.specs.Tags.{is_selected}
use Rattle.avp_lists.proofs.Edited.{any-shown}
use Rattle.avp_lists.proofs.Planned.{plan-kept}
use Rattle.avp_lists.proofs.planning.plan_edit.Goals as goal

-- there is no instance
pub returns-in-None : goal.returns-in-None
returns-in-None c =
    let e = c.args.edit.now in
    let pairs = shown_pairs e.list c.args.pool.now c.args.slots.now in
    c.plan_addition-in-None.ensures c.args.selection
    (ap (λ (o : Op). adds_one o (is_selected c.args.selection e.pair.id) pairs) c.in-AddNew.is
    ∙ ap not (sym (any-shown e.list (is_selected c.args.selection e.pair.id) c.args.pool.now c.args.slots.now) ∙ c.in-None.ensures.none))

pub returns-in-None-first_slot : goal.returns-in-None-first_slot
returns-in-None-first_slot c =
    let e = c.args.edit.now in
    let pairs = shown_pairs e.list c.args.pool.now c.args.slots.now in
    c.plan_addition-in-None-first_slot.ensures c.args.selection
    (ap (λ (o : Op). adds_one o (is_selected c.args.selection e.pair.id) pairs) c.in-Replace.is
    ∙ ap not (sym (any-shown e.list (is_selected c.args.selection e.pair.id) c.args.pool.now c.args.slots.now) ∙ c.in-None-first_slot.ensures.none))

-- there is one
pub returns-in-Some : goal.returns-in-Some
returns-in-Some c =
    let e = c.args.edit.now in
    let pool = c.args.pool.now in
    let slots = c.args.slots.now in
    let shown = c.in-Some.ensures.shown in
    let any = list_any_at (shows_passing e.list (is_selected c.args.selection e.pair.id) pool) slots c.in-Some.field-0 no_slot shown.0 shown.1 in
    let none_more : adds_one e.op (is_selected c.args.selection e.pair.id) (shown_pairs e.list pool slots) ≡ false =
    ap (λ (o : Op). adds_one o (is_selected c.args.selection e.pair.id) (shown_pairs e.list pool slots)) c.in-AddNew.is
    ∙ ap not (sym (any-shown e.list (is_selected c.args.selection e.pair.id) pool slots) ∙ any) in
    plan-kept c.args.selection e pool slots c.new.result c.requires.pooled c.in-AddNew.is none_more c.new.ensures.items
