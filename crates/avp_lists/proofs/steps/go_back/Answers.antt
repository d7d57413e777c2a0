use Rattle.std.proofs.Common.{ℕ, List, ◌∙◌, ap}
use Rattle.avp_lists.specs.declared.steps.Change.TheVariants.{Turned}
use Rattle.avp_lists.specs.internal.Slots.{backward}
use Rattle.avp_lists.proofs.Turning.{initials-backward}
use Rattle.avp_lists.proofs.Replay.{change_at_read, back_by}
use Rattle.avp_lists.proofs.steps.go_back.Goals as goal

pub returns-clause-moved : goal.returns-clause-moved
returns-clause-moved c =
    let slots = c.args.slots.now.all.items in
    let steps = c.args.steps.now in
    let at = c.args.at in
    let x = Turned c.in-Turned.places c.in-Turned.by in
    let req = c.requires.at in
    let e = change_at_read steps at c.index-steps-at.result x req.1 c.in-Turned.is in
    c.backward.ensures
    ∙ ap (λ (ns : List ℕ). backward ns c.in-Turned.by slots) c.as_slice.ensures.value
    ∙ back_by slots steps at x req.1 req.0 req.2 e c.requires.standing

pub returns-clause-initials : goal.returns-clause-initials
returns-clause-initials c = rw c.backward.ensures (initials-backward c.as_slice.result.now c.in-Turned.by c.args.slots.now.all.items)
