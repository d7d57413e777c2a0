use Rattle.std.proofs.Common.{◌≡◌, ap, ◌∙◌, []}
use Rattle.avp_lists.specs.internal.Steps.{slots_at, origin}
use Rattle.avp_lists.proofs.Moves.{standing-moved, origin_within, origin_standing}
use Rattle.avp_lists.proofs.Turning.{same-length}
use Rattle.avp_lists.proofs.steps.move_to.Goals as goal

pub travel-requires-clause-from : goal.travel-requires-clause-from
travel-requires-clause-from c = origin_within c.args.slots.now.all.items c.args.steps.now c.args.from c.origin-here.result c.requires.below c.requires.from c.origin-here.ensures

pub travel-requires-clause-to : goal.travel-requires-clause-to
travel-requires-clause-to c = origin_within c.args.slots.now.all.items c.args.steps.now c.args.to c.origin-there.result c.requires.below c.requires.to c.origin-there.ensures

pub travel-requires-clause-standing : goal.travel-requires-clause-standing
travel-requires-clause-standing c = origin_standing c.args.slots.now.all.items c.args.steps.now c.args.from c.origin-here.result c.requires.below c.requires.from c.origin-here.ensures c.requires.standing

pub returns-clause-standing : goal.returns-clause-standing
returns-clause-standing c =
    let slots = c.args.slots.now.all.items in
    let steps = c.args.steps.now in
    let moved = c.travel.new.slots.all.items in
    let at : moved ≡ slots_at slots steps (origin steps c.args.to) = c.travel.ensures.moved ∙ ap (slots_at slots steps) c.origin-there.ensures in
    standing-moved [] slots moved steps c.travel.ensures.initials c.args.to c.requires.below c.requires.to at

pub returns-clause-slots : goal.returns-clause-slots
returns-clause-slots c =
    let slots = c.args.slots.now.all.items in
    let moved = c.travel.new.slots.all.items in
    same-length moved slots c.travel.ensures.initials
