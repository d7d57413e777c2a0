use Rattle.std.proofs.Common.{◌∙◌, ◌++◌, ◌∷◌, [], List, length, refl, ap}
use Rattle.avp_lists.proofs.Planned.{plan-added}
use Rattle.avp_lists.proofs.planning.plan_addition.Goals as goal

pub returns : goal.returns
returns c selection adds =
    let slots = c.args.slots.now in
    let places = c.in_ok-push.ensures.items ∙ ap (λ (ns : List _). ns ++ length slots ∷ []) c.new-turned.ensures.items in
    plan-added selection c.args.edit.now c.args.pool.now slots _ c.push.new.self c.requires.pooled adds refl c.end_for.ensures refl refl refl places
