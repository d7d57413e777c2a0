use Rattle.std.proofs.Common.{◌∙◌, ap, refl, rules}
use Rattle.std.specs.List.{filter}
use Rattle.std.proofs.lemmas.Fn.{filter_same}
use Rattle.avp_lists.proofs.Planned.{plan-replaced}
use Rattle.avp_lists.proofs.TurnedPlaces.{is_not}
use Rattle.avp_lists.proofs.planning.plan_replacement.Goals as goal

pub returns : goal.returns
returns c =
    let first = c.args.first in
    let others = filter_same _ (is_not first) _ (λ x b f' k. search rules) _ _ c.retain.ensures.filtered in
    plan-replaced c.args.selection c.args.edit.now c.args.pool.now c.args.slots.now first _ c.retain.new.self c.requires.pooled c.requires.op c.requires.first.0 c.requires.first.1 c.requires.none_before refl refl refl (others ∙ ap (filter (is_not first)) c.in_ok-turned.ensures)
