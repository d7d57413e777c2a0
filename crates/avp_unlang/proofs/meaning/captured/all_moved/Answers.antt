use Rattle.std.proofs.Common.{◌<◌, ap, arith, length, subst, sym, ◌∙◌}
use Rattle.std.proofs.Math.ListN.{set}
use Rattle.std.proofs.lemmas.List.{get_or_default}
use Rattle.std.proofs.lemmas.List.Edits.{map_over_more}
use Rattle.avp_unlang.specs.internal.MovedGroups.{IsMovable, moved}
use Rattle.avp_unlang.proofs.MovedGroups.{at_place, same_length}
use Rattle.avp_unlang.proofs.meaning.captured.all_moved.Goals as goal

pub moved-requires : goal.moved-requires
moved-requires c =
    let within : c.loop-place.place < length c.args.groups = omega arith in
    subst (IsMovable c.args.by) (sym (at_place (moved c.args.by) c.args.groups c.loop-place.all c.loop-place.place _ within c.loop-place.invariant)) (c.requires c.loop-place.place _ within)

pub loop-place-preserved : goal.loop-place-preserved
loop-place-preserved c =
    let within : c.loop-place.place < length c.args.groups = omega arith in
    let same = same_length (moved c.args.by) c.args.groups c.loop-place.all c.loop-place.place (omega arith) c.loop-place.invariant in
    let held : c.loop-place.place < length c.loop-place.all = omega (arith, same) in
    ap (set c.loop-place.all c.loop-place.place) c.moved.ensures
    ∙ map_over_more (moved c.args.by) c.args.groups c.loop-place.all c.loop-place.place _ within c.loop-place.invariant (get_or_default c.loop-place.all c.loop-place.place _ _ held)
