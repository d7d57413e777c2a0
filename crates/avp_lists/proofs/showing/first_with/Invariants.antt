use Rattle.std.proofs.Common.{◌≡◌, false, take}
use Rattle.std.specs.List.{list_any}
use Rattle.avp_lists.specs.internal.Shown.{passes_at}
use Rattle.avp_lists.specs.Tags.{is_selected}
use Rattle.avp_lists.proofs.showing.first_with.Given as goal

abbrev pub invariant-loop-at : goal.invariant-loop-at
invariant-loop-at l = list_any (passes_at (is_selected l.selection l.id) l.pool l.slots) (take l.at l.places) ≡ false
