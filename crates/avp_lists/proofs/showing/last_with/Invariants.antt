use Rattle.std.proofs.Common.{◌≡◌, ◌≤◌, false, length, drop}
use Rattle.std.specs.List.{list_any}
use Rattle.avp_lists.specs.internal.Shown.{passes_at}
use Rattle.avp_lists.specs.Tags.{is_selected}
use Rattle.avp_lists.proofs.showing.last_with.Given as goal

abbrev pub invariant-loop-end : goal.invariant-loop-end
invariant-loop-end l = record {
  within : l.end ≤ length l.places;
  none_after : list_any (passes_at (is_selected l.selection l.id) l.pool l.slots) (drop l.end l.places) ≡ false;
}

abbrev pub decreases-loop-end : goal.decreases-loop-end
decreases-loop-end l = l.end
