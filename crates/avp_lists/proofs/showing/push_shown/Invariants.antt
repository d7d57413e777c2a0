use Rattle.std.proofs.Common.{◌≡◌, ◌++◌, map, take}
use Rattle.avp_lists.specs.internal.Shown.{pair_at}
use Rattle.avp_lists.proofs.showing.push_shown.Given as goal

abbrev pub invariant-loop-place : goal.invariant-loop-place
invariant-loop-place l = l.made.items ≡ l.fn.made.items ++ map (pair_at l.pool l.slots) (take l.place-index l.places)
