use Rattle.std.proofs.Common.{◌≡◌, ◌++◌, take}
use Rattle.std.specs.List.{filter}
use Rattle.avp_lists.specs.internal.Plans.{is_taken_at}
use Rattle.avp_lists.proofs.planning.push_taken.Given as goal

abbrev pub invariant-loop-place : goal.invariant-loop-place
invariant-loop-place l = l.taken.items ≡ l.fn.taken.items ++ filter (is_taken_at l.selection l.edit l.pool l.slots) (take l.place-index l.places)
