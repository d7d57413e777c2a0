use Rattle.std.proofs.Common.{◌≡◌, ◌++◌, map, take, drop}
use Rattle.avp_unlang.specs.internal.MovedGroups.{moved}
use Rattle.avp_unlang.proofs.meaning.captured.all_moved.Given as goal

abbrev pub invariant-loop-place : goal.invariant-loop-place
invariant-loop-place l = l.all ≡ map (moved l.by) (take l.place l.fn.groups) ++ drop l.place l.fn.groups
