use Rattle.std.proofs.Common.{◌≡◌, ◌++◌, take}
use Rattle.std.specs.List.{filter}
use Rattle.avp_lists.specs.Operators.{differs}
use Rattle.server_unlang.proofs.edits.push_unequal.Given as goal

abbrev pub invariant-loop-pair : goal.invariant-loop-pair
invariant-loop-pair l = l.made.items ≡ l.fn.made.items ++ filter (differs l.than) (take l.pair-index l.pairs)
