use Rattle.std.proofs.Common.{◌≡◌, ◌++◌, take}
use Rattle.server_unlang.proofs.edits.push_copies.Given as goal

abbrev pub invariant-loop-pair : goal.invariant-loop-pair
invariant-loop-pair l = l.made.items ≡ l.fn.made.items ++ take l.pair-index l.pairs
