use Rattle.std.proofs.Common.{◌≡◌, drop}
use Rattle.server_unlang.specs.Edits.{sorted, sorted_onto}
use Rattle.server_unlang.proofs.edits.sorted.Given as goal

abbrev pub invariant-loop-pair : goal.invariant-loop-pair
invariant-loop-pair l = sorted_onto l.order l.made.items (drop l.pair-index l.pairs) ≡ sorted l.order l.pairs
