use Rattle.std.proofs.Common.{◌≡◌, ◌++◌, drop}
use Rattle.server_unlang.specs.Edits.{kept}
use Rattle.server_unlang.proofs.edits.push_kept.Given as goal

abbrev pub invariant-loop-pair : goal.invariant-loop-pair
invariant-loop-pair l =
    l.made.items ++ kept l.with l.at (drop l.pair-index l.sorted) ≡ l.fn.made.items ++ kept l.with l.fn.at l.sorted
