use Rattle.std.proofs.Common.{◌≡◌, ◌++◌, take, drop, map}
use Rattle.radpolicy_replay_records.specs.DifferenceCounts.{counted_again}
use Rattle.radpolicy_replay_records.proofs.difference_counts.count_again.Given as goal

abbrev pub invariant-loop-count : goal.invariant-loop-count
invariant-loop-count l = l.counts
    ≡ map (counted_again l.name l.difference) (take l.count-index l.fn.counts) ++ drop l.count-index l.fn.counts
