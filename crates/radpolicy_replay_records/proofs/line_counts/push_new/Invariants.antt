use Rattle.std.proofs.Common.{◌≡◌, ◌++◌, filter, length, map}
use Rattle.radpolicy_replay_records.specs.LineCounts.{first_count, is_new}
use Rattle.radpolicy_replay_records.proofs.line_counts.push_new.Given as goal

abbrev pub invariant-loop-rest : goal.invariant-loop-rest
invariant-loop-rest l = l.counted.items ++ map first_count (filter (is_new l.counts) l.rest)
    ≡ l.fn.counted.items ++ map first_count (filter (is_new l.counts) l.lines)

abbrev pub decreases-loop-rest : goal.decreases-loop-rest
decreases-loop-rest l = length l.rest
