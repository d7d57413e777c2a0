use Rattle.std.proofs.Common.{◌≡◌, map, take}
use Rattle.radpolicy_replay_records.specs.LineCounts.{counted_once}
use Rattle.radpolicy_replay_records.proofs.line_counts.all_counted_once.Given as goal

abbrev pub invariant-loop-count : goal.invariant-loop-count
invariant-loop-count l = l.counted.items ≡ map (counted_once l.lines) (take l.count-index l.counts)
