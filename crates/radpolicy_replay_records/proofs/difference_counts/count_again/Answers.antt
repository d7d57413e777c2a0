use Rattle.std.proofs.Common.{◌<◌, ◌∙◌, List, length, get_or, set, ap, arith}
use Rattle.radpolicy_replay_records.specs.DifferenceCounts.{counted_again}
use Rattle.radpolicy_replay_records.specs.declared.difference_counts.DifferenceCount.{DifferenceCount}
use Rattle.radpolicy_replay_records.proofs.CountedAgain.{counted_more}
use Rattle.radpolicy_replay_records.proofs.difference_counts.count_again.Goals as goal

pub loop-count-preserved : goal.loop-count-preserved
loop-count-preserved c =
    let i = c.loop-count.count-index in
    let f = counted_again c.args.name.now c.args.difference.now in
    let within : i < length c.args.counts.now = omega (arith, c.loop-count-test.true) in
    ap (λ (count : DifferenceCount). set c.loop-count.counts i count) c.in_ok-count_again.ensures
    ∙ ap (λ (xs : List DifferenceCount). set xs i (f (get_or xs i c.count-item.result))) c.loop-count.invariant
    ∙ counted_more c.args.name.now c.args.difference.now c.count-item.result c.args.counts.now i within
