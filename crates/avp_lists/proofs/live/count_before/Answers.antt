use Rattle.std.proofs.Common.{rules}
use Rattle.std.proofs.lemmas.List.Sorted.{IsPartitionPoint-from_clause}
use Rattle.avp_lists.specs.internal.Live.{before}
use Rattle.avp_lists.proofs.PlacesInOrder.{partition-count}
use Rattle.avp_lists.proofs.live.count_before.Goals as goal

pub returns : goal.returns
returns c =
    let test = before c.args.place in
    let point = IsPartitionPoint-from_clause test _ _ c.partition_point.ensures.partitioned c.requires (λ a r q k. search rules) in
    partition-count test c.args.places.now c.partition_point.result c.partition_point.ensures.bound point.0 point.1
