use Rattle.std.proofs.Common.{◌≡◌, ◌++◌, take}
use Rattle.std.specs.List.{flat_map}
use Rattle.radpolicy_page_data.specs.Positions.{pair_item}
use Rattle.radpolicy_page_data.proofs.positions.push_pairs.Given as goal

abbrev pub invariant-loop-pair : goal.invariant-loop-pair
invariant-loop-pair l = l.text.items ≡ l.fn.text.items ++ flat_map (pair_item l.redaction) (take l.pair-index l.pairs)
