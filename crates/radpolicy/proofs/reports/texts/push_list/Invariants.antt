use Rattle.std.proofs.Common.{◌≡◌, ◌++◌, codes, take}
use Rattle.std.specs.List.{flat_map}
use Rattle.radpolicy.specs.Reports.{pair_line}
use Rattle.radpolicy.proofs.reports.texts.push_list.Given as goal

abbrev pub invariant-loop-pair : goal.invariant-loop-pair
invariant-loop-pair l = l.text.items ≡ l.fn.text.items ++ l.name ++ codes "\n" ++ flat_map (pair_line l.profile l.dictionary) (take l.pair-index l.pairs)
