use Rattle.std.proofs.Common.{◌≡◌, ◌++◌, codes, take}
use Rattle.std.specs.List.{flat_map}
use Rattle.radpolicy_page_data.specs.Pages.{pair_line}
use Rattle.radpolicy_page_data.proofs.pages.push_list.Given as goal

abbrev pub invariant-loop-pair : goal.invariant-loop-pair
invariant-loop-pair l = l.text.items ≡ l.fn.text.items ++ l.name ++ codes "\n" ++ flat_map (pair_line l.redaction) (take l.pair-index l.pairs)
