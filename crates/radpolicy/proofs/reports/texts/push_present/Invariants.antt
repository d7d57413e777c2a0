use Rattle.std.proofs.Common.{◌≡◌, ◌++◌, codes, take}
use Rattle.std.specs.List.{flat_map}
use Rattle.avp_lists.specs.History.{present}
use Rattle.avp_lists.specs.States.{list_of}
use Rattle.radpolicy.specs.Reports.{pair_line}
use Rattle.radpolicy.proofs.reports.texts.push_present.Given as goal

abbrev pub invariant-loop-at : goal.invariant-loop-at
invariant-loop-at g l = l.text.items ≡ l.fn.text.items ++ l.name ++ codes "\n" ++ flat_map (pair_line l.profile l.dictionary) (take l.at (list_of l.list (present (g.S.Store.history l.store))))
