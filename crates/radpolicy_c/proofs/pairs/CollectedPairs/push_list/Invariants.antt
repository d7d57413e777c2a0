use Rattle.std.proofs.Common.{◌≡◌, ◌++◌, length, take}
use Rattle.avp_lists.specs.History.{present}
use Rattle.avp_lists.specs.States.{list_of}
use Rattle.radpolicy_c.specs.Pairs.{octets_told, pairs_told}
use Rattle.radpolicy_c.proofs.pairs.CollectedPairs.push_list.Given as goal

abbrev pub invariant-loop-at : goal.invariant-loop-at
invariant-loop-at g l =
    (l.self.octets.items ≡ l.fn.self.octets.items ++ octets_told l.profile l.dictionary (take l.at (list_of l.list (present (g.S.Store.history l.store)))))
    × (l.self.pairs.items ≡ l.fn.self.pairs.items ++ pairs_told (length l.fn.self.octets.items) l.profile l.dictionary (take l.at (list_of l.list (present (g.S.Store.history l.store)))))
