use Rattle.std.proofs.Common.{◌≡◌, ◌++◌, map}
use Rattle.std.specs.Vec.Iter.{into_iter_items}
use Rattle.radpolicy_import_policies.specs.InitialLists.{item_of_file}
use Rattle.radpolicy_import_policies.proofs.initial.add_items.Given as goal

abbrev pub invariant-loop-item : goal.invariant-loop-item
invariant-loop-item l = l.items.items ++ map (item_of_file l.fn.file) (into_iter_items l.item-iterator)
    ≡ l.fn.items.items ++ map (item_of_file l.fn.file) l.fn.added.items
