use Rattle.std.proofs.Common.{◌≡◌, take}
use Rattle.avp_lists.specs.History.{present}
use Rattle.avp_lists.specs.Instances.{instances}
use Rattle.avp_lists.specs.States.{list_of}
use Rattle.radpolicy_changing_lines.proofs.instances.instances.Given as goal

abbrev pub invariant-loop-at : goal.invariant-loop-at
invariant-loop-at g l = l.found.items ≡ instances l.id (take l.at (list_of l.list (present (g.S.Store.history l.store))))
