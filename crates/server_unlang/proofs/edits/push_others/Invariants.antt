use Rattle.std.proofs.Common.{◌≡◌, ◌++◌, take}
use Rattle.std.specs.List.{filter}
use Rattle.avp_lists.specs.Instances.{is_other}
use Rattle.server_unlang.proofs.edits.push_others.Given as goal

abbrev pub invariant-loop-pair : goal.invariant-loop-pair
invariant-loop-pair l = l.made.items ≡ l.fn.made.items ++ filter (is_other l.id) (take l.pair-index l.pairs)
