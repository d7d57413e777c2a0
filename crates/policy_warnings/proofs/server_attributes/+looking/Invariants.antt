use Rattle.std.proofs.Common.{◌≡◌, ◌++◌, drop}
use Rattle.std.specs.List.{flat_map}
use Rattle.policy_warnings.specs.ServerAttributes.{looks}
use Rattle.policy_warnings.proofs.server_attributes.+looking.Given as goal

abbrev pub invariant-push_each-loop-cond : goal.invariant-push_each-loop-cond
invariant-push_each-loop-cond l = l.looked.items ++ flat_map looks (drop l.cond-index l.conds) ≡ l.fn.looked.items ++ flat_map looks l.conds
