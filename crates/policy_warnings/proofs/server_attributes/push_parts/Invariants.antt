use Rattle.std.proofs.Common.{◌≡◌, ◌++◌, drop, map}
use Rattle.std.specs.List.{flat_map}
use Rattle.policy_warnings.specs.ServerAttributes.{look, put_in}
use Rattle.policy_warnings.proofs.server_attributes.push_parts.Given as goal

abbrev pub invariant-loop-part : goal.invariant-loop-part
invariant-loop-part l =
    l.looked.items ++ map (look l.is_compared) (flat_map put_in (drop l.part-index l.parts)) ≡ l.fn.looked.items ++ map (look l.is_compared) (flat_map put_in l.parts)
