use Rattle.std.proofs.Common.{◌≡◌, drop, map}
use Rattle.policy_warnings.specs.ServerAttributes.{has_one_of}
use Rattle.policy_warnings.proofs.server_attributes.has_one_of.Given as goal

abbrev pub invariant-loop-name : goal.invariant-loop-name
invariant-loop-name l =
    has_one_of (map (λ name. name.now) (drop l.name-index l.names)) l.dictionary l.id ≡ has_one_of (map (λ name. name.now) l.names) l.dictionary l.id
