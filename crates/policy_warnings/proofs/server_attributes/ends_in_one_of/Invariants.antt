use Rattle.std.proofs.Common.{◌≡◌, drop, map}
use Rattle.policy_warnings.specs.ServerAttributes.{ends_in_one_of}
use Rattle.policy_warnings.proofs.server_attributes.ends_in_one_of.Given as goal

abbrev pub invariant-loop-ending : goal.invariant-loop-ending
invariant-loop-ending l =
    ends_in_one_of (map (λ ending. ending.now) (drop l.ending-index l.endings)) l.name ≡ ends_in_one_of (map (λ ending. ending.now) l.endings) l.name
