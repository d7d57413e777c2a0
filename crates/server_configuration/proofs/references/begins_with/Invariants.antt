use Rattle.std.proofs.Common.{◌≡◌, length}
use Rattle.server_configuration.specs.References.{begins_with}
use Rattle.server_configuration.proofs.references.begins_with.Given as goal

abbrev pub decreases-loop-wanted : goal.decreases-loop-wanted
decreases-loop-wanted l = length l.wanted

abbrev pub invariant-loop-wanted : goal.invariant-loop-wanted
invariant-loop-wanted l = begins_with l.wanted l.rest ≡ begins_with l.front l.octets
