use Rattle.std.proofs.Common.{◌≡◌, length}
use Rattle.server_configuration.specs.References.{has_reference}
use Rattle.server_configuration.proofs.references.has_reference.Given as goal

abbrev pub decreases-loop-rest : goal.decreases-loop-rest
decreases-loop-rest l = length l.rest

abbrev pub invariant-loop-rest : goal.invariant-loop-rest
invariant-loop-rest l = has_reference l.rest ≡ has_reference l.octets
