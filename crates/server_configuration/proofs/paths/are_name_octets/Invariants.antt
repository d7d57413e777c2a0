use Rattle.std.proofs.Common.{◌≡◌, length}
use Rattle.server_configuration.specs.Names.{are_name_octets}
use Rattle.server_configuration.proofs.paths.are_name_octets.Given as goal

abbrev pub decreases-loop-rest : goal.decreases-loop-rest
decreases-loop-rest l = length l.rest

abbrev pub invariant-loop-rest : goal.invariant-loop-rest
invariant-loop-rest l = are_name_octets l.rest ≡ are_name_octets l.octets
