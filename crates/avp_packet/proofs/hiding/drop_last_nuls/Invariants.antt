use Rattle.std.proofs.Common.{◌≡◌, length}
use Rattle.avp_packet.specs.Hiding.{without_last_nuls}
use Rattle.avp_packet.proofs.hiding.drop_last_nuls.Given as goal

abbrev pub invariant-loop-octets : goal.invariant-loop-octets
invariant-loop-octets l = without_last_nuls l.octets.items ≡ without_last_nuls l.fn.octets.items

abbrev pub decreases-loop-octets : goal.decreases-loop-octets
decreases-loop-octets l = length l.octets.items
