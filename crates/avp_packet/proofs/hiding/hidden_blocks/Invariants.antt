use Rattle.std.proofs.Common.{◌≡◌, ◌++◌, ◌/◌, length}
use Rattle.avp_packet.specs.Hiding.{hidden_blocks}
use Rattle.avp_packet.proofs.hiding.hidden_blocks.Given as goal

abbrev pub invariant-loop-block : goal.invariant-loop-block
invariant-loop-block l = l.octets.items ++ hidden_blocks (length l.rest / 16) l.secret l.before l.rest ≡ hidden_blocks (length l.padded / 16) l.secret l.authenticator l.padded

abbrev pub decreases-loop-block : goal.decreases-loop-block
decreases-loop-block l = length l.rest
