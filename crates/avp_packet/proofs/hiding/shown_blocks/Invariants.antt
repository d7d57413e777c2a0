use Rattle.std.proofs.Common.{◌≡◌, ◌++◌, ◌/◌, length}
use Rattle.avp_packet.specs.Hiding.{shown_blocks}
use Rattle.avp_packet.proofs.hiding.shown_blocks.Given as goal

abbrev pub invariant-loop-block : goal.invariant-loop-block
invariant-loop-block l = l.octets.items ++ shown_blocks (length l.rest / 16) l.secret l.before l.rest ≡ shown_blocks (length l.hidden / 16) l.secret l.authenticator l.hidden

abbrev pub decreases-loop-block : goal.decreases-loop-block
decreases-loop-block l = length l.rest
