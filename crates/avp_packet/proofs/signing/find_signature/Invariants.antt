use Rattle.std.proofs.Common.{length}
use Rattle.avp_packet.proofs.Signatures.{IsPassed}
use Rattle.avp_packet.proofs.signing.find_signature.Given as goal

abbrev pub invariant-loop-front : goal.invariant-loop-front
invariant-loop-front l = IsPassed l.octets l.rest

abbrev pub decreases-loop-front : goal.decreases-loop-front
decreases-loop-front l = length l.rest
