use Rattle.std.proofs.Common.{arith}
use Rattle.avp_packet.proofs.encoding.packets.fill_request_authenticator.Goals as goal

pub fill_authenticator-requires-then-code-eq-ACCOUNTING_REQUEST : goal.fill_authenticator-requires-then-code-eq-ACCOUNTING_REQUEST
fill_authenticator-requires-then-code-eq-ACCOUNTING_REQUEST c = omega (arith, c.fill_authenticator.ensures.length, c.requires)
