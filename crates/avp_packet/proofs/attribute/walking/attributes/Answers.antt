use Rattle.avp_packet.proofs.Splits.{one_split}
use Rattle.avp_packet.proofs.attribute.walking.attributes.Goals as goal

pub returns-clause-only : goal.returns-clause-only
returns-clause-only c = one_split c.args.octets.now
