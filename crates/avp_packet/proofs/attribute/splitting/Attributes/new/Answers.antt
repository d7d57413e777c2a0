use Rattle.avp_packet.proofs.Splits.{is_split}
use Rattle.avp_packet.proofs.attribute.splitting.Attributes.new.Goals as goal

pub returns-clause-split : goal.returns-clause-split
returns-clause-split c = is_split c.args.octets.now
