use Rattle.radpolicy_traffic_packets.proofs.Heads.{request_has_head}
use Rattle.radpolicy_traffic_packets.proofs.packets.request_packet.Goals as goal

pub returns-clause-head : goal.returns-clause-head
returns-clause-head c =
    request_has_head c.args.dictionary.now c.args.secret.now c.in_ok-octets.octets.items c.in-Some.code _ c.in_ok-octets.ensures.octets
