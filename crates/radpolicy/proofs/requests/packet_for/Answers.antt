use Rattle.radpolicy.proofs.Replying.{proxies_clean}
use Rattle.radpolicy.proofs.requests.packet_for.Goals as goal

pub returns-clause-proxies : goal.returns-clause-proxies
returns-clause-proxies c = proxies_clean c.args.dictionary.now c.in_ok-packet.packet.list c.in_ok-packet.ensures.own
