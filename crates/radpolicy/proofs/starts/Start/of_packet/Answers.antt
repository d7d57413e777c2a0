use Rattle.std.proofs.Common.{◌∙◌, ap, subst}
use Rattle.std.specs.Prelude.{All}
use Rattle.avp_dict.specs.Dictionary.{Dictionary}
use Rattle.avp_dict.specs.Sent.{is_clean}
use Rattle.avp_packet.specs.CanonicalOrContainer.{IsCanonicalOrContainer}
use Rattle.radpolicy.specs.Replies.{proxy_states}
use Rattle.radpolicy.specs.Starts.{Start}
use Rattle.radpolicy.proofs.Replying.{proxies_clean}
use Rattle.radpolicy.proofs.starts.Start.of_packet.Goals as goal

pub returns-clause-proxies : goal.returns-clause-proxies
returns-clause-proxies c =
    let d = c.args.prepared.now.dictionary in
    let own = subst (λ (e : Dictionary). All (IsCanonicalOrContainer e) c.in_ok-request.request.list) c.dictionary.ensures c.in_ok-request.ensures.own in
    ap (λ (s : Start). is_clean (proxy_states s.request) d) c.new.ensures ∙ proxies_clean d c.in_ok-request.request.list own
