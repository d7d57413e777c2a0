use Rattle.std.proofs.Common.{◌≡◌}
use Rattle.std.specs.List.{list_any}
use Rattle.avp_packet.specs.Splitting.{items}
use Rattle.avp_packet.specs.internal.Views.{items_left}
use Rattle.radpolicy_common.specs.ProxyStates.{is_hidden_proxy_state}
use Rattle.radpolicy_common.proofs.proxy_states.has_hidden_proxy_state.Given as goal

abbrev pub invariant-loop-item : goal.invariant-loop-item
invariant-loop-item l = list_any (is_hidden_proxy_state l.redaction) (items l.octets)
    ≡ list_any (is_hidden_proxy_state l.redaction) (items_left l.item-iterator)
