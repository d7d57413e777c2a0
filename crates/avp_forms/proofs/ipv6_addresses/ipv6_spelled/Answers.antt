use Rattle.std.proofs.Common.{◌∙◌, List, ℕ, Some, option_map, ap, sym}
use Rattle.std.specs.Net.Addr.{octets_of}
use Rattle.avp_forms.specs.Ipv6Addresses.{ipv6_spelled}
use Rattle.avp_forms.proofs.AddressTexts.{no_ipv6, whole_ipv6}
use Rattle.avp_forms.proofs.ipv6_addresses.ipv6_spelled.Goals as goal

pub returns-in-Ok : goal.returns-in-Ok
unfolding ipv6_spelled
returns-in-Ok c =
    ap (λ (os : List ℕ). Some os) c.octets.ensures
    ∙ sym (ap (option_map octets_of) (whole_ipv6 _ _ c.in-Ok.ensures))

pub returns-in-Err : goal.returns-in-Err
unfolding ipv6_spelled
returns-in-Err c =
    sym (ap (option_map octets_of) (no_ipv6 _ (λ segments. c.in-Err.ensures (record { segments = segments }))))
