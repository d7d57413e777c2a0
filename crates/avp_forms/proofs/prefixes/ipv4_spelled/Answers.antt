use Rattle.std.proofs.Common.{◌∙◌, List, ℕ, Some, ap, sym}
use Rattle.avp_forms.specs.Prefixes.{ipv4_spelled}
use Rattle.avp_forms.proofs.AddressTexts.{no_ipv4, whole_ipv4}
use Rattle.avp_forms.proofs.prefixes.ipv4_spelled.Goals as goal

pub returns-in-Ok : goal.returns-in-Ok
unfolding ipv4_spelled
returns-in-Ok c =
    ap (λ (os : List ℕ). Some os) c.octets.ensures ∙ sym (whole_ipv4 _ _ c.in-Ok.ensures)

pub returns-in-Err : goal.returns-in-Err
unfolding ipv4_spelled
returns-in-Err c = sym (no_ipv4 _ (λ octets. c.in-Err.ensures (record { octets = octets })))
