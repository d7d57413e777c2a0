-- Proxy-States in the octets of a reply packet, which come from its request (RFC 2865, section 5.33).
use Rattle.std.specs.Prelude.{ℕ, Bool, false, ◌&&◌, ◌==◌, List, drop, Result, Ok, Err}
use Rattle.std.specs.List.{list_any}
use Rattle.avp_lists.specs.declared.pairs.AttrId.TheVariants.{Plain}
use Rattle.avp_lists.specs.declared.pairs.Value.TheVariants.{Raw}
use Rattle.avp_dict.specs.AttributeNumbers.{proxy_state}
use Rattle.avp_packet.specs.Splitting.{Placed, items}
use Rattle.avp_packet.specs.declared.attribute.splitting.BadLength.{BadLength}
use Rattle.radpolicy_common.specs.Secrets.{Redaction, hides}

-- an attribute of a packet is a Proxy-State that is not to be shown
abbrev pub is_hidden_proxy_state : Redaction → Result Placed BadLength → Bool
is_hidden_proxy_state redaction (Ok attribute) = attribute.number == proxy_state
    && hides redaction (Plain proxy_state) (Raw attribute.value)
is_hidden_proxy_state redaction (Err bad) = false

-- these attributes have one
abbrev pub has_hidden_proxy_state : Redaction → List ℕ → Bool
has_hidden_proxy_state redaction octets = list_any (is_hidden_proxy_state redaction) (items octets)

-- a packet has one: its attributes are behind 20 octets (RFC 2865, section 3)
abbrev pub sends_hidden_proxy_state : Redaction → List ℕ → Bool
sends_hidden_proxy_state redaction packet = has_hidden_proxy_state redaction (drop 20 packet)
