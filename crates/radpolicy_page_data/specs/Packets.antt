-- The octets of a reply packet (RFC 2865, section 3), as JSON (RFC 8259): a row for its head, one for its
-- authenticator and one for each attribute, each a name and hexadecimal digits.
use Rattle.std.specs.Prelude.{ℕ, ◌+◌, ◌-◌, Bool, false, not, ◌&&◌, ◌||◌, ◌==◌, nat_lt, nat_le, if◌then◌else◌, List, [], ◌∷◌, ◌++◌, codes, decimal}
use Rattle.std.specs.List.{list_any}
use Rattle.std.specs.Option.{option_map_or}
use Rattle.avp_lists.specs.declared.pairs.AttrId.{AttrId}
use Rattle.avp_lists.specs.declared.pairs.AttrId.TheVariants as ids
use Rattle.avp_lists.specs.declared.pairs.Pair.{Pair}
use Rattle.avp_dict.specs.AttributeNumbers.{proxy_state}
use Rattle.avp_dict.specs.Dictionary.{Dictionary}
use Rattle.avp_dict.specs.Names.{Described, described}
use Rattle.avp_dict.specs.Sent.{is_container}
use Rattle.radpolicy.specs.declared.run_outcomes.Reply.{Reply}
use Rattle.radpolicy.specs.declared.run_outcomes.Reply.TheVariants as reply
use Rattle.radpolicy_common.specs.declared.redactions.SecretValues.TheVariants.{Hidden, Shown}
use Rattle.radpolicy_page_data.specs.Embedding.{string_text, two_digits}
use Rattle.radpolicy_common.specs.ProxyStates.{sends_hidden_proxy_state}
use Rattle.radpolicy_common.specs.Secrets.{Redaction, hides, is_among}
use Rattle.radpolicy_page_data.specs.declared.packets.Spot.{Spot}
use Rattle.radpolicy_page_data.specs.declared.packets.Spot.TheVariants as spot

-- ---- which attributes of a packet are hidden

-- the type with which an attribute is sent (RFC 2865, section 5.26; RFC 6929, section 2)
abbrev pub type_of : AttrId → ℕ
type_of (ids.Plain n) = n
type_of (ids.Vendor vendor n) = 26
type_of (ids.Extended t n) = t

-- a pair with a hidden value may be sent in an attribute of this type
abbrev pub is_hidden_as : Redaction → ℕ → Pair → Bool
is_hidden_as redaction t pair = type_of pair.id == t && hides redaction pair.id pair.value

-- each attribute of the type is secret; one that holds others is as they are
abbrev pub is_secret_type : Redaction → ℕ → Bool
is_secret_type redaction t =
    not (is_container (ids.Plain t)) && is_among redaction.dictionary redaction.ids (ids.Plain t)

-- attributes of the type are hidden: they are secret, the reply list has a hidden value that is sent with it, or it is
-- that of Proxy-States, and those of the packet are hidden
unfoldable pub hides_type : Redaction → List Pair → Bool → ℕ → Bool
hides_type redaction replied hides_proxies t = elim redaction.secrets [
  | Shown ↦ false
  | Hidden ↦ is_secret_type redaction t || list_any (is_hidden_as redaction t) replied
      || (hides_proxies && t == proxy_state)
]

-- ---- its octets

abbrev pub name_of : Described → List ℕ
name_of d = d.name

-- the name of a type, or its number
unfoldable pub type_name : Dictionary → ℕ → List ℕ
type_name dictionary t = option_map_or name_of (described (ids.Plain t) dictionary) (decimal t)

abbrev pub shown_octet : Bool → ℕ → List ℕ
shown_octet hidden o = if hidden then codes ".." else two_digits o

-- an octet of a row, by its place: the first octet begins the row, and the last one ends it
abbrev pub row_octet : List ℕ → ℕ → List ℕ → ℕ → ℕ → List ℕ
row_octet begin last end k o =
    (if k == 0 then begin else []) ++ two_digits o ++ (if k == last then end else [])

-- an octet at a spot of a packet
unfoldable pub octet_at : Redaction → Spot → ℕ → List ℕ
octet_at redaction (spot.Head k) o = row_octet (codes "[\"head\",\"") 3 (codes "\"],") k o
octet_at redaction (spot.Authenticator k) o =
    row_octet (codes "[\"authenticator\",\"") 15 (codes "\"]") k o
octet_at redaction spot.Type o =
    codes ",[" ++ string_text (type_name redaction.dictionary o) ++ codes ",\"" ++ two_digits o
octet_at redaction (spot.Length hidden) o =
    two_digits o ++ (if nat_le o 2 then codes "\"]" else [])
octet_at redaction (spot.Value left hidden) o =
    shown_octet hidden o ++ (if nat_le left 1 then codes "\"]" else [])

-- the spot after it
unfoldable pub spot_after : Redaction → List Pair → Bool → Spot → ℕ → Spot
spot_after redaction replied hides_proxies (spot.Head k) o =
    if nat_lt k 3 then spot.Head (k + 1) else spot.Authenticator 0
spot_after redaction replied hides_proxies (spot.Authenticator k) o =
    if nat_lt k 15 then spot.Authenticator (k + 1) else spot.Type
spot_after redaction replied hides_proxies spot.Type o =
    spot.Length (hides_type redaction replied hides_proxies o)
spot_after redaction replied hides_proxies (spot.Length hidden) o =
    if nat_le o 2 then spot.Type else spot.Value (o - 2) hidden
spot_after redaction replied hides_proxies (spot.Value left hidden) o =
    if nat_le left 1 then spot.Type else spot.Value (left - 1) hidden

-- octets from a spot on
abbrev pub rows_from : Redaction → List Pair → Bool → Spot → List ℕ → List ℕ
rows_from redaction replied hides_proxies at [] = []
rows_from redaction replied hides_proxies at (o ∷ os) = octet_at redaction at o
    ++ rows_from redaction replied hides_proxies (spot_after redaction replied hides_proxies at o) os

-- what is sent: null where no packet was made, false where none is sent, else the rows of its octets
unfoldable pub reply_text : Redaction → List Pair → Reply → List ℕ
reply_text redaction replied reply.Unmade = codes "null"
reply_text redaction replied reply.Nothing = codes "false"
reply_text redaction replied (reply.Packet octets) =
    codes "["
    ++ rows_from redaction replied (sends_hidden_proxy_state redaction octets) (spot.Head 0) octets
    ++ codes "]"
