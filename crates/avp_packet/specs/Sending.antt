-- Which pairs a packet sends, and where its Message-Authenticator is among them (RFC 3579, section 3.2).
use Rattle.std.specs.Prelude.{Bool, false, if◌then◌else◌, List, [], ◌∷◌, ◌++◌, filter}
use Rattle.std.specs.List.{before_first, after_first}
use Rattle.avp_lists.specs.Instances.{has_id, has_instance, is_other}
use Rattle.avp_lists.specs.declared.pairs.AttrId.{AttrId}
use Rattle.avp_lists.specs.declared.pairs.AttrId.TheVariants.{Plain}
use Rattle.avp_lists.specs.declared.pairs.Pair.{Pair}
use Rattle.avp_dict.specs.AttributeNumbers.{message_authenticator}
use Rattle.avp_dict.specs.Dictionary.{Dictionary}
use Rattle.avp_dict.specs.Sent.{sent}

abbrev pub message_authenticator_id : AttrId
message_authenticator_id = Plain message_authenticator

-- a list's pairs but for its Message-Authenticators
abbrev pub without_signatures : List Pair → List Pair
without_signatures pairs = filter (is_other message_authenticator_id) pairs

-- what a list is sent in: an Access-Request, an Accounting-Request, or a reply, signed or not
pub data PacketKind : Type 0 where
  Access : PacketKind
  Accounting : PacketKind
  Reply : Bool → PacketKind

-- an Access-Request is signed where its list has a Message-Authenticator, an Accounting-Request never, a reply where it
-- is asked for
abbrev pub is_to_sign : PacketKind → List Pair → Bool
is_to_sign Access pairs = has_instance message_authenticator_id pairs
is_to_sign Accounting pairs = false
is_to_sign (Reply signed) pairs = signed

-- the list's pairs before the packet's Message-Authenticator, which is where an Access-Request's list has its first,
-- and first in a reply; all pairs of an Accounting-Request, and of a request with none
abbrev pub before_signature : PacketKind → List Pair → List Pair
before_signature Access pairs = before_first (has_id message_authenticator_id) pairs
before_signature Accounting pairs = pairs
before_signature (Reply signed) pairs = []

-- those after it, among which no other one is sent
abbrev pub after_signature : PacketKind → List Pair → List Pair
after_signature Access pairs =
    without_signatures (after_first (has_id message_authenticator_id) pairs)
after_signature Accounting pairs = []
after_signature (Reply signed) pairs = without_signatures pairs

-- a list, what it is sent in, and the Proxy-States after it
pub record Content : Type 0 where
  pub kind : PacketKind
  pub pairs : List Pair
  pub proxy_states : List Pair

-- the pair, where the packet is signed
abbrev pub signing : Content → Pair → List Pair
signing content pair = if is_to_sign content.kind content.pairs then (pair ∷ []) else []

-- the pairs that a packet sends, with this one as its Message-Authenticator
unfoldable pub pairs_sent : Dictionary → Content → Pair → List Pair
pairs_sent dictionary content pair =
    sent (before_signature content.kind content.pairs) dictionary
    ++ signing content pair
    ++ sent (after_signature content.kind content.pairs) dictionary
    ++ sent content.proxy_states dictionary
