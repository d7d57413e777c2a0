-- Packets and the digests in them (RFC 2865, section 3; RFC 2866, section 3; RFC 3579, section 3.2).
use Rattle.std.specs.Prelude.{◌≡◌, ◌⊎◌, ℕ, ◌+◌, ◌<◌, ◌≤◌, Bool, ◌&&◌, ◌||◌, ◌==◌, nat_le, if◌then◌else◌, List, [], ◌∷◌, ◌++◌, length, take, drop, slice_index, replicate}
use Rattle.std.specs.Int.{to_be_bytes, w16}
use Rattle.std.specs.Int.Digits.{number_from_digits}
use Rattle.std.specs.List.{flat_map}
use Rattle.std.specs.Str.{bytes_eq}
use Rattle.md5.specs.Md5.{md5}
use Rattle.avp_lists.specs.declared.pairs.Pair.{Pair}
use Rattle.avp_dict.specs.AttributeNumbers.{message_authenticator}
use Rattle.avp_dict.specs.Dictionary.{Dictionary}
use Rattle.avp_packet.specs.AttributeOctets.{part, parts_of_pair}
use Rattle.avp_packet.specs.Hmac.{hmac}
use Rattle.avp_packet.specs.Meanings.{pair_meant, raw_pair}
use Rattle.avp_packet.specs.Sending.{Content, PacketKind, Access, Accounting, Reply, message_authenticator_id, pairs_sent}
use Rattle.avp_packet.specs.Splitting.{part_octets}

-- ---- codes (RFC 2865, section 3; RFC 2866, section 3)

abbrev pub access_request : ℕ
access_request = 1

abbrev pub access_accept : ℕ
access_accept = 2

abbrev pub access_reject : ℕ
access_reject = 3

abbrev pub accounting_request : ℕ
accounting_request = 4

abbrev pub accounting_response : ℕ
accounting_response = 5

-- read only (RFC 2865, section 4.4)
abbrev pub access_challenge : ℕ
access_challenge = 11

abbrev pub IsRequestCode : ℕ → Type 0
IsRequestCode code = (code ≡ access_request) ⊎ (code ≡ accounting_request)

abbrev pub IsReplyCode : ℕ → Type 0
IsReplyCode code = (code ≡ access_accept) ⊎ ((code ≡ access_reject) ⊎ (code ≡ accounting_response))

-- the codes of replies that are read: those that are written, and Access-Challenge
abbrev pub IsTakenReplyCode : ℕ → Type 0
IsTakenReplyCode code = IsReplyCode code ⊎ (code ≡ access_challenge)

-- ---- octets

-- the octets before the attributes: Code, Identifier, Length and Authenticator
abbrev pub packet_head_octets : ℕ
packet_head_octets = 20

-- Code, Identifier, Length, which counts all, Authenticator and attributes
unfoldable pub packet : ℕ → ℕ → List ℕ → List ℕ → List ℕ
packet code id authenticator attributes =
    code ∷ id ∷ to_be_bytes w16 (packet_head_octets + length attributes) ++ authenticator
    ++ attributes

abbrev pub zeros : List ℕ
zeros = replicate 16 0

-- ---- authenticators

-- the digest of a packet with these 16 octets as its authenticator, and of the secret
unfoldable pub digest_over : ℕ → ℕ → List ℕ → List ℕ → List ℕ → List ℕ
digest_over code id authenticator attributes secret =
    md5 (packet code id authenticator attributes ++ secret)

-- an Access-Request has 16 octets of its own, an Accounting-Request the digest over zeros
abbrev pub request_authenticator : ℕ → ℕ → List ℕ → List ℕ → List ℕ → List ℕ
request_authenticator code id authenticator attributes secret =
    if code == accounting_request
    then digest_over code id zeros attributes secret
    else authenticator

-- what hides the first block: the Request Authenticator, and zeros in an Accounting-Request and its response
abbrev pub hiding_authenticator : ℕ → List ℕ → List ℕ
hiding_authenticator code authenticator =
    if (code == accounting_request) || (code == accounting_response) then zeros else authenticator

-- ---- requests and replies

-- the attributes of pairs that are sent
abbrev pub octets_sent : Dictionary → List ℕ → List ℕ → List Pair → List ℕ
octets_sent dictionary secret hide_by pairs =
    flat_map part_octets (flat_map (parts_of_pair dictionary secret hide_by) pairs)

-- the attributes of a packet with this authenticator, and with these octets as its Message-Authenticator, where it has
-- one
abbrev pub attributes_with : Dictionary → List ℕ → ℕ → List ℕ → Content → List ℕ → List ℕ
attributes_with dictionary secret code authenticator content signature =
    octets_sent dictionary secret (hiding_authenticator code authenticator)
    (pairs_sent dictionary content (raw_pair (part message_authenticator signature)))

abbrev pub request_kind : ℕ → PacketKind
request_kind code = if code == accounting_request then Accounting else Access

abbrev pub request_content : ℕ → List Pair → Content
request_content code pairs =
    record { kind = request_kind code; pairs = pairs; proxy_states = [] }

-- the reply list's, then the Proxy-States'
abbrev pub reply_content : Bool → List Pair → List Pair → Content
reply_content signed pairs proxy_states =
    record { kind = Reply signed; pairs = pairs; proxy_states = proxy_states }

module _ (dictionary : Dictionary) (secret : List ℕ) (code id : ℕ) (authenticator : List ℕ) where
  -- the octets that sign a packet: the digest of the packet with zeros in their place (RFC 3579, section 3.2)
  unfoldable pub signature_of : Content → List ℕ
  signature_of content = hmac secret
      (packet code id authenticator
      (attributes_with dictionary secret code authenticator content zeros))

  -- the attributes of a packet, signed
  abbrev pub attributes_signed : Content → List ℕ
  attributes_signed content =
      attributes_with dictionary secret code authenticator content (signature_of content)

  -- the pairs that these attributes mean, where the lists are clean
  abbrev pub pairs_meant : Content → List Pair
  pairs_meant content = pairs_sent dictionary content
      (pair_meant dictionary secret (hiding_authenticator code authenticator)
      message_authenticator_id (signature_of content))

  unfoldable pub request : List Pair → List ℕ
  request pairs =
      let attributes = attributes_signed (request_content code pairs) in
      packet code id (request_authenticator code id authenticator attributes secret) attributes

  -- the authenticator of a reply is the digest over that of the request, and over the Message-Authenticator
  unfoldable pub reply : Bool → List Pair → List Pair → List ℕ
  reply signed pairs proxy_states =
      let attributes = attributes_signed (reply_content signed pairs proxy_states) in
      packet code id (digest_over code id authenticator attributes secret) attributes

-- ---- octets given

abbrev pub code_of : List ℕ → ℕ
code_of os = slice_index os 0

abbrev pub id_of : List ℕ → ℕ
id_of os = slice_index os 1

-- the Length in a packet
abbrev pub length_of : List ℕ → ℕ
length_of os = number_from_digits 256 (take 2 (drop 2 os))

abbrev pub authenticator_of : List ℕ → List ℕ
authenticator_of os = take 16 (drop 4 os)

-- what is after the authenticator, up to Length
abbrev pub attributes_of : List ℕ → List ℕ
attributes_of os = drop packet_head_octets (take (length_of os) os)

-- the most octets of a packet, of every code
abbrev pub max_packet_octets : ℕ
max_packet_octets = 4096

abbrev pub is_packet_length : ℕ → Bool
is_packet_length n = nat_le packet_head_octets n && nat_le n max_packet_octets

-- no longer than a packet may be
abbrev pub IsShort : List ℕ → Type 0
IsShort os = length os ≤ max_packet_octets

abbrev pub IsTooLong : List ℕ → Type 0
IsTooLong os = max_packet_octets < length os

-- octets begin with a packet: its head, and a Length in range that they reach
abbrev pub begins_packet : List ℕ → Bool
begins_packet os =
    nat_le packet_head_octets (length os) && is_packet_length (length_of os)
    && nat_le (length_of os) (length os)

-- a reply by its Response Authenticator, to a request with this authenticator; octets past Length are not looked at
unfoldable pub is_reply : List ℕ → List ℕ → List ℕ → Bool
is_reply os authenticator secret =
    begins_packet os
    && bytes_eq (authenticator_of os)
    (md5 (take 4 os ++ authenticator ++ attributes_of os ++ secret))
