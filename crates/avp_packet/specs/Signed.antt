-- A packet that is signed by its Message-Authenticator (RFC 3579, section 3.2).
use Rattle.std.specs.Prelude.{ℕ, Bool, false, ◌&&◌, ◌==◌, if◌then◌else◌, List, [], ◌∷◌, ◌++◌, length, take, map, filter}
use Rattle.std.specs.List.{flat_map}
use Rattle.std.specs.Str.{bytes_eq}
use Rattle.avp_dict.specs.AttributeNumbers.{message_authenticator}
use Rattle.avp_packet.specs.Hmac.{hmac}
use Rattle.avp_packet.specs.Packets.{attributes_of, begins_packet, zeros}
use Rattle.avp_packet.specs.Splitting.{Part, left, part_octets, parts}

abbrev pub is_signature : Part → Bool
is_signature part = part.number == message_authenticator

-- the Message-Authenticators among attributes
abbrev pub signatures : List Part → List Part
signatures parts = filter is_signature parts

-- the attribute itself, but a Message-Authenticator with 16 zeros in its value's place
abbrev pub blanked : Part → Part
blanked part = if is_signature part then (record { number = part.number; value = zeros }) else part

-- what is signed: the packet with this authenticator and a blank Message-Authenticator
abbrev pub signed_text : List ℕ → List ℕ → List ℕ
signed_text os authenticator =
    take 4 os ++ authenticator ++ flat_map part_octets (map blanked (parts (attributes_of os)))

-- there is one, and its value is the digest
abbrev pub is_only : List ℕ → List Part → Bool
is_only digest (part ∷ []) = bytes_eq part.value digest
is_only digest _ = false

-- a packet of whole attributes, and among them one Message-Authenticator, the digest under the secret; octets past
-- Length are not looked at
unfoldable pub is_signed : List ℕ → List ℕ → List ℕ → Bool
is_signed os authenticator secret =
    begins_packet os
    && (length (left (attributes_of os)) == 0)
    && is_only (hmac secret (signed_text os authenticator)) (signatures (parts (attributes_of os)))
