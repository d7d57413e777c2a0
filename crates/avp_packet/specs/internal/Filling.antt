-- A list divided at its packet's Message-Authenticator, and where the octets that sign are filled in.
use Rattle.std.specs.Prelude.{◌≡◌, ◌≤◌, ℕ, ◌+◌, Bool, true, false, if◌then◌else◌, List, [], ◌∷◌, ◌++◌, take, drop, Option, Some, None}
use Rattle.std.specs.List.{All}
use Rattle.avp_lists.specs.declared.pairs.Pair.{Pair}
use Rattle.avp_dict.specs.AttributeNumbers.{message_authenticator}
use Rattle.avp_dict.specs.Dictionary.{Dictionary}
use Rattle.avp_packet.specs.declared.encoding.dividing.Division.{Division}
use Rattle.avp_packet.specs.AttributeOctets.{attribute_octets, part}
use Rattle.avp_packet.specs.Hmac.{hmac}
use Rattle.avp_packet.specs.Packets.{hiding_authenticator, packet, zeros}
use Rattle.avp_packet.specs.Sending.{PacketKind, before_signature, after_signature, is_to_sign, without_signatures}
use Rattle.avp_packet.specs.Splitting.{part_octets}
use Rattle.avp_packet.specs.internal.Ranges.{IsVendorInRange}

-- the pairs of a list, with its Message-Authenticators or without
abbrev pub kept_pairs : Bool → List Pair → List Pair
kept_pairs true pairs = pairs
kept_pairs false pairs = without_signatures pairs

-- what is before and after the Message-Authenticator, if there is one
pub record IsDivided (kind : PacketKind) (pairs : List Pair) (division : Division) : Type 0 where
  pub before : division.before.now ≡ before_signature kind pairs
  pub signed : division.signed ≡ is_to_sign kind pairs
  pub after : without_signatures division.after.now ≡ after_signature kind pairs

-- the pairs of a divided list pass this test
pub record KeepsAll (q : Pair → Bool) (division : Division) : Type 0 where
  pub before : All (λ p. q p ≡ true) division.before.now
  pub after : All (λ p. q p ≡ true) division.after.now

-- the vendors of its pairs, and of the Proxy-States after it, are in range
pub record AreVendorsInRange (division : Division) (proxy_states : List Pair) : Type 0 where
  pub before : All (λ p. IsVendorInRange p.id) division.before.now
  pub after : All (λ p. IsVendorInRange p.id) division.after.now
  pub proxies : All (λ p. IsVendorInRange p.id) proxy_states

-- a Message-Authenticator of these octets, where there is one
abbrev pub signature_if : Bool → List ℕ → List ℕ
signature_if signed signature =
    if signed then part_octets (part message_authenticator signature) else []

abbrev pub place_if : Bool → ℕ → Option ℕ
place_if signed place = if signed then Some place else None

module _ (dictionary : Dictionary) (secret : List ℕ) where
  -- the attributes of a list so divided, with these octets as its Message-Authenticator
  abbrev pub divided_octets : List ℕ → Division → List Pair → List ℕ → List ℕ
  divided_octets hide_by division proxy_states signature =
      let octets : List Pair → List ℕ = attribute_octets dictionary secret hide_by in
      octets division.before.now
      ++ signature_if division.signed signature
      ++ octets (without_signatures division.after.now)
      ++ octets proxy_states

  -- and with those that sign the packet
  abbrev pub divided_signed : ℕ → ℕ → List ℕ → Division → List Pair → List ℕ
  divided_signed code id authenticator division proxy_states =
      let octets = divided_octets (hiding_authenticator code authenticator) division proxy_states in
      octets (hmac secret (packet code id authenticator (octets zeros)))

-- a packet with zeros in the place of its Length
abbrev pub without_length : ℕ → ℕ → List ℕ → List ℕ → List ℕ
without_length code id authenticator attributes =
    code ∷ id ∷ 0 ∷ 0 ∷ authenticator ++ attributes

-- the octets of a Message-Authenticator: Type, Length and 16 of Value
abbrev pub signature_octets : ℕ
signature_octets = 18

-- attributes, with these octets as the Message-Authenticator at its place
abbrev pub filled : List ℕ → Option ℕ → List ℕ → List ℕ
filled os None signature = os
filled os (Some place) signature =
    take place os ++ part_octets (part message_authenticator signature)
    ++ drop (place + signature_octets) os

-- the place is one of a Message-Authenticator in so many octets
abbrev pub IsPlace : ℕ → Option ℕ → Type 0
IsPlace n None = Unit {0}
IsPlace n (Some place) = place + signature_octets ≤ n
