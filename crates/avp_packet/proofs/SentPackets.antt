-- A packet of signed attributes: what is read of it again.
use Rattle.std.proofs.Common.{◌≡◌, ◌∙◌, ℕ, ◌+◌, ◌≤◌, ◌<◌, Bool, true, false, List, [], length, refl, sym, ap, arith}
use Rattle.std.specs.List.{All, list_any}
use Rattle.avp_lists.specs.declared.pairs.Pair.{Pair}
use Rattle.avp_dict.specs.Dictionary.{Dictionary}
use Rattle.avp_dict.specs.Limits.{fits}
use Rattle.avp_dict.specs.Sent.{is_clean}
use Rattle.avp_dict.specs.Soundness.{HasKnownFormats, IsSound}
use Rattle.avp_packet.specs.declared.encoding.dividing.Division.{Division}
use Rattle.avp_packet.specs.Hmac.{hmac}
use Rattle.avp_packet.specs.Meanings.{attribute_pairs}
use Rattle.avp_packet.specs.Means.{Means}
use Rattle.avp_packet.specs.Packets.{attributes_of, attributes_signed, hiding_authenticator, packet, pairs_meant, zeros, max_packet_octets}
use Rattle.avp_packet.specs.Sending.{Content, without_signatures}
use Rattle.avp_packet.specs.Signed.{is_signature, is_signed, signatures}
use Rattle.avp_packet.specs.Splitting.{left, parts}
use Rattle.avp_packet.specs.internal.Filling.{AreVendorsInRange, IsDivided, KeepsAll, divided_octets, divided_signed}
use Rattle.avp_packet.proofs.Assembled.{attributes_of-packet, is_signed-packet, length-packet}
use Rattle.avp_packet.proofs.Filled.{length-hmac}
use Rattle.avp_packet.proofs.OneMeaning.{meant_by}
use Rattle.avp_packet.proofs.Signatures.{any_none}
use Rattle.avp_packet.proofs.SentLists.{before_clean, after_clean, blank_text, laid_whole, left_whole, length-laid, length-signed, no_signature, one_signature, signed_means, signed_octets}

module _ (dictionary : Dictionary) (secret : List ℕ) (code id : ℕ) (authenticator : List ℕ) (content : Content) where
  abbrev sent_attributes : List ℕ
  sent_attributes = attributes_signed dictionary secret code id authenticator content

  -- the attributes are too many for a packet, or not
  module _ (own : List ℕ) (long : length own ≡ 16) (division : Division) (divided : IsDivided content.kind content.pairs division) where
    pub packet_too_long : max_packet_octets < 20 + length (divided_octets dictionary secret (hiding_authenticator code authenticator) division content.proxy_states zeros) → max_packet_octets < length (packet code id own sent_attributes)
    packet_too_long more = omega (arith, more, length-packet code id own sent_attributes long, length-signed dictionary secret code id authenticator content division divided)

    pub packet_fits : 20 + length (divided_octets dictionary secret (hiding_authenticator code authenticator) division content.proxy_states zeros) ≤ max_packet_octets → length (packet code id own sent_attributes) ≤ max_packet_octets
    packet_fits few = omega (arith, few, length-packet code id own sent_attributes long, length-signed dictionary secret code id authenticator content division divided)

    pub packet_short : (octets : List ℕ) → length authenticator ≡ 16 → octets ≡ packet code id authenticator (divided_signed dictionary secret code id authenticator division content.proxy_states) → length octets ≤ max_packet_octets → length (packet code id own sent_attributes) ≤ max_packet_octets
    packet_short octets other made few =
        let laid : List ℕ = divided_signed dictionary secret code id authenticator division content.proxy_states in
        let same = ap length (signed_octets dictionary secret code id authenticator content division divided) in
        omega (arith, few, ap length made, length-packet code id authenticator laid other, length-packet code id own sent_attributes long, same)

  -- octets are a packet of the attributes, and no longer than a packet may be
  module _ (octets own : List ℕ) (made : octets ≡ packet code id own sent_attributes) (long : length own ≡ 16) (short : length (packet code id own sent_attributes) ≤ max_packet_octets) where
    short_attributes : length sent_attributes ≤ 4076
    short_attributes = omega (arith, length-packet code id own sent_attributes long, short)

    attributes_again : attributes_of octets ≡ sent_attributes
    attributes_again = ap attributes_of made ∙ attributes_of-packet code id own sent_attributes long short_attributes

    pub packet_whole : left (attributes_of octets) ≡ []
    packet_whole = ap left attributes_again ∙ left_whole _

    module _ (division : Division) (divided : IsDivided content.kind content.pairs division) (kept : (q : Pair → Bool) → All (λ p. q p ≡ true) content.pairs → KeepsAll q division) where
      pub packet_means : IsSound dictionary → HasKnownFormats dictionary → 0 < length secret → is_clean content.pairs dictionary ≡ true → is_clean content.proxy_states dictionary ≡ true
          → AreVendorsInRange division content.proxy_states
          → Means dictionary secret (hiding_authenticator code authenticator) (parts (attributes_of octets)) (pairs_meant dictionary secret code id authenticator content)
      packet_means sound formats keyed clean proxies_clean ranged =
          let hide_by : List ℕ = hiding_authenticator code authenticator in
          meant_by dictionary secret hide_by (parts (attributes_of octets)) _
          (ap (λ (os : List ℕ). attribute_pairs dictionary secret hide_by (parts os)) attributes_again
          ∙ signed_means dictionary secret code id authenticator content division divided sound formats keyed (before_clean dictionary content.pairs division clean kept) (after_clean dictionary content.pairs division clean kept) proxies_clean ranged.before ranged.after ranged.proxies)

      pub packet_signed : division.signed ≡ true → without_signatures division.before.now ≡ division.before.now → without_signatures content.proxy_states ≡ content.proxy_states
          → All (λ p. fits p dictionary ≡ true) content.pairs → All (λ p. fits p dictionary ≡ true) content.proxy_states
          → is_signed octets authenticator secret ≡ true
      packet_signed signed unsigned proxies_unsigned pairs_fit proxies_fit =
          let laid : List ℕ → List ℕ = divided_octets dictionary secret (hiding_authenticator code authenticator) division content.proxy_states in
          let signature : List ℕ = hmac secret (packet code id authenticator (laid zeros)) in
          let fit = kept (λ (p : Pair). fits p dictionary) pairs_fit in
          let same = signed_octets dictionary secret code id authenticator content division divided in
          let size = length-laid dictionary secret code id authenticator content division divided signature (length-hmac secret (packet code id authenticator (laid zeros))) in
          rw (made ∙ ap (packet code id own) same)
          (is_signed-packet code id own authenticator (laid signature) (laid zeros) signature secret long (omega (arith, ap length same, short_attributes)) (sym size)
          (laid_whole dictionary secret code id authenticator content division divided signature)
          (one_signature dictionary secret code id authenticator content division divided unsigned proxies_unsigned fit.before fit.after proxies_fit signed signature)
          (blank_text dictionary secret code id authenticator content division divided unsigned proxies_unsigned fit.before fit.after proxies_fit signed signature)
          refl)

      pub packet_unsigned : division.signed ≡ false → without_signatures division.before.now ≡ division.before.now → without_signatures content.proxy_states ≡ content.proxy_states
          → All (λ p. fits p dictionary ≡ true) content.pairs → All (λ p. fits p dictionary ≡ true) content.proxy_states
          → list_any is_signature (parts (attributes_of octets)) ≡ false
      packet_unsigned plain unsigned proxies_unsigned pairs_fit proxies_fit =
          let fit = kept (λ (p : Pair). fits p dictionary) pairs_fit in
          let same = attributes_again ∙ signed_octets dictionary secret code id authenticator content division divided in
          any_none (parts (attributes_of octets))
          (ap (λ (os : List ℕ). signatures (parts os)) same
          ∙ no_signature dictionary secret code id authenticator content division divided unsigned proxies_unsigned fit.before fit.after proxies_fit plain _)
