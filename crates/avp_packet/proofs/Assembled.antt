-- Packets as they are put together, and what is read of them again.
use Rattle.std.proofs.Common.{◌≡◌, ◌∙◌, ℕ, ◌+◌, ◌≤◌, true, nat_le, ◌==◌, List, [], ◌∷◌, ◌++◌, length, map, take, drop, refl, ap, arith}
use Rattle.std.proofs.lemmas.Grind.{common_steps}
use Rattle.std.proofs.lemmas.List.{length-append, take_at, drop_at, take_all}
use Rattle.md5.specs.Md5.{md5}
use Rattle.md5.proofs.StandardFacts.{length-md5}
use Rattle.avp_dict.specs.AttributeNumbers.{message_authenticator}
use Rattle.std.specs.Int.{to_be_bytes, w16}
use Rattle.std.specs.List.{flat_map}
use Rattle.std.specs.Str.{bytes_eq}
use Rattle.avp_lists.specs.declared.pairs.Value.TheVariants.{Text}
use Rattle.avp_lists.proofs.Equality.{value_eq-same}
use Rattle.avp_packet.specs.AttributeOctets.{part}
use Rattle.avp_packet.specs.Hmac.{hmac}
use Rattle.avp_packet.specs.Packets.{accounting_request, attributes_of, authenticator_of, digest_over, is_reply, length_of, packet, request_authenticator, zeros, max_packet_octets}
use Rattle.avp_packet.specs.Signed.{blanked, is_signed, signatures}
use Rattle.avp_packet.specs.Splitting.{left, part_octets, parts}
use Rattle.avp_packet.proofs.Tests.{by_test}

pub length-packet : (code id : ℕ) (authenticator attributes : List ℕ) → length authenticator ≡ 16 → length (packet code id authenticator attributes) ≡ 20 + length attributes
unfolding packet
length-packet code id authenticator attributes h =
    let a = length-append authenticator attributes in
    omega arith

pub length-digest_over : (code id : ℕ) (authenticator attributes secret : List ℕ) → length (digest_over code id authenticator attributes secret) ≡ 16
unfolding digest_over
length-digest_over code id authenticator attributes secret = length-md5 (packet code id authenticator attributes ++ secret)

pub length-request_authenticator : (code id : ℕ) (authenticator attributes secret : List ℕ) → length authenticator ≡ 16 → length (request_authenticator code id authenticator attributes secret) ≡ 16
length-request_authenticator code id authenticator attributes secret h =
    by_test (length (request_authenticator code id authenticator attributes secret) ≡ 16) (code == accounting_request) (λ e. rw e (length-digest_over code id zeros attributes secret)) (λ e. rw e h)

-- ---- a packet taken apart

module _ (code id : ℕ) (authenticator attributes : List ℕ) (long : length authenticator ≡ 16) (short : length attributes ≤ 4076) where
  pub length_of-packet : length_of (packet code id authenticator attributes) ≡ 20 + length attributes
  unfolding packet
  length_of-packet = omega arith

  pub authenticator_of-packet : authenticator_of (packet code id authenticator attributes) ≡ authenticator
  unfolding packet
  authenticator_of-packet = take_at authenticator attributes 16 long

  after_head : drop 20 (packet code id authenticator attributes) ≡ attributes
  unfolding packet
  after_head = drop_at authenticator attributes 16 long

  pub attributes_of-packet : attributes_of (packet code id authenticator attributes) ≡ attributes
  attributes_of-packet =
      let os : List ℕ = packet code id authenticator attributes in
      let all : take (length_of os) os ≡ os = take_all (length_of os) os (omega (arith, length_of-packet, length-packet code id authenticator attributes long)) in
      ap (drop 20) all ∙ after_head

  pub head-packet : take 4 (packet code id authenticator attributes) ≡ code ∷ id ∷ to_be_bytes w16 (20 + length attributes)
  unfolding packet
  head-packet = refl

over_request : (code id : ℕ) (request_authenticator attributes secret : List ℕ) → md5 (code ∷ id ∷ to_be_bytes w16 (20 + length attributes) ++ request_authenticator ++ attributes ++ secret) ≡ digest_over code id request_authenticator attributes secret
unfolding digest_over packet
over_request code id request_authenticator attributes secret = refl

same_octets : (os : List ℕ) → bytes_eq os os ≡ true
same_octets os = value_eq-same (Text os)

-- the digest in a reply's authenticator is the one that is looked for
pub is_reply-packet : (code id : ℕ) (request_authenticator attributes secret : List ℕ) → length attributes ≤ 4076
    → is_reply (packet code id (digest_over code id request_authenticator attributes secret) attributes) request_authenticator secret ≡ true
unfolding is_reply
is_reply-packet code id request_authenticator attributes secret short =
    let digest : List ℕ = digest_over code id request_authenticator attributes secret in
    let os : List ℕ = packet code id digest attributes in
    let long : length digest ≡ 16 = length-digest_over code id request_authenticator attributes secret in
    let size : length os ≡ 20 + length attributes = length-packet code id digest attributes long in
    let told : length_of os ≡ 20 + length attributes = length_of-packet code id digest attributes long short in
    let a : nat_le 20 (length os) ≡ true = grind (arith, common_steps) in
    let b : nat_le 20 (length_of os) ≡ true = grind (arith, common_steps) in
    let d : nat_le (length_of os) max_packet_octets ≡ true = grind (arith, common_steps) in
    let e : nat_le (length_of os) (length os) ≡ true = grind (arith, common_steps) in
    rw (a, b, d, e, head-packet code id digest attributes long short, attributes_of-packet code id digest attributes long short, authenticator_of-packet code id digest attributes long short)
    (ap (bytes_eq digest) (over_request code id request_authenticator attributes secret) ∙ same_octets digest)

-- the octets that sign are those that are looked for
pub is_signed-packet : (code id : ℕ) (own authenticator attributes blank signature secret : List ℕ) → length own ≡ 16 → length attributes ≤ 4076 → length blank ≡ length attributes → left attributes ≡ []
    → signatures (parts attributes) ≡ part message_authenticator signature ∷ [] → flat_map part_octets (map blanked (parts attributes)) ≡ blank → signature ≡ hmac secret (packet code id authenticator blank)
    → is_signed (packet code id own attributes) authenticator secret ≡ true
unfolding is_signed packet
is_signed-packet code id own authenticator attributes blank signature secret long short same whole one text made =
    let os : List ℕ = packet code id own attributes in
    let size : length os ≡ 20 + length attributes = length-packet code id own attributes long in
    let told : length_of os ≡ 20 + length attributes = length_of-packet code id own attributes long short in
    let apart : attributes_of os ≡ attributes = attributes_of-packet code id own attributes long short in
    let a : nat_le 20 (length os) ≡ true = grind (arith, common_steps) in
    let b : nat_le 20 (length_of os) ≡ true = grind (arith, common_steps) in
    let d : nat_le (length_of os) max_packet_octets ≡ true = grind (arith, common_steps) in
    let e : nat_le (length_of os) (length os) ≡ true = grind (arith, common_steps) in
    rw (a, b, d, e, apart, whole, one, text, ← same, ← made) (same_octets signature)
