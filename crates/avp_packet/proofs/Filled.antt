-- Octets filled in, in a packet whose head is written first.
use Rattle.std.proofs.Common.{codes, ◌≡◌, ◌∙◌, ℕ, ◌+◌, ◌≤◌, Bool, true, false, List, [], ◌∷◌, ◌++◌, length, take, drop, Option, Some, None, refl, sym, ap, arith, append-nil, append_assoc}
use Rattle.std.specs.Int.{to_be_bytes, w16}
use borrow.Rule.Slice.PartMut.{put_mid}
use Rattle.std.proofs.lemmas.List.{drop-drop, drop_all, drop_at, length-append, length-drop, length-take-le, take_all, take_at}
use Rattle.std.proofs.Math.Seq.{drop-append-add}
use Rattle.md5.specs.Md5.{block_words, compress, digest_bytes, hash_after, md5, rounds}
use Rattle.md5.proofs.StandardFacts.{length-md5}
use Rattle.avp_dict.specs.AttributeNumbers.{message_authenticator}
use Rattle.avp_packet.specs.AttributeOctets.{part}
use Rattle.avp_packet.specs.Hiding.{masked}
use Rattle.avp_packet.specs.Hmac.{hmac, inner_pad, key_block, outer_pad}
use Rattle.avp_packet.specs.Packets.{packet, zeros}
use Rattle.avp_packet.specs.Splitting.{part_octets}
use Rattle.avp_packet.specs.internal.Filling.{IsPlace, filled, place_if, signature_if, without_length}

-- octets in the place of as many others
pub put_in : (os : List ℕ) (place : ℕ) (filling : List ℕ) → place + length filling ≤ length os → (len k : ℕ) (now new : List ℕ) → len ≡ length os → k ≡ length filling → now ≡ os → new ≡ filling
    → take len (put_mid place k now new ++ drop (length (put_mid place k now new)) os) ≡ take place os ++ filling ++ drop (place + length filling) os
put_in os place filling within len k now new a b d e =
    let rest : List ℕ = drop (length filling) (drop place os) in
    let made : List ℕ = take place os ++ (filling ++ rest) in
    let front = length-take-le place os (omega arith) in
    let after = length-drop place os in
    let more = length-drop (length filling) (drop place os) in
    let both = length-append filling rest in
    let all = length-append (take place os) (filling ++ rest) in
    let size : length made ≡ length os = omega arith in
    let none : drop (length made) os ≡ [] = drop_all (length made) os (omega arith) in
    rw (a, b, d, e) (rw (none, append-nil made) (take_all (length os) made (omega arith) ∙ ap (λ (xs : List ℕ). take place os ++ (filling ++ xs)) (drop-drop (length filling) place os) ∙ sym (append_assoc (take place os) filling (drop (place + length filling) os))))

pub length-put : (os : List ℕ) (place : ℕ) (filling : List ℕ) → place + length filling ≤ length os → length (take place os ++ filling ++ drop (place + length filling) os) ≡ length os
length-put os place filling within =
    let front = length-take-le place os (omega arith) in
    let after = length-drop (place + length filling) os in
    let a = length-append (take place os) filling in
    let b = length-append (take place os ++ filling) (drop (place + length filling) os) in
    omega arith

-- a Message-Authenticator filled in behind its Type and Length
pub value_filled : (os : List ℕ) (place : ℕ) (signature : List ℕ) → place + 18 ≤ length os → filled os (Some place) zeros ≡ os → length signature ≡ 16
    → take (place + 2) os ++ signature ++ drop (place + 2 + length signature) os ≡ filled os (Some place) signature
value_filled os place signature within blank long =
    let front : List ℕ = take place os in
    let here = length-take-le place os (omega arith) in
    let both = length-append front (message_authenticator ∷ 18 ∷ []) in
    let rest : List ℕ = zeros ++ drop (place + 18) os in
    let whole : os ≡ (front ++ message_authenticator ∷ 18 ∷ []) ++ rest = sym blank ∙ regrouped front zeros (drop (place + 18) os) in
    let head : take (place + 2) os ≡ front ++ message_authenticator ∷ 18 ∷ [] = ap (take (place + 2)) whole ∙ take_at (front ++ message_authenticator ∷ 18 ∷ []) rest (place + 2) (omega arith) in
    let sum : place + 2 + length signature ≡ place + 18 = omega arith in
    let eighteen : 2 + length signature ≡ 18 = omega arith in
    rw (sum, head, eighteen) (append_assoc (front ++ message_authenticator ∷ 18 ∷ []) signature (drop (place + 18) os) ∙ sym (regrouped front signature (drop (place + 18) os)))
  where
    regrouped : (a b d : List ℕ) → a ++ (message_authenticator ∷ 18 ∷ b) ++ d ≡ (a ++ message_authenticator ∷ 18 ∷ []) ++ (b ++ d)
    regrouped a b d = simp append_assoc

pub length-filled : (os : List ℕ) (place : Option ℕ) (signature : List ℕ) → IsPlace (length os) place → length signature ≡ 16 → length (filled os place signature) ≡ length os
length-filled os None signature h e = refl
length-filled os (Some place) signature h e =
    let front = length-take-le place os (omega arith) in
    let rest = length-drop (place + 18) os in
    let a = length-append (take place os) (part_octets (part message_authenticator signature)) in
    let b = length-append (take place os ++ part_octets (part message_authenticator signature)) (drop (place + 18) os) in
    omega arith

-- a Message-Authenticator after the octets before it
pub filled_after : (before first middle last signature : List ℕ) (signed : Bool) (place : ℕ) → place ≡ length before + length first
    → filled (before ++ (first ++ signature_if signed zeros ++ middle ++ last)) (place_if signed place) signature ≡ before ++ (first ++ signature_if signed signature ++ middle ++ last)
filled_after before first middle last signature false place e = refl
filled_after before first middle last signature true place e =
    let front : List ℕ = before ++ first in
    let long : place ≡ length front = e ∙ sym (length-append before first) in
    let taken : take (length front) (front ++ (part_octets (part message_authenticator zeros) ++ (middle ++ last))) ≡ front = take_at front (part_octets (part message_authenticator zeros) ++ (middle ++ last)) (length front) refl in
    let dropped : drop (length front + 18) (front ++ (part_octets (part message_authenticator zeros) ++ (middle ++ last))) ≡ middle ++ last = drop-append-add front (part_octets (part message_authenticator zeros) ++ (middle ++ last)) 18 in
    rw (regrouped (part_octets (part message_authenticator zeros)), long, taken, dropped) (append_assoc front (part_octets (part message_authenticator signature)) (middle ++ last) ∙ sym (regrouped (part_octets (part message_authenticator signature))))
  where
    regrouped : (os : List ℕ) → before ++ (first ++ os ++ middle ++ last) ≡ (before ++ first) ++ (os ++ (middle ++ last))
    regrouped os = simp append_assoc

-- the Length of a packet filled in
pub length_in : (code id : ℕ) (authenticator attributes octets told new : List ℕ) → length authenticator ≡ 16 → octets ≡ without_length code id authenticator attributes → told ≡ to_be_bytes w16 (length octets)
    → new ≡ take 2 octets ++ told ++ drop (2 + length told) octets → new ≡ packet code id authenticator attributes
unfolding packet
length_in code id authenticator attributes octets told new long e t made =
    let size : length octets ≡ 20 + length attributes = ap length e ∙ omega (arith, length-append authenticator attributes) in
    rw (made, t, size, e) refl

-- another authenticator filled in
pub authenticator_in : (code id : ℕ) (authenticator others attributes octets new : List ℕ) → length authenticator ≡ 16 → length others ≡ 16 → octets ≡ packet code id others attributes
    → new ≡ take 4 octets ++ authenticator ++ drop (4 + length authenticator) octets → new ≡ packet code id authenticator attributes
unfolding packet
authenticator_in code id authenticator others attributes octets new long same e made =
    rw (made, e, long) (ap (λ (os : List ℕ). code ∷ id ∷ to_be_bytes w16 (20 + length attributes) ++ authenticator ++ os) (drop_at others attributes 16 same))

-- a signature filled into a packet
pub packet_filled : (code id : ℕ) (authenticator blank laid signature : List ℕ) (place : Option ℕ) → length authenticator ≡ 16 → length signature ≡ 16 → IsPlace (20 + length blank) place
    → ((before : List ℕ) → length before ≡ 20 → filled (before ++ blank) place signature ≡ before ++ laid)
    → filled (packet code id authenticator blank) place signature ≡ packet code id authenticator laid
unfolding packet
packet_filled code id authenticator blank laid signature place long sixteen within filling =
    let head = λ (n : ℕ). code ∷ id ∷ to_be_bytes w16 (20 + n) ++ authenticator in
    let before : List ℕ = head (length blank) in
    let size : length before ≡ 20 = omega (arith, long) in
    let all = length-append before blank in
    let there : IsPlace (length (before ++ blank)) place = rw (all, size) within in
    let kept = length-filled (before ++ blank) place signature there sixteen in
    let made = filling before size in
    let same : length laid ≡ length blank = omega (arith, kept, ap length made, all, length-append before laid) in
    ap (λ (os : List ℕ). filled os place signature) (append_assoc (code ∷ id ∷ to_be_bytes w16 (20 + length blank)) authenticator blank) ∙ made
    ∙ ap (λ (n : ℕ). head n ++ laid) (sym same) ∙ append_assoc (code ∷ id ∷ to_be_bytes w16 (20 + length laid)) authenticator laid

-- a head, and attributes after it with a blank Message-Authenticator
module _ (code id : ℕ) (authenticator head written : List ℕ) (laid : List ℕ → List ℕ) (place : Option ℕ) (long : length authenticator ≡ 16) (begun : head ≡ without_length code id authenticator []) (made : written ≡ head ++ laid zeros)
    (filling : (before signature : List ℕ) → length before ≡ length head → filled (before ++ laid zeros) place signature ≡ before ++ laid signature) (within : IsPlace (length written) place) where
  twenty : length head ≡ 20
  twenty = ap length begun ∙ omega (arith, long, length-append authenticator [])

  pub written_whole : written ≡ without_length code id authenticator (laid zeros)
  written_whole = made ∙ ap (λ (os : List ℕ). os ++ laid zeros) begun ∙ ap (λ (os : List ℕ). code ∷ id ∷ 0 ∷ 0 ∷ os ++ laid zeros) (append-nil authenticator)

  size : length written ≡ 20 + length (laid zeros)
  size = ap length made ∙ omega (arith, twenty, length-append head (laid zeros))

  pub filled_packet : (signature : List ℕ) → length signature ≡ 16 → filled (packet code id authenticator (laid zeros)) place signature ≡ packet code id authenticator (laid signature)
  filled_packet signature sixteen =
      let there : IsPlace (20 + length (laid zeros)) place = rw size at within in
      packet_filled code id authenticator (laid zeros) (laid signature) signature place long sixteen there (λ before e. filling before signature (e ∙ sym twenty))

  pub place_within : (whole : List ℕ) → whole ≡ packet code id authenticator (laid zeros) → IsPlace (length whole) place
  unfolding packet
  place_within whole e =
      let same : length whole ≡ length written = ap length e ∙ omega (arith, length-append authenticator (laid zeros), long, size) in
      rw same within

pub length-hmac : (key text : List ℕ) → length (hmac key text) ≡ 16
unfolding hmac
length-hmac key text = length-md5 (masked outer_pad (key_block key) ++ md5 (masked inner_pad (key_block key) ++ text))

-- the second test of RFC 2202, section 2, so that a wrong pad or padding in the definition does not check
pub hmac_of_jefe : hmac (codes "Jefe") (codes "what do ya want for nothing?") ≡ 117 ∷ 12 ∷ 120 ∷ 62 ∷ 106 ∷ 176 ∷ 181 ∷ 3 ∷ 234 ∷ 168 ∷ 110 ∷ 49 ∷ 10 ∷ 93 ∷ 183 ∷ 56 ∷ []
unfolding hmac block_words rounds compress hash_after digest_bytes md5
hmac_of_jefe = refl
