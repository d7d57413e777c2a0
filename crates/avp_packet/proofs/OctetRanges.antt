-- Numbers below 256: what is hidden and shown, and what values are read from.
use Rattle.std.proofs.Common.{◌≡◌, ◌∙◌, ℕ, zero, suc, ◌+◌, ◌/◌, ◌^◌, ◌<◌, ◌≤◌, true, false, ◌==◌, nat_le, cond, List, [], ◌∷◌, ◌++◌, length, take, drop, get_or, Some, None, refl, sym, ap, arith, lit≤}
use Rattle.std.specs.Prelude.{IfSome}
use Rattle.std.specs.Int.{bytes_low_first, byte_at, from_be_bytes, to_be_bytes, to_le_bytes, w8, w16, w32, w64, cast_signed}
use Rattle.std.specs.Int.Digits.{AllBelowBase, number_from_digits}
use Rattle.std.specs.List.{list_all}
use Rattle.std.proofs.lemmas.Bool.{false≢true}
use Rattle.std.proofs.lemmas.Grind.{common_steps}
use Rattle.std.proofs.lemmas.Int.{of_z-to_z}
use Rattle.std.proofs.lemmas.Int.Digits.{number_lt}
use Rattle.std.proofs.lemmas.List.{length-append, take-append-drop}
use Rattle.std.proofs.lemmas.Nat.{be_bytes_2, be_bytes_4, be_bytes_8, xor_of_8}
use Rattle.md5.specs.Md5.{digest_bytes, md5}
use Rattle.avp_lists.specs.declared.pairs.Value.{Value}
use Rattle.avp_lists.specs.declared.pairs.Value.TheVariants.{Int, Signed, Addr, Ether}
use Rattle.avp_dict.specs.declared.entries.Kind.{Kind}
use Rattle.avp_dict.specs.declared.entries.Kind.TheVariants as kinds
use Rattle.avp_dict.specs.Limits.{is_of_kind}
use Rattle.avp_dict.specs.Octets.{ends_in_nul, is_hideable, is_nul, octets_of, of_length, value_read, max_hidden_octets}
use Rattle.avp_dict.specs.Sent.{is_block_length}
use Rattle.avp_dict.proofs.NumberOctets.{eight_octets}
use Rattle.avp_packet.specs.Hiding.{masked, shown, shown_blocks, shown_by, without_last_nuls}
use Rattle.avp_packet.proofs.Nuls.{last_of_more}
use Rattle.avp_packet.proofs.Tests.{by_test}

abbrev pub AreBytes : List ℕ → Type 0
AreBytes os = AllBelowBase 256 os

pub bytes_by_index : (os : List ℕ) → ((i : ℕ) → get_or os i 0 < 256) → AreBytes os
bytes_by_index [] h = tt
bytes_by_index (o ∷ os) h = (h 0, bytes_by_index os (λ i. h (suc i)))

index_of_bytes : (os : List ℕ) → AreBytes os → (i : ℕ) → get_or os i 0 < 256
index_of_bytes [] h i = omega arith
index_of_bytes (o ∷ os) h zero = h.0
index_of_bytes (o ∷ os) h (suc i) = index_of_bytes os h.1 i

pub bytes-append : (xs ys : List ℕ) → AreBytes xs → AreBytes ys → AreBytes (xs ++ ys)
bytes-append [] ys h k = k
bytes-append (x ∷ xs) ys h k = (h.0, bytes-append xs ys h.1 k)

pub bytes-take : (n : ℕ) (os : List ℕ) → AreBytes os → AreBytes (take n os)
bytes-take zero os h = tt
bytes-take (suc n) [] h = tt
bytes-take (suc n) (o ∷ os) h = (h.0, bytes-take n os h.1)

pub bytes-drop : (n : ℕ) (os : List ℕ) → AreBytes os → AreBytes (drop n os)
bytes-drop zero os h = h
bytes-drop (suc n) [] h = tt
bytes-drop (suc n) (o ∷ os) h = bytes-drop n os h.1

-- ---- hiding

byte_small : (i n : ℕ) → byte_at i n < 256
byte_small zero n = omega arith
byte_small (suc i) n = omega arith

bytes-low_first : (i k n : ℕ) → AreBytes (bytes_low_first i k n)
bytes-low_first i zero n = tt
bytes-low_first i (suc k) n = (byte_small i n, bytes-low_first (suc i) k n)

bytes-digest_bytes : (h : List ℕ) (n : ℕ) → AreBytes (digest_bytes h n)
unfolding digest_bytes
bytes-digest_bytes h zero = tt
bytes-digest_bytes h (suc n) = bytes-append (digest_bytes h n) (to_le_bytes w32 (get_or h n 0)) (bytes-digest_bytes h n) (bytes-low_first 0 4 (get_or h n 0))

bytes-md5 : (m : List ℕ) → AreBytes (md5 m)
unfolding md5
bytes-md5 m = bytes-digest_bytes _ 4

bytes-masked : (mask os : List ℕ) → AreBytes mask → AreBytes os → AreBytes (masked mask os)
bytes-masked [] os h k = tt
bytes-masked (m ∷ mask) [] h k = tt
bytes-masked (m ∷ mask) (o ∷ os) h k = (xor_of_8 m o h.0 k.0, bytes-masked mask os h.1 k.1)

masked-short : (mask os : List ℕ) → length (masked mask os) ≤ length os
masked-short [] os = omega arith
masked-short (m ∷ mask) [] = omega arith
masked-short (m ∷ mask) (o ∷ os) = let h = masked-short mask os in omega arith

bytes-shown_blocks : (n : ℕ) (secret before os : List ℕ) → AreBytes os → AreBytes (shown_blocks n secret before os)
unfolding shown_blocks
bytes-shown_blocks zero secret before os h = tt
bytes-shown_blocks (suc n) secret before os h =
    bytes-append (masked (md5 (secret ++ before)) (take 16 os)) (shown_blocks n secret (take 16 os) (drop 16 os)) (bytes-masked (md5 (secret ++ before)) (take 16 os) (bytes-md5 (secret ++ before)) (bytes-take 16 os h))
    (bytes-shown_blocks n secret (take 16 os) (drop 16 os) (bytes-drop 16 os h))

shown_blocks-short : (n : ℕ) (secret before os : List ℕ) → length (shown_blocks n secret before os) ≤ length os
unfolding shown_blocks
shown_blocks-short zero secret before os = omega arith
shown_blocks-short (suc n) secret before os =
    let a = masked-short (md5 (secret ++ before)) (take 16 os) in
    let b = shown_blocks-short n secret (take 16 os) (drop 16 os) in
    let d = length-append (masked (md5 (secret ++ before)) (take 16 os)) (shown_blocks n secret (take 16 os) (drop 16 os)) in
    let e = ap length (take-append-drop 16 os) in
    let f = length-append (take 16 os) (drop 16 os) in
    omega arith

bytes-without : (os : List ℕ) → AreBytes os → AreBytes (without_last_nuls os)
unfolding without_last_nuls
bytes-without [] h = tt
bytes-without (o ∷ os) h = by_test (AreBytes (cond (list_all is_nul (o ∷ os)) [] (o ∷ without_last_nuls os))) (list_all is_nul (o ∷ os)) (λ e. rw e tt) (λ e. rw e (h.0, bytes-without os h.1))

without-short : (os : List ℕ) → length (without_last_nuls os) ≤ length os
unfolding without_last_nuls
without-short [] = omega arith
without-short (o ∷ os) = let k = without-short os in by_test (length (cond (list_all is_nul (o ∷ os)) [] (o ∷ without_last_nuls os)) ≤ length (o ∷ os)) (list_all is_nul (o ∷ os)) (λ e. rw e (omega arith)) (λ e. rw e (omega arith))

-- where nothing is left there were NULs alone
none_left : (os : List ℕ) → without_last_nuls os ≡ [] → list_all is_nul os ≡ true
unfolding without_last_nuls
none_left [] h = refl
none_left (o ∷ os) h = by_test (list_all is_nul (o ∷ os) ≡ true) (list_all is_nul (o ∷ os)) (λ e. e) (λ e. let made : o ∷ without_last_nuls os ≡ [] = rw e at h in absurd (cons_some o (without_last_nuls os) made))
  where
    cons_some : (x : ℕ) (xs : List ℕ) → x ∷ xs ≡ [] → ⊥
    cons_some x xs e = omega (arith, ap length e)

without-ends : (os : List ℕ) → ends_in_nul (without_last_nuls os) ≡ false
unfolding without_last_nuls
without-ends [] = refl
without-ends (o ∷ os) =
    by_test (ends_in_nul (cond (list_all is_nul (o ∷ os)) [] (o ∷ without_last_nuls os)) ≡ false) (list_all is_nul (o ∷ os))
    (λ e. rw e refl)
    (λ e. rw e (go (without_last_nuls os) refl (without-ends os) e))
  where
    go : (xs : List ℕ) → without_last_nuls os ≡ xs → ends_in_nul xs ≡ false → list_all is_nul (o ∷ os) ≡ false → ends_in_nul (o ∷ xs) ≡ false
    go [] made h e =
        let all = none_left os made in
        by_test (ends_in_nul (o ∷ []) ≡ false) (is_nul o) (λ n. absurd (false≢true (sym e ∙ rw (n, all)))) (λ n. n)
    go (x ∷ xs) made h e = last_of_more o x xs ∙ h

pub record IsShown (os password : List ℕ) : Type 0 where
  pub bytes : AreBytes password
  pub short : length password ≤ length os
  pub hideable : is_hideable password ≡ true

-- what hidden octets are shown as can be hidden
pub shown_holds : (secret authenticator os : List ℕ) → AreBytes os → IfSome (shown secret authenticator os) (IsShown os)
unfolding shown
shown_holds secret authenticator os h =
    let made : List ℕ = shown_blocks (length os / 16) secret authenticator os in
    let a = without-short made in
    let b = shown_blocks-short (length os / 16) secret authenticator os in
    by_test (IfSome (cond (is_block_length (length os)) (Some (without_last_nuls made)) None) (IsShown os)) (is_block_length (length os))
    (λ e.
    let most : length os ≤ max_hidden_octets = grind (arith, common_steps) in
    let low : nat_le (length (without_last_nuls made)) max_hidden_octets ≡ true = grind (arith, common_steps) in
    rw e (record {
      bytes = bytes-without made (bytes-shown_blocks (length os / 16) secret authenticator os h);
      short = omega arith;
      hideable = rw (low, without-ends made);
    }))
    (λ e. rw e tt)

pub shown_by_holds : (secret authenticator os : List ℕ) → AreBytes os → IfSome (shown_by secret authenticator os) (IsShown os)
shown_by_holds [] authenticator os h = tt
shown_by_holds (s ∷ secret) authenticator os h = shown_holds (s ∷ secret) authenticator os h

-- ---- values read

-- a value read has its octets, and is of the type
pub record IsRead (kind : Kind) (os : List ℕ) (v : Value) : Type 0 where
  pub octets : octets_of (Some kind) v ≡ os
  pub typed : is_of_kind v kind ≡ true

two_octets : (os : List ℕ) → length os ≡ 2 → number_from_digits 256 os ≡ from_be_bytes w16 os
two_octets (a ∷ b ∷ []) h = omega arith
two_octets _ h = absurd (omega arith)

four_octets : (os : List ℕ) → length os ≡ 4 → number_from_digits 256 os ≡ from_be_bytes w32 os
four_octets (a ∷ b ∷ c ∷ d ∷ []) h = omega arith
four_octets _ h = absurd (omega arith)

all_eight : (os : List ℕ) → length os ≡ 8 → number_from_digits 256 os ≡ from_be_bytes w64 os
all_eight (a ∷ b ∷ c ∷ d ∷ e ∷ f ∷ g ∷ i ∷ []) h = sym (eight_octets a b c d e f g i)
all_eight _ h = absurd (omega arith)

one_octet : (os : List ℕ) → length os ≡ 1 → AreBytes os → to_be_bytes w8 (number_from_digits 256 os) ≡ os
one_octet (a ∷ []) h k = ap (λ n. n ∷ []) (let small : a < 256 = k.0 in omega arith)
one_octet _ h k = absurd (omega arith)

number_below : (os : List ℕ) (n : ℕ) → AreBytes os → length os ≡ n → number_from_digits 256 os < 256 ^ n
number_below os n bytes same =
    let below = number_lt 256 os bytes in
    rw (← same) below

number_within : (os : List ℕ) (n most : ℕ) → AreBytes os → length os ≡ n → 256 ^ n ≤ most + 1 → nat_le (number_from_digits 256 os) most ≡ true
number_within os n most bytes same room =
    let small = number_below os n bytes same in
    let le : number_from_digits 256 os ≤ most = omega arith in
    grind (arith, common_steps)

when_long : (kind : Kind) (n : ℕ) (value : List ℕ → Value) (os : List ℕ) → (length os ≡ n → IsRead kind os (value os)) → IfSome (of_length n value os) (IsRead kind os)
when_long kind n value os f =
    by_test (IfSome (cond (length os == n) (Some (value os)) None) (IsRead kind os)) (length os == n)
    (λ e. let same : length os ≡ n = grind (arith, common_steps) in rw e (f same))
    (λ e. rw e tt)

pub octets_read : (kind : Kind) (os : List ℕ) → AreBytes os → IfSome (value_read kind os) (IsRead kind os)
octets_read kinds.Text os h = record { octets = refl; typed = refl }
octets_read kinds.Bytes os h = record { octets = refl; typed = refl }
octets_read kinds.Addr os h = when_long kinds.Addr 4 Addr os (λ same. record { octets = refl; typed = refl })
octets_read kinds.Ether os h = when_long kinds.Ether 6 Ether os (λ same. record { octets = refl; typed = refl })
octets_read kinds.Byte os h = when_long kinds.Byte 1 (λ xs. Int (number_from_digits 256 xs)) os (λ same. record { octets = one_octet os same h; typed = number_within os 1 255 h same (lit≤ tt) })
octets_read kinds.Short os h = when_long kinds.Short 2 (λ xs. Int (number_from_digits 256 xs)) os (λ same. record { octets = be_bytes_2 os (number_from_digits 256 os) same (index_of_bytes os h) (two_octets os same); typed = number_within os 2 65535 h same (lit≤ tt) })
octets_read kinds.Integer os h = when_long kinds.Integer 4 (λ xs. Int (number_from_digits 256 xs)) os (λ same. record { octets = be_bytes_4 os (number_from_digits 256 os) same (index_of_bytes os h) (four_octets os same); typed = number_within os 4 4294967295 h same (lit≤ tt) })
octets_read kinds.Date os h = when_long kinds.Date 4 (λ xs. Int (number_from_digits 256 xs)) os (λ same. record { octets = be_bytes_4 os (number_from_digits 256 os) same (index_of_bytes os h) (four_octets os same); typed = number_within os 4 4294967295 h same (lit≤ tt) })
octets_read kinds.Integer64 os h = when_long kinds.Integer64 8 (λ xs. Int (number_from_digits 256 xs)) os (λ same. record { octets = be_bytes_8 os (number_from_digits 256 os) same (index_of_bytes os h) (all_eight os same); typed = number_within os 8 18446744073709551615 h same (lit≤ tt) })
octets_read kinds.Signed os h = when_long kinds.Signed 4 (λ xs. Signed (cast_signed w32 (number_from_digits 256 xs))) os (λ same.
    let small = number_below os 4 h same in
    record {
      octets = ap (to_be_bytes w32) (of_z-to_z w32 (number_from_digits 256 os) (omega arith)) ∙ be_bytes_4 os (number_from_digits 256 os) same (index_of_bytes os h) (four_octets os same);
      typed = refl;
    })
