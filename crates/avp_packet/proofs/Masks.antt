-- Masks over blocks, and back.
use Rattle.std.proofs.Common.{◌≡◌, ◌∙◌, ℕ, zero, suc, ◌+◌, ◌*◌, ◌/◌, ◌<◌, ◌≤◌, List, [], ◌∷◌, ◌++◌, length, get_or, set, take, drop, refl, ap, arith, add-one, bit_xor}
use lib.Bits.{xor_assoc, xor_self, xor_zero_l}
use Rattle.std.proofs.lemmas.List.{length-append, length-take, length-drop, take_at, drop_at, take-append-drop}
use Rattle.avp_packet.specs.Hiding.{masked, hidden_blocks, shown_blocks}
use Rattle.md5.specs.Md5.{md5}
use Rattle.md5.proofs.StandardFacts.{length-md5}

masked_at : (mask block : List ℕ) (i : ℕ) → i < length mask → i < length block
    → set (masked (take i mask) (take i block) ++ drop i mask) i (bit_xor (get_or (masked (take i mask) (take i block) ++ drop i mask) i 0) (get_or block i 0)) ≡ masked (take (suc i) mask) (take (suc i) block) ++ drop (suc i) mask
masked_at [] block i h k = absurd (omega arith)
masked_at (m ∷ ms) [] i h k = absurd (omega arith)
masked_at (m ∷ ms) (b ∷ bs) zero h k = refl
masked_at (m ∷ ms) (b ∷ bs) (suc i) h k = ap (λ (xs : List ℕ). bit_xor m b ∷ xs) (masked_at ms bs i (omega arith) (omega arith))

-- one octet more under the mask
pub masked_more : (mask block octets : List ℕ) (i : ℕ) → i < length mask → i < length block → octets ≡ masked (take i mask) (take i block) ++ drop i mask
    → set octets i (bit_xor (get_or octets i 0) (get_or block i 0)) ≡ masked (take (i + 1) mask) (take (i + 1) block) ++ drop (i + 1) mask
masked_more mask block octets i h k e = rw (e, add-one) (masked_at mask block i h k)

-- a mask takes itself away
masked-masked : (mask os : List ℕ) → length os ≤ length mask → masked mask (masked mask os) ≡ os
masked-masked [] [] h = refl
masked-masked [] (o ∷ os) h = absurd (omega arith)
masked-masked (m ∷ ms) [] h = refl
masked-masked (m ∷ ms) (o ∷ os) h = rw (← xor_assoc, xor_self, xor_zero_l, masked-masked ms os (omega arith))

length-masked : (mask os : List ℕ) → length os ≤ length mask → length (masked mask os) ≡ length os
length-masked [] [] h = refl
length-masked [] (o ∷ os) h = absurd (omega arith)
length-masked (m ∷ ms) [] h = refl
length-masked (m ∷ ms) (o ∷ os) h = ap suc (length-masked ms os (omega arith))

-- ---- one block more

more_blocks : (os : List ℕ) → 16 ≤ length os → length os / 16 ≡ suc (length (drop 16 os) / 16)
more_blocks os h = let e = length-drop 16 os in omega arith

no_blocks : (os : List ℕ) → length os < 16 → length os / 16 ≡ 0
no_blocks os h = omega arith

pub hidden_blocks_more : (secret before os : List ℕ) → 16 ≤ length os → hidden_blocks (length os / 16) secret before os ≡ masked (md5 (secret ++ before)) (take 16 os) ++ hidden_blocks (length (drop 16 os) / 16) secret (masked (md5 (secret ++ before)) (take 16 os)) (drop 16 os)
unfolding hidden_blocks
hidden_blocks_more secret before os h = ap (λ n. hidden_blocks n secret before os) (more_blocks os h)

pub hidden_blocks_none : (secret before os : List ℕ) → length os < 16 → hidden_blocks (length os / 16) secret before os ≡ []
unfolding hidden_blocks
hidden_blocks_none secret before os h = ap (λ n. hidden_blocks n secret before os) (no_blocks os h)

pub shown_blocks_more : (secret before os : List ℕ) → 16 ≤ length os → shown_blocks (length os / 16) secret before os ≡ masked (md5 (secret ++ before)) (take 16 os) ++ shown_blocks (length (drop 16 os) / 16) secret (take 16 os) (drop 16 os)
unfolding shown_blocks
shown_blocks_more secret before os h = ap (λ n. shown_blocks n secret before os) (more_blocks os h)

pub shown_blocks_none : (secret before os : List ℕ) → length os < 16 → shown_blocks (length os / 16) secret before os ≡ []
unfolding shown_blocks
shown_blocks_none secret before os h = ap (λ n. shown_blocks n secret before os) (no_blocks os h)

-- ---- hidden blocks shown

length-first : (n : ℕ) (os : List ℕ) → length os ≡ 16 * suc n → length (take 16 os) ≡ 16
length-first n os h = let e = length-take 16 os in omega arith

length-rest : (n : ℕ) (os : List ℕ) → length os ≡ 16 * suc n → length (drop 16 os) ≡ 16 * n
length-rest n os h = let e = length-drop 16 os in omega arith

length-block : (secret before os : List ℕ) (n : ℕ) → length os ≡ 16 * suc n → length (masked (md5 (secret ++ before)) (take 16 os)) ≡ 16
length-block secret before os n h =
    let m = length-md5 (secret ++ before) in
    let f = length-first n os h in
    length-masked (md5 (secret ++ before)) (take 16 os) (omega arith) ∙ f

pub length-hidden_blocks : (n : ℕ) (secret before os : List ℕ) → length os ≡ 16 * n → length (hidden_blocks n secret before os) ≡ 16 * n
unfolding hidden_blocks
length-hidden_blocks zero secret before os h = refl
length-hidden_blocks (suc n) secret before os h =
    let block : List ℕ = masked (md5 (secret ++ before)) (take 16 os) in
    let first : length block ≡ 16 = length-block secret before os n h in
    let others = length-hidden_blocks n secret block (drop 16 os) (length-rest n os h) in
    let both = length-append block (hidden_blocks n secret block (drop 16 os)) in
    omega arith

pub shown_blocks-hidden_blocks : (n : ℕ) (secret before os : List ℕ) → length os ≡ 16 * n → shown_blocks n secret before (hidden_blocks n secret before os) ≡ os
unfolding hidden_blocks shown_blocks
shown_blocks-hidden_blocks zero secret before [] h = refl
shown_blocks-hidden_blocks zero secret before (o ∷ os) h = absurd (omega arith)
shown_blocks-hidden_blocks (suc n) secret before os h =
    let mask : List ℕ = md5 (secret ++ before) in
    let block : List ℕ = masked mask (take 16 os) in
    let first : length block ≡ 16 = length-block secret before os n h in
    let m : length mask ≡ 16 = length-md5 (secret ++ before) in
    let f = length-first n os h in
    let others : List ℕ = hidden_blocks n secret block (drop 16 os) in
    rw (take_at block others 16 first, drop_at block others 16 first, masked-masked mask (take 16 os) (omega arith), shown_blocks-hidden_blocks n secret block (drop 16 os) (length-rest n os h))
    (take-append-drop 16 os)
