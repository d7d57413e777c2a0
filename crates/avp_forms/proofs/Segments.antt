-- Octets and the groups of two that they make.
use Rattle.std.proofs.Common.{◌≡◌, ℕ, zero, suc, ◌+◌, ◌*◌, ◌/◌, ◌%◌, ◌^◌, ◌<◌, List, [], ◌∷◌, length, get_or, refl, arith}
use Rattle.std.specs.Net.Addr.{octets_of, segments_of}
use Rattle.std.proofs.NetLemmas.Texts.{AllSegments}

abbrev pub AreOctets : List ℕ → Type 0
AreOctets os = (i : ℕ) → get_or os i 0 < 256

pub segments_back : (n : ℕ) (os : List ℕ) → length os ≡ 2 * n → AreOctets os → octets_of (segments_of os) ≡ os
segments_back zero [] e h = refl
segments_back zero (a ∷ os) e h = absurd (omega arith)
segments_back (suc n) [] e h = absurd (omega arith)
segments_back (suc n) (a ∷ []) e h = absurd (omega arith)
segments_back (suc n) (a ∷ b ∷ os) e h =
    let low : b < 256 = h 1 in
    let high : (a * 256 + b) / 256 ≡ a = omega arith in
    let rest : (a * 256 + b) % 256 ≡ b = omega arith in
    let more = segments_back n os (omega arith) (λ i. h (suc (suc i))) in
    rw (high, rest, more) refl

pub length-segments_of : (n : ℕ) (os : List ℕ) → length os ≡ 2 * n → length (segments_of os) ≡ n
length-segments_of zero [] e = refl
length-segments_of zero (a ∷ os) e = absurd (omega arith)
length-segments_of (suc n) [] e = absurd (omega arith)
length-segments_of (suc n) (a ∷ []) e = absurd (omega arith)
length-segments_of (suc n) (a ∷ b ∷ os) e =
    let more = length-segments_of n os (omega arith) in
    omega arith

pub segments_fit : (n : ℕ) (os : List ℕ) → length os ≡ 2 * n → AreOctets os → AllSegments (segments_of os)
segments_fit zero [] e h k = omega arith
segments_fit zero (a ∷ os) e h k = absurd (omega arith)
segments_fit (suc n) [] e h k = absurd (omega arith)
segments_fit (suc n) (a ∷ []) e h k = absurd (omega arith)
segments_fit (suc n) (a ∷ b ∷ os) e h k =
    let later = segments_fit n os (omega arith) (λ i. h (suc (suc i))) in
    let high : a < 256 = h 0 in
    let low : b < 256 = h 1 in
    elim k as (λ j. get_or ((a * 256 + b) ∷ segments_of os) j 0 < 2 ^ 16) [ zero ↦ omega arith | suc j ↦ later j ]
