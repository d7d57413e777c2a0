-- The first place at which an octet passes a test, as `memchr` finds it.
use Rattle.std.proofs.Common.{◌≡◌, ℕ, ◌<◌, Bool, true, false, nat_lt, List, length, get_or, Option, Some, None, refl, sym, arith}
use Rattle.std.specs.List.{position, position_or_len}
use Rattle.std.proofs.lemmas.Grind.{common_steps}
use Rattle.std.proofs.lemmas.List.Sums.{position_or_len_is}
use Rattle.memchr.specs.Find.{IsFirstByte}

fails : (b : Bool) → (b ≡ true → ⊥) → b ≡ false
fails true h = absurd (h refl)
fails false h = refl

pub first_place : (test : ℕ → Bool) (octets : List ℕ) (r : Option ℕ) → IsFirstByte test octets r → r ≡ position test octets
first_place test octets None none =
    let all : position_or_len test octets ≡ length octets = position_or_len_is test octets (length octets) 0 (omega arith) (λ k h. fails (test (get_or octets k 0)) (none k (omega arith) h)) (λ h. absurd (omega arith)) in
    let past : nat_lt (length octets) (length octets) ≡ false = grind (arith, common_steps) in
    sym (rw (all, past) refl)
first_place test octets (Some k) (at, passes) =
    let within : k < length octets = at.high in
    let first : position_or_len test octets ≡ k = position_or_len_is test octets k 0 (omega arith) (λ j h. fails (test (get_or octets j 0)) (at.before j (omega arith) h)) (λ h. passes) in
    let inside : nat_lt k (length octets) ≡ true = grind (arith, common_steps) in
    sym (rw (first, inside) refl)
