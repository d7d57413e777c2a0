-- The octets of a name, sixteen at a time.
use Rattle.std.proofs.Common.{zero, suc, ◌≡◌, ◌∙◌, ℕ, ◌-◌, ◌<◌, ◌≤◌, Bool, true, false, ◌&&◌, List, [], ◌∷◌, ◌++◌, length, replicate, slice_index, take, drop, refl, sym, ap, arith}
use Rattle.std.specs.List.{list_all}
use Rattle.std.proofs.lemmas.List.{drop-drop, length-append, length-drop, take-append-drop, take_all}
use Rattle.std.proofs.lemmas.List.Folds.{list_all-append}
use Rattle.std.proofs.lemmas.Simd.{length-replicate}

parted : (q : ℕ → Bool) (n : ℕ) (octets : List ℕ) → list_all q octets ≡ (list_all q (take n octets) && list_all q (drop n octets))
parted q n octets = ap (list_all q) (sym (take-append-drop n octets)) ∙ list_all-append q (take n octets) (drop n octets)

-- sixteen octets that pass are left out
pub sixteen_passed : (q : ℕ → Bool) (octets : List ℕ) → list_all q (take 16 octets) ≡ true → list_all q octets ≡ list_all q (drop 16 octets)
sixteen_passed q octets pass = parted q 16 octets ∙ ap (λ b. b && list_all q (drop 16 octets)) pass

pub sixteen_failed : (q : ℕ → Bool) (octets : List ℕ) → list_all q (take 16 octets) ≡ false → list_all q octets ≡ false
sixteen_failed q octets fail = parted q 16 octets ∙ ap (λ b. b && list_all q (drop 16 octets)) fail

-- where some are left out, and as many again may be looked at twice
both_ways : (all front window more left : Bool) → all ≡ (front && window) → window ≡ (more && left) → all ≡ left → window ≡ all
both_ways all front window more true is_all is_window is_left = at front window is_all
  where
    at : (f w : Bool) → all ≡ (f && w) → w ≡ all
    at true w is = sym is
    at false true is = sym is_left
    at false false is = sym is
both_ways all front window true false is_all is_window is_left = is_window ∙ sym is_left
both_ways all front window false false is_all is_window is_left = is_window ∙ sym is_left

pub last_sixteen : (q : ℕ → Bool) (name left : List ℕ) → 16 ≤ length name → length left ≤ 16 → left ≡ drop (length name - length left) name → list_all q name ≡ list_all q left → list_all q (take 16 (drop (length name - 16) name)) ≡ list_all q name
last_sixteen q name left long short is same =
    let i = length name - 16 in
    let window = drop i name in
    let n = 16 - length left in
    let whole : take 16 window ≡ window = take_all 16 window (omega (arith, length-drop i name)) in
    let rest : left ≡ drop n window = is ∙ ap (λ k. drop k name) (omega arith) ∙ sym (drop-drop n i name) in
    ap (list_all q) whole ∙ both_ways (list_all q name) (list_all q (take i name)) (list_all q window) (list_all q (take n window)) (list_all q left) (parted q i name) (parted q n window ∙ ap (λ xs. list_all q (take n window) && list_all q xs) (sym rest)) same

repeated : (q : ℕ → Bool) (o n : ℕ) → q o ≡ true → list_all q (replicate n o) ≡ true
repeated q o zero is = refl
repeated q o (suc n) is = rw is (repeated q o n is)

-- a name with its first octet after it
pub filled_up : (q : ℕ → Bool) (name : List ℕ) → 0 < length name → length name ≤ 16 → list_all q (take 16 (name ++ replicate (16 - length name) (slice_index name 0))) ≡ list_all q name
filled_up q [] some short = absurd (omega arith)
filled_up q (o ∷ os) some short =
    let n = 16 - length (o ∷ os) in
    let all = take_all 16 ((o ∷ os) ++ replicate n o) (omega (arith, length-append (o ∷ os) (replicate n o), length-replicate n o)) in
    ap (list_all q) all ∙ list_all-append q (o ∷ os) (replicate n o) ∙ at (q o) refl
  where
    at : (b : Bool) → q o ≡ b → ((q o && list_all q os) && list_all q (replicate (16 - length (o ∷ os)) o)) ≡ (q o && list_all q os)
    at true is = ap (λ b. (q o && list_all q os) && b) (repeated q o (16 - length (o ∷ os)) is) ∙ last (q o && list_all q os)
      where
        last : (b : Bool) → (b && true) ≡ b
        last true = refl
        last false = refl
    at false is = rw is refl

-- what a slice from a place on is
pub from_place : (n : ℕ) (octets : List ℕ) → take (length octets - n) (drop n octets) ≡ drop n octets
from_place n octets = take_all (length octets - n) (drop n octets) (omega (arith, length-drop n octets))

-- the end of a name, without its first sixteen octets
pub shorter_end : (name left : List ℕ) → 16 ≤ length left → length left ≤ length name → left ≡ drop (length name - length left) name → drop 16 left ≡ drop (length name - length (drop 16 left)) name
shorter_end name left some within is =
    let j = length name - length left in
    ap (drop 16) is ∙ drop-drop 16 j name ∙ ap (λ k. drop k name) (omega (arith, length-drop 16 left))
