-- The records and the octets of pairs: one list after another, and a list that is read place by place.
use Rattle.std.proofs.Common.{◌≡◌, ℕ, zero, suc, ◌+◌, List, [], ◌∷◌, ◌++◌, Option, Some, None, take, length, refl, sym, ap, subst, ◌∙◌, arith}
use Rattle.std.specs.List.{slice_get}
use Rattle.std.proofs.lemmas.Grind.{flat_map-append}
use Rattle.std.proofs.lemmas.List.{append_assoc, length-append}
use Rattle.avp_dict.specs.Dictionary.{Dictionary}
use Rattle.avp_forms.specs.declared.profiles.Profile.{Profile}
use Rattle.avp_lists.specs.declared.pairs.Pair.{Pair}
use Rattle.radpolicy_c.specs.Pairs.{octets_told, pair_octets, pair_told, pairs_told}
use Rattle.radpolicy_c.specs.declared.pairs.RadpolicyPair.{RadpolicyPair}

-- ---- one list after another

pub records_append : (at : ℕ) (p : Profile) (d : Dictionary) (xs ys : List Pair)
    → pairs_told at p d (xs ++ ys) ≡ pairs_told at p d xs ++ pairs_told (at + length (octets_told p d xs)) p d ys
records_append at p d [] ys =
    let e : at ≡ at + 0 = omega arith in ap (λ (n : ℕ). pairs_told n p d ys) e
records_append at p d (x ∷ xs) ys =
    let l = length (pair_octets p d x) in
    let e : at + l + length (octets_told p d xs) ≡ at + length (pair_octets p d x ++ octets_told p d xs) =
    omega (arith, length-append (pair_octets p d x) (octets_told p d xs)) in
    ap (λ (rs : List RadpolicyPair). pair_told at p d x ∷ rs) (records_append (at + l) p d xs ys
    ∙ ap (λ (n : ℕ). pairs_told (at + l) p d xs ++ pairs_told n p d ys) e)

-- the octets and the records are those of the pairs before, and then those of more pairs
pub grown : (p : Profile) (d : Dictionary) (xs ys : List Pair) (o o' : List ℕ) (r r' : List RadpolicyPair)
    → o ≡ octets_told p d xs → r ≡ pairs_told 0 p d xs
    → o' ≡ o ++ octets_told p d ys → r' ≡ r ++ pairs_told (length o) p d ys
    → (o' ≡ octets_told p d (xs ++ ys)) × (r' ≡ pairs_told 0 p d (xs ++ ys))
grown p d xs ys o o' r r' e f e' f' =
    let z : length (octets_told p d xs) ≡ 0 + length (octets_told p d xs) = omega arith in (
      e' ∙ ap (λ (t : List ℕ). t ++ octets_told p d ys) e ∙ sym (flat_map-append (pair_octets p d) xs ys),
      f' ∙ ap (λ (t : List RadpolicyPair). t ++ pairs_told (length o) p d ys) f
          ∙ ap (λ (t : List ℕ). pairs_told 0 p d xs ++ pairs_told (length t) p d ys) e
          ∙ ap (λ (n : ℕ). pairs_told 0 p d xs ++ pairs_told n p d ys) z
          ∙ sym (records_append 0 p d xs ys),
    )

-- ---- place by place

-- what is at a place, as a list
abbrev pub found : {X : Type 0} → Option X → List X
found None = []
found (Some x) = x ∷ []

next : {X : Type 0} (xs : List X) (n : ℕ) → take (suc n) xs ≡ take n xs ++ found (slice_get xs n)
next [] zero = refl
next [] (suc n) = refl
next (x ∷ xs) zero = refl
next (x ∷ xs) (suc n) = ap (λ (ys : List _). x ∷ ys) (next xs n)

one_more : {X : Type 0} (xs : List X) (n : ℕ) → take (n + 1) xs ≡ take n xs ++ found (slice_get xs n)
one_more xs n =
    let e : suc n ≡ n + 1 = omega arith in
    subst (λ (k : ℕ). take k xs ≡ take n xs ++ found (slice_get xs n)) e (next xs n)

-- the octets and the records of the pairs before a place, and then those of what is there
pub placed : (p : Profile) (d : Dictionary) (xs : List Pair) (n : ℕ) (x : Option Pair) (first o o' : List ℕ) (front r r' : List RadpolicyPair)
    → slice_get xs n ≡ x
    → o ≡ first ++ octets_told p d (take n xs) → r ≡ front ++ pairs_told (length first) p d (take n xs)
    → o' ≡ o ++ octets_told p d (found x) → r' ≡ r ++ pairs_told (length o) p d (found x)
    → (o' ≡ first ++ octets_told p d (take (n + 1) xs)) × (r' ≡ front ++ pairs_told (length first) p d (take (n + 1) xs))
placed p d xs n x first o o' front r r' is e f e' f' =
    let before : List Pair = take n xs in
    let more : before ++ found x ≡ take (n + 1) xs = ap (λ (y : Option Pair). before ++ found y) (sym is) ∙ sym (one_more xs n) in
    let at : length o ≡ length first + length (octets_told p d before) = ap length e ∙ length-append first (octets_told p d before) in (
      e' ∙ ap (λ (t : List ℕ). t ++ octets_told p d (found x)) e
          ∙ append_assoc first (octets_told p d before) (octets_told p d (found x))
          ∙ ap (λ (t : List ℕ). first ++ t) (sym (flat_map-append (pair_octets p d) before (found x)))
          ∙ ap (λ (ys : List Pair). first ++ octets_told p d ys) more,
      f' ∙ ap (λ (t : List RadpolicyPair). t ++ pairs_told (length o) p d (found x)) f
          ∙ append_assoc front (pairs_told (length first) p d before) (pairs_told (length o) p d (found x))
          ∙ ap (λ (m : ℕ). front ++ (pairs_told (length first) p d before ++ pairs_told m p d (found x))) at
          ∙ ap (λ (t : List RadpolicyPair). front ++ t) (sym (records_append (length first) p d before (found x)))
          ∙ ap (λ (ys : List Pair). front ++ pairs_told (length first) p d ys) more,
    )
