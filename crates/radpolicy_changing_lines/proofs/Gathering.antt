-- The instances of an attribute are those of each pair, one after another.
use Rattle.std.proofs.Common.{◌≡◌, ℕ, zero, suc, ◌+◌, Bool, true, false, if◌then◌else◌, List, [], ◌∷◌, ◌++◌, Option, Some, None, take, refl, sym, ap, ◌∙◌, subst, arith}
use Rattle.std.specs.List.{slice_get}
use Rattle.std.proofs.lemmas.List.{append_assoc}
use Rattle.avp_lists.specs.Instances.{has_id, instances}
use Rattle.avp_lists.specs.declared.pairs.AttrId.{AttrId}
use Rattle.avp_lists.specs.declared.pairs.Pair.{Pair}

-- the instance that an item is, and of none nothing
abbrev pub of_item : AttrId → Option Pair → List Pair
of_item id None = []
of_item id (Some pair) = instances id (pair ∷ [])

first_or_none : (is_first : Bool) (pair : Pair) (rest : List Pair) → (if is_first then pair ∷ rest else rest) ≡ (if is_first then pair ∷ [] else []) ++ rest
first_or_none true pair rest = refl
first_or_none false pair rest = refl

first_apart : (id : AttrId) (pair : Pair) (pairs : List Pair) → instances id (pair ∷ pairs) ≡ instances id (pair ∷ []) ++ instances id pairs
first_apart id pair pairs = first_or_none (has_id id pair) pair (instances id pairs)

next : (id : AttrId) (pairs : List Pair) (n : ℕ) → instances id (take (suc n) pairs) ≡ instances id (take n pairs) ++ of_item id (slice_get pairs n)
next id [] zero = refl
next id [] (suc n) = refl
next id (pair ∷ pairs) zero = refl
next id (pair ∷ pairs) (suc n) =
    let one = of_item id (slice_get pairs n) in
    first_apart id pair (take (suc n) pairs) ∙ ap (λ rest. instances id (pair ∷ []) ++ rest) (next id pairs n)
    ∙ sym (append_assoc (instances id (pair ∷ [])) (instances id (take n pairs)) one) ∙ ap (λ front. front ++ one) (sym (first_apart id pair (take n pairs)))

pub one_more : (id : AttrId) (pairs : List Pair) (n : ℕ) → instances id (take (n + 1) pairs) ≡ instances id (take n pairs) ++ of_item id (slice_get pairs n)
one_more id pairs n =
    let e : suc n ≡ n + 1 = omega arith in
    subst (λ (k : ℕ). instances id (take k pairs) ≡ instances id (take n pairs) ++ of_item id (slice_get pairs n)) e (next id pairs n)

pub joined : (before after front more : List Pair) → after ≡ before ++ more → before ≡ front → after ≡ front ++ more
joined before after front more e f = e ∙ ap (λ xs. xs ++ more) f
