-- The first that passes a test is the front of those that pass it.
use Rattle.std.proofs.Common.{◌≡◌, Bool, true, false, cond, List, [], ◌∷◌, Some, refl}
use Rattle.std.specs.List.{filter, find}
use Rattle.avp_lists.specs.declared.pairs.Pair.{Pair}
use Rattle.avp_lists.specs.Instances.{front}

pub find-front : (p : Pair → Bool) (xs : List Pair) → find p xs ≡ front (filter p xs)
find-front p [] = refl
find-front p (x ∷ xs) =
    elim (p x) as (λ b. cond b (Some x) (find p xs) ≡ front (cond b (x ∷ filter p xs) (filter p xs))) [ true ↦ refl | false ↦ find-front p xs ]
