-- The first instance of an attribute is the first pair that is found.
use Rattle.std.proofs.Common.{◌≡◌, Bool, true, false, List, [], ◌∷◌, Some, refl, cond, filter}
use Rattle.std.specs.List.{find}
use Rattle.avp_lists.specs.Instances.{first_instance, front, has_id}
use Rattle.avp_lists.specs.declared.pairs.AttrId.{AttrId}
use Rattle.avp_lists.specs.declared.pairs.Pair.{Pair}

pub find_first : (id : AttrId) (pairs : List Pair) → find (has_id id) pairs ≡ first_instance id pairs
find_first id [] = refl
find_first id (p ∷ ps) =
    elim (has_id id p) as (λ b. cond b (Some p) (find (has_id id) ps) ≡ front (cond b (p ∷ filter (has_id id) ps) (filter (has_id id) ps))) [
      | true ↦ refl
      | false ↦ find_first id ps
    ]
