-- The instances of an attribute in a list: the pairs with its id, in order.
use Rattle.std.specs.Prelude.{Bool, not, List, [], ◌∷◌, Option, None, Some, filter}
use Rattle.std.specs.List.{list_any}
use Rattle.avp_lists.specs.declared.pairs.AttrId.{AttrId}
use Rattle.avp_lists.specs.declared.pairs.Pair.{Pair}
use Rattle.avp_lists.specs.Pairs.{id_eq}

-- the pair is an instance of the id
abbrev pub has_id : AttrId → Pair → Bool
has_id id q = id_eq q.id id

-- it is of another id
abbrev pub is_other : AttrId → Pair → Bool
is_other id q = not (has_id id q)

-- the instances of the id, in order
abbrev pub instances : AttrId → List Pair → List Pair
instances id pairs = filter (has_id id) pairs

-- the id has an instance
abbrev pub has_instance : AttrId → List Pair → Bool
has_instance id pairs = list_any (has_id id) pairs

-- the first pair of a list, if there is one
abbrev pub front : List Pair → Option Pair
front [] = None
front (q ∷ _) = Some q

-- the first instance of the id, if there is one
abbrev pub first_instance : AttrId → List Pair → Option Pair
first_instance id pairs = front (instances id pairs)
