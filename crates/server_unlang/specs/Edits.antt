-- What the operators of an `update` make of a whole list.
use Rattle.std.specs.Prelude.{ℕ, Bool, nat_lt, if◌then◌else◌, length, List, [], ◌∷◌, ◌++◌}
use Rattle.std.specs.List.{after_first, before_first, insert, position}
use Rattle.std.specs.Option.{unwrap_or}
use Rattle.avp_lists.specs.Instances.{has_id}
use Rattle.avp_lists.specs.Operators.{agrees, apply}
use Rattle.avp_lists.specs.Pairs.{id_eq}
use Rattle.avp_lists.specs.declared.edits.Op.{Op}
use Rattle.avp_lists.specs.declared.edits.Op.TheVariants.{Replace, KeepEqual}
use Rattle.avp_lists.specs.declared.pairs.AttrId.{AttrId}
use Rattle.avp_lists.specs.declared.pairs.Pair.{Pair}
use Rattle.server_unlang.specs.declared.edits.Walk.{Walk}
use Rattle.server_unlang.specs.declared.edits.Walk.TheVariants.{Head, Passed, Later}

-- what comes before the first instance, then p, then all that comes after it, later instances too; without an instance
-- p is at the tail (`map_to_request`, map.c)
abbrev pub replace_first : Pair → List Pair → List Pair
replace_first p pairs =
    before_first (has_id p.id) pairs ++ p ∷ after_first (has_id p.id) pairs

-- ---- `==`

abbrev pub is_id : AttrId → AttrId → Bool
is_id id other = id_eq other id

-- the place of an attribute among those of the server
abbrev pub rank : List AttrId → AttrId → ℕ
rank order id = unwrap_or (position (is_id id) order) (length order)

-- q's attribute is a later one than p's
abbrev pub is_later : List AttrId → Pair → Pair → Bool
is_later order p q = nat_lt (rank order p.id) (rank order q.id)

-- p before the first pair of a later attribute
abbrev pub put_sorted : List AttrId → Pair → List Pair → List Pair
put_sorted order p pairs =
    insert pairs (unwrap_or (position (is_later order p) pairs) (length pairs)) p

-- one pair after the other
abbrev pub sorted_onto : List AttrId → List Pair → List Pair → List Pair
sorted_onto order made [] = made
sorted_onto order made (p ∷ pairs) = sorted_onto order (put_sorted order p made) pairs

-- by attribute, instances of one in their order (`fr_pair_list_sort`, lib/pair.c)
abbrev pub sorted : List AttrId → List Pair → List Pair
sorted order pairs = sorted_onto order [] pairs

-- where one is removed at the head, the pair after it is passed over (`fr_cursor_remove`, lib/cursor.c)
abbrev pub after_removal : Walk → Walk
after_removal Head = Passed
after_removal Passed = Later
after_removal Later = Later

-- what stays of a sorted list: pairs of other attributes, those that are equal to p, and what is passed over
abbrev pub kept : Pair → Walk → List Pair → List Pair
kept p at [] = []
kept p Passed (q ∷ qs) = q ∷ kept p Later qs
kept p at (q ∷ qs) =
    if agrees p q then q ∷ kept p Later qs else kept p (after_removal at) qs

-- ---- all of them

-- what an operator with the pair p makes of a list (`map_to_request`, map.c): all but `:=` and `==` are ours
abbrev pub server_apply : List AttrId → Op → Pair → List Pair → List Pair
server_apply order Replace p pairs = replace_first p pairs
server_apply order KeepEqual p pairs = kept p Head (sorted order pairs)
server_apply order op p pairs = apply op p pairs
