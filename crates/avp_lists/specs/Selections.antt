-- The operators of an update section over the instances that a selection means, and what they make of a state and of a
-- history. Over all instances they are those of `Operators`.
use Rattle.std.specs.Prelude.{◌≡◌, ◌<◌, Bool, not, ◌||◌, if◌then◌else◌, List, [], ◌∷◌, ◌++◌, Option, filter, length}
use Rattle.std.specs.List.{after_first, before_first, list_any}
use Rattle.avp_lists.specs.declared.pairs.AttrId.{AttrId}
use Rattle.avp_lists.specs.declared.pairs.Pair.{Pair}
use Rattle.avp_lists.specs.declared.edits.Edit.{Edit}
use Rattle.avp_lists.specs.declared.edits.Op.{Op}
use Rattle.avp_lists.specs.declared.edits.Op.TheVariants.{AddNew, Replace, Append, Prepend, RemoveEqual, KeepEqual, RemoveAll}
use Rattle.avp_lists.specs.declared.lists.State.{State}
use Rattle.avp_lists.specs.declared.tags.Selection.{Selection}
use Rattle.avp_lists.specs.declared.tags.Selection.TheVariants.{All}
use Rattle.avp_lists.specs.History.{History, after_edit, continued, present}
use Rattle.avp_lists.specs.Instances.{first_instance, front}
use Rattle.avp_lists.specs.Operators.{apply}
use Rattle.avp_lists.specs.States.{edited_list, list_of, max_pairs, with_list}
use Rattle.avp_lists.specs.Tags.{is_same, is_selected}

-- the pair is none of those that are meant
abbrev pub is_unselected : Selection → AttrId → Pair → Bool
is_unselected selection id q = not (is_selected selection id q)

-- one of the pairs is meant
abbrev pub has_selected : Selection → AttrId → List Pair → Bool
has_selected selection id pairs = list_any (is_selected selection id) pairs

-- the first of those that are meant, if there is one
abbrev pub first_selected_instance : Selection → AttrId → List Pair → Option Pair
first_selected_instance selection id pairs = front (filter (is_selected selection id) pairs)

-- q is not the same as p
abbrev pub differs_selected : Selection → Pair → Pair → Bool
differs_selected selection p q = not (is_same selection q p)

-- q is none of those that are meant, or the same as p
abbrev pub agrees_selected : Selection → Pair → Pair → Bool
agrees_selected selection p q = is_unselected selection p.id q || is_same selection q p

-- what comes before the first that is meant, then p, then the pairs after it that are not meant; where none is meant
-- all pairs come before it, so p is at the tail
abbrev pub replace_selected : Selection → Pair → List Pair → List Pair
replace_selected selection p pairs =
    before_first (is_selected selection p.id) pairs
    ++ p ∷ filter (is_unselected selection p.id) (after_first (is_selected selection p.id) pairs)

-- what an operator with the pair p makes of a list
abbrev pub apply_selected : Selection → Op → Pair → List Pair → List Pair
apply_selected selection AddNew p pairs =
    if has_selected selection p.id pairs then pairs else (pairs ++ p ∷ [])
apply_selected selection Replace p pairs = replace_selected selection p pairs
apply_selected selection Append p pairs = pairs ++ p ∷ []
apply_selected selection Prepend p pairs = p ∷ pairs
apply_selected selection RemoveEqual p pairs = filter (differs_selected selection p) pairs
apply_selected selection KeepEqual p pairs = filter (agrees_selected selection p) pairs
apply_selected selection RemoveAll p pairs = filter (is_unselected selection p.id) pairs

-- what the edit makes of the list that it names
abbrev pub edited_list_selected : Selection → Edit → State → List Pair
edited_list_selected selection e s = apply_selected selection e.op e.pair (list_of e.list s)

-- the state after the edit
abbrev pub edited_selected : Selection → Edit → State → State
edited_selected selection e s = with_list e.list (edited_list_selected selection e s) s

-- the edit would make a list too long
abbrev pub IsFullSelected : Selection → Edit → State → Type 0
IsFullSelected selection e s = max_pairs < length (edited_list_selected selection e s)

-- after the edit
abbrev pub after_edit_selected : Selection → Edit → History → History
after_edit_selected selection e h = continued (edited_selected selection e (present h)) h

-- over all instances each is what the definition of the same name without a selection is
abbrev pub AppliesToAll : Type 0
AppliesToAll =
    (op : Op) (p : Pair) (pairs : List Pair) → apply_selected All op p pairs ≡ apply op p pairs

abbrev pub EditsAll : Type 0
EditsAll = (e : Edit) (s : State) → edited_list_selected All e s ≡ edited_list e s

abbrev pub ContinuesAll : Type 0
ContinuesAll = (e : Edit) (h : History) → after_edit_selected All e h ≡ after_edit e h

abbrev pub FindsAll : Type 0
FindsAll =
    (id : AttrId) (pairs : List Pair)
    → first_selected_instance All id pairs ≡ first_instance id pairs
