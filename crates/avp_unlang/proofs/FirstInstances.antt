-- What holds of each pair of a list holds of a first instance.
use Rattle.std.proofs.Common.{◌≡◌, Bool, true, false, cond, List, [], ◌∷◌, Some, filter, sym, subst}
use Rattle.std.specs.Prelude.{IfSome, IsTrue, All}
use Rattle.std.proofs.lemmas.List.Elements.{All-head, All-tail}
use Rattle.avp_lists.specs.Instances.{first_instance, front, has_id}
use Rattle.avp_lists.specs.Selections.{first_selected_instance}
use Rattle.avp_lists.specs.States.{list_of}
use Rattle.avp_lists.specs.Tags.{is_selected}
use Rattle.avp_lists.specs.declared.tags.Selection.{Selection}
use Rattle.avp_lists.specs.declared.pairs.AttrId.{AttrId}
use Rattle.avp_lists.specs.declared.pairs.Pair.{Pair}
use Rattle.avp_lists.specs.declared.lists.List.{List as Name}
use Rattle.avp_lists.specs.declared.lists.State.{State}
use Rattle.avp_dict.specs.Limits.{fits}
use Rattle.avp_dict.specs.Dictionary.{Dictionary}
use Rattle.avp_unlang.specs.Resolutions.{StateFits}

pub first_holds : (P : Pair → Type 0) (id : AttrId) (pairs : List Pair) → All P pairs → IfSome (first_instance id pairs) P
first_holds P id [] h = tt
first_holds P id (p ∷ ps) h =
    elim (has_id id p) as (λ b. IfSome (front (cond b (p ∷ filter (has_id id) ps) (filter (has_id id) ps))) P) [
      | true ↦ All-head P p ps h
      | false ↦ first_holds P id ps (All-tail P p ps h)
    ]

-- the same of the first of the instances that a selection means
pub first_of_holds : (P : Pair → Type 0) (f : Pair → Bool) (pairs : List Pair) → All P pairs → IfSome (front (filter f pairs)) P
first_of_holds P f [] h = tt
first_of_holds P f (p ∷ ps) h =
    elim (f p) as (λ b. IfSome (front (cond b (p ∷ filter f ps) (filter f ps))) P) [
      | true ↦ All-head P p ps h
      | false ↦ first_of_holds P f ps (All-tail P p ps h)
    ]

pub selected_fits : (dictionary : Dictionary) (s : State) (list : Name) (id : AttrId) (selection : Selection) (pair : Pair) → StateFits dictionary s → Some pair ≡ first_selected_instance selection id (list_of list s) → IsTrue (fits pair dictionary)
selected_fits dictionary s list id selection pair h e =
    let P : Pair → Type 0 = λ p. IsTrue (fits p dictionary) in
    subst (λ o. IfSome o P) (sym e) (first_of_holds P (is_selected selection id) (list_of list s) (h list))

-- a first instance fits where each pair does
pub first_fits : (dictionary : Dictionary) (s : State) (list : Name) (id : AttrId) (pair : Pair) → StateFits dictionary s → Some pair ≡ first_instance id (list_of list s) → IsTrue (fits pair dictionary)
first_fits dictionary s list id pair h e =
    let P : Pair → Type 0 = λ p. IsTrue (fits p dictionary) in
    subst (λ o. IfSome o P) (sym e) (first_holds P id (list_of list s) (h list))
