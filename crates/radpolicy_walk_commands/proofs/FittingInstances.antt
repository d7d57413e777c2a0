-- The instances of an attribute: in lists that fit the dictionary they fit it too, and they are those of each pair.
use Rattle.std.proofs.Common.{◌≡◌, ℕ, zero, suc, ◌+◌, Bool, true, false, if◌then◌else◌, IsTrue, List, [], ◌∷◌, ◌++◌, Option, Some, None, take, refl, sym, ap, ◌∙◌, subst, arith}
use Rattle.std.specs.List.{All, slice_get}
use Rattle.std.proofs.lemmas.List.{append_assoc}
use Rattle.std.proofs.lemmas.List.Elements.{All-filter}
use Rattle.avp_lists.specs.Instances.{has_id, instances}
use Rattle.avp_lists.specs.States.{list_of}
use Rattle.avp_lists.specs.declared.lists.List.{List as Name}
use Rattle.avp_lists.specs.declared.lists.List.TheVariants.{Control, Reply, Request}
use Rattle.avp_lists.specs.declared.lists.State.{State}
use Rattle.avp_lists.specs.declared.pairs.AttrId.{AttrId}
use Rattle.avp_lists.specs.declared.pairs.Pair.{Pair}
use Rattle.avp_dict.specs.Dictionary.{Dictionary}
use Rattle.avp_dict.specs.Limits.{fits}
use Rattle.avp_unlang.specs.Resolutions.{StateFits}
use Rattle.radpolicy_common.specs.ChangeTexts.{AllFit}
use Rattle.radpolicy_walk_commands.specs.Histories.{instances_of}

module _ (d : Dictionary) (id : AttrId) where
  abbrev AllOf : List Pair → Type 0
  AllOf pairs = All (λ pair. IsTrue (fits pair d)) pairs

  list_fits : (pairs found : List Pair) → found ≡ instances id pairs → AllOf pairs → AllOf found
  list_fits pairs found e h = subst AllOf (sym e) (All-filter (has_id id) (λ pair. IsTrue (fits pair d)) pairs h)

instances_in_fit : (d : Dictionary) (id : AttrId) (lists : State) → StateFits d lists → StateFits d (instances_of id lists)
instances_in_fit d id lists h Request = list_fits d id lists.request (instances id lists.request) refl (h Request)
instances_in_fit d id lists h Reply = list_fits d id lists.reply (instances id lists.reply) refl (h Reply)
instances_in_fit d id lists h Control = list_fits d id lists.control (instances id lists.control) refl (h Control)

pub instances_fit : (d : Dictionary) (id : AttrId) (lists found : State) → found ≡ instances_of id lists → StateFits d lists → StateFits d found
instances_fit d id lists found e h = subst (λ (x : State). StateFits d x) (sym e) (instances_in_fit d id lists h)

pub list_instances_fit : (d : Dictionary) (id : AttrId) (list : Name) (lists : State) (found : List Pair) → found ≡ instances id (list_of list lists) → StateFits d lists → AllFit d found
list_instances_fit d id list lists found e h = list_fits d id (list_of list lists) found e (h list)

-- ---- gathered one after another

-- the instance that an item is, and of none nothing
abbrev pub of_item : AttrId → Option Pair → List Pair
of_item id None = []
of_item id (Some pair) = instances id (pair ∷ [])

first_or_none : (is_first : Bool) (pair : Pair) (rest : List Pair) → (if is_first then pair ∷ rest else rest) ≡ (if is_first then pair ∷ [] else []) ++ rest
first_or_none true pair rest = refl
first_or_none false pair rest = refl

first_apart : (id : AttrId) (pair : Pair) (pairs : List Pair) → instances id (pair ∷ pairs) ≡ instances id (pair ∷ []) ++ instances id pairs
first_apart id pair pairs = first_or_none (has_id id pair) pair (instances id pairs)

next : (id : AttrId) (pairs : List Pair) (n : ℕ) → instances id (take (suc n) pairs) ≡ instances id (take n pairs) ++ of_item id (slice_get pairs n)
next id [] zero = refl
next id [] (suc n) = refl
next id (pair ∷ pairs) zero = refl
next id (pair ∷ pairs) (suc n) =
    let one = of_item id (slice_get pairs n) in
    first_apart id pair (take (suc n) pairs) ∙ ap (λ rest. instances id (pair ∷ []) ++ rest) (next id pairs n)
    ∙ sym (append_assoc (instances id (pair ∷ [])) (instances id (take n pairs)) one) ∙ ap (λ front. front ++ one) (sym (first_apart id pair (take n pairs)))

pub one_more : (id : AttrId) (pairs : List Pair) (n : ℕ) → instances id (take (n + 1) pairs) ≡ instances id (take n pairs) ++ of_item id (slice_get pairs n)
one_more id pairs n =
    let e : suc n ≡ n + 1 = omega arith in
    subst (λ (k : ℕ). instances id (take k pairs) ≡ instances id (take n pairs) ++ of_item id (slice_get pairs n)) e (next id pairs n)

pub joined : (before after front more : List Pair) → after ≡ before ++ more → before ≡ front → after ≡ front ++ more
joined before after front more e f = e ∙ ap (λ xs. xs ++ more) f
