-- Lists and ends of runs that pass the test are the same, and only those.
use Rattle.std.proofs.Common.{◌≡◌, ℕ, ◌==◌, ◌∙◌, ◌↔◌, Bool, true, false, ◌&&◌, ◌||◌, if◌then◌else◌, List, [], ◌∷◌, ◌++◌, cond, refl, sym, ap}
use Rattle.std.specs.List.{fold, list_all, list_any}
use Rattle.std.proofs.lemmas.Bool.Decides.{Decides-eqb}
use Rattle.std.proofs.lemmas.List.Folds.{list_any-append}
use Rattle.avp_lists.specs.Instances.{instances}
use Rattle.avp_lists.specs.Pairs.{id_eq, pair_eq}
use Rattle.avp_lists.specs.declared.pairs.AttrId.{AttrId}
use Rattle.avp_lists.specs.declared.pairs.Pair.{Pair}
use Rattle.avp_lists.proofs.Equality.{pair_eq-same, same_pair, id_eq-same, same_id}
use Rattle.radpolicy_record_answers.specs.Comparisons.{AreSame, AreSameEnds, code_number, compared_list, ids_of, pairs_eq, same_code, same_ends, same_instances, same_list, same_lists, same_stop, with_id}
use Rattle.avp_lists.specs.declared.lists.List.TheVariants.{Control, Reply}
use Rattle.avp_unlang.specs.Meaning.{Outcome as End}
use Rattle.avp_unlang.specs.declared.codes.Code.{Code}
use Rattle.avp_unlang.specs.declared.codes.Code.TheVariants as code
use Rattle.radpolicy_record_answers.specs.declared.comparisons.Comparison.{Comparison}
use Rattle.radpolicy_record_answers.specs.declared.comparisons.Order.{Order}
use Rattle.radpolicy_record_answers.specs.declared.comparisons.Order.TheVariants.{ByName, Ordered}

both : (a b : Bool) → (a && b) ≡ true → (a ≡ true) × (b ≡ true)
both true b h = (refl, h)
both false b h = cc

pub equal_pairs : (a b : List Pair) → pairs_eq a b ≡ true → a ≡ b
equal_pairs [] [] h = refl
equal_pairs [] (q ∷ qs) h = cc
equal_pairs (p ∷ ps) [] h = cc
equal_pairs (p ∷ ps) (q ∷ qs) h =
    let parts = both (pair_eq p q) (pairs_eq ps qs) h in
    ap (λ (x : Pair). x ∷ ps) (same_pair p q parts.0) ∙ ap (λ (xs : List Pair). q ∷ xs) (equal_pairs ps qs parts.1)

pairs_eq-same : (a : List Pair) → pairs_eq a a ≡ true
pairs_eq-same [] = refl
pairs_eq-same (p ∷ ps) = rw (pair_eq-same p, pairs_eq-same ps) refl

pub pairs_eq-of : (a b : List Pair) → a ≡ b → pairs_eq a b ≡ true
pairs_eq-of a b e = ap (pairs_eq a) (sym e) ∙ pairs_eq-same a

-- ---- by name

neither : (x y : Bool) → (x || y) ≡ false → (x ≡ false) × (y ≡ false)
neither true y h = cc
neither false y h = (refl, h)

unlike : (a b : AttrId) → id_eq a b ≡ false → id_eq b a ≡ false
unlike a b h =
    elim (id_eq b a) as (λ r. id_eq b a ≡ r → r ≡ false) [
      | true ↦ λ e. let yes : id_eq a b ≡ true = ap (λ (x : AttrId). id_eq a x) (same_id b a e) ∙ id_eq-same a in cc
      | false ↦ λ e. refl
    ] refl

-- an id that is not among those of another is another
apart : (id x : AttrId) (ids : List AttrId) → list_any (id_eq x) ids ≡ true → list_any (id_eq id) ids ≡ false → id_eq x id ≡ false
apart id x ids e h =
    elim (id_eq x id) as (λ r. id_eq x id ≡ r → r ≡ false) [
      | true ↦ λ same. let yes : list_any (id_eq id) ids ≡ true = ap (λ (y : AttrId). list_any (id_eq y) ids) (sym (same_id x id same)) ∙ e in cc
      | false ↦ λ same. refl
    ] refl

one_added : (id : AttrId) (ids : List AttrId) (p : Pair) → list_any (id_eq id) (with_id ids p) ≡ false → (list_any (id_eq id) ids ≡ false) × (id_eq p.id id ≡ false)
one_added id ids p =
    elim (list_any (id_eq p.id) ids) as (λ r. list_any (id_eq p.id) ids ≡ r → list_any (id_eq id) (if r then ids else ids ++ p.id ∷ []) ≡ false → (list_any (id_eq id) ids ≡ false) × (id_eq p.id id ≡ false)) [
      | true ↦ λ e h. (h, apart id p.id ids e h)
      | false ↦ λ e h.
          let parts = neither (list_any (id_eq id) ids) (list_any (id_eq id) (p.id ∷ [])) (sym (list_any-append (id_eq id) ids (p.id ∷ [])) ∙ h) in
          (parts.0, unlike id p.id (neither (id_eq id p.id) false parts.1).0)
    ] refl

-- an id that was not added has no instance
none_in : (id : AttrId) (ids : List AttrId) (ps : List Pair) → list_any (id_eq id) (fold with_id ids ps) ≡ false → (list_any (id_eq id) ids ≡ false) × (instances id ps ≡ [])
none_in id ids [] h = (h, refl)
none_in id ids (p ∷ ps) h =
    let later = none_in id (with_id ids p) ps h in
    let here = one_added id ids p later.0 in
    (here.0, ap (λ r. cond r (p ∷ instances id ps) (instances id ps)) here.1 ∙ later.1)

none_of : (id : AttrId) (a b : List Pair) → list_any (id_eq id) (ids_of a b) ≡ false → instances id a ≡ instances id b
none_of id a b h =
    let second = none_in id (fold with_id [] a) b h in
    let first = none_in id [] a second.0 in
    first.1 ∙ sym second.1

found_one : (f : AttrId → Bool) (id : AttrId) (ids : List AttrId) → list_any (id_eq id) ids ≡ true → list_all f ids ≡ true → f id ≡ true
found_one f id [] h all = cc
found_one f id (x ∷ xs) h all =
    elim (id_eq id x) as (λ r. id_eq id x ≡ r → (r || list_any (id_eq id) xs) ≡ true → f id ≡ true) [
      | true ↦ λ e rest. ap f (same_id id x e) ∙ (both (f x) (list_all f xs) all).0
      | false ↦ λ e rest. found_one f id xs rest (both (f x) (list_all f xs) all).1
    ] refl h

same_at : (a b : List Pair) → list_all (same_instances a b) (ids_of a b) ≡ true → (id : AttrId) → instances id a ≡ instances id b
same_at a b all id =
    elim (list_any (id_eq id) (ids_of a b)) as (λ r. list_any (id_eq id) (ids_of a b) ≡ r → instances id a ≡ instances id b) [
      | true ↦ λ e. equal_pairs (instances id a) (instances id b) (found_one (same_instances a b) id (ids_of a b) e all)
      | false ↦ λ e. none_of id a b e
    ] refl

all_same : (a b : List Pair) (ids : List AttrId) → ((id : AttrId) → instances id a ≡ instances id b) → list_all (same_instances a b) ids ≡ true
all_same a b [] same = refl
all_same a b (id ∷ ids) same = rw (pairs_eq-of (instances id a) (instances id b) (same id), all_same a b ids same) refl

-- ---- both ways

pub test_means : (order : Order) (a b : List Pair) → same_lists order a b ≡ true → AreSame order a b
unfolding same_lists
test_means Ordered a b h = equal_pairs a b h
test_means ByName a b h = same_at a b h

pub means_test : (order : Order) (a b : List Pair) → AreSame order a b → same_lists order a b ≡ true
unfolding same_lists
means_test Ordered a b same = pairs_eq-of a b same
means_test ByName a b same = all_same a b (ids_of a b) same

-- equal lists are the same
pub equal_at_ids : (a b : List Pair) → pairs_eq a b ≡ true → true ≡ list_all (same_instances a b) (ids_of a b)
equal_at_ids a b h = sym (all_same a b (ids_of a b) (λ id. ap (instances id) (equal_pairs a b h)))

pub lists_law : (same : Bool) (order : Order) (a b : List Pair) → same ≡ same_lists order a b → (same ≡ true) ↔ AreSame order a b
lists_law same order a b test = (λ is. test_means order a b (sym test ∙ is), λ are. test ∙ means_test order a b are)

-- ---- ends of runs

code_numbered : ℕ → Code
code_numbered n = if n == 0 then code.Ok else if n == 1 then code.Noop
    else if n == 2 then code.Updated else if n == 3 then code.Fail else code.Reject

numbered_back : (c : Code) → code_numbered (code_number c) ≡ c
unfolding code_numbered
numbered_back code.Ok = refl
numbered_back code.Noop = refl
numbered_back code.Updated = refl
numbered_back code.Fail = refl
numbered_back code.Reject = refl

codes_same : (a b : Code) → same_code a b ≡ true → a ≡ b
codes_same a b h =
    let numbers : code_number a ≡ code_number b = (Decides-eqb (code_number a) (code_number b)).0 h in
    sym (numbered_back a) ∙ ap code_numbered numbers ∙ numbered_back b

same_codes : (a b : Code) → a ≡ b → same_code a b ≡ true
same_codes a b same = (Decides-eqb (code_number a) (code_number b)).1 (ap code_number same)

stops_same : (a b : Bool) → same_stop a b ≡ true → a ≡ b
stops_same true true h = refl
stops_same true false h = cc
stops_same false true h = cc
stops_same false false h = refl

same_stops : (a b : Bool) → a ≡ b → same_stop a b ≡ true
same_stops true true same = refl
same_stops true false same = cc
same_stops false true same = cc
same_stops false false same = refl

pub ends_same : (comparison : Comparison) (old new : End) → same_ends comparison old new ≡ true → AreSameEnds comparison old new
unfolding same_ends
ends_same comparison old new h =
    let first = both (same_code old.code new.code && same_stop old.stopped new.stopped && same_list comparison Reply old new) (same_list comparison Control old new) h in
    let second = both (same_code old.code new.code && same_stop old.stopped new.stopped) (same_list comparison Reply old new) first.0 in
    let third = both (same_code old.code new.code) (same_stop old.stopped new.stopped) second.0 in
    record {
      code = codes_same old.code new.code third.0;
      stopped = stops_same old.stopped new.stopped third.1;
      reply = test_means comparison.order (compared_list comparison Reply old) (compared_list comparison Reply new) second.1;
      control = test_means comparison.order (compared_list comparison Control old) (compared_list comparison Control new) first.1;
    }

all_four : (a b c d : Bool) → a ≡ true → b ≡ true → c ≡ true → d ≡ true → (a && b && c && d) ≡ true
all_four a b c d p q r s = rw (p, q, r, s) refl

pub same_as_ends : (comparison : Comparison) (old new : End) → AreSameEnds comparison old new → same_ends comparison old new ≡ true
unfolding same_ends
same_as_ends comparison old new same =
    all_four (same_code old.code new.code) (same_stop old.stopped new.stopped) (same_list comparison Reply old new) (same_list comparison Control old new)
    (same_codes old.code new.code same.code) (same_stops old.stopped new.stopped same.stopped)
    (means_test comparison.order (compared_list comparison Reply old) (compared_list comparison Reply new) same.reply)
    (means_test comparison.order (compared_list comparison Control old) (compared_list comparison Control new) same.control)

pub ends_law : (same : Bool) (comparison : Comparison) (old new : End) → same ≡ same_ends comparison old new → (same ≡ true) ↔ AreSameEnds comparison old new
ends_law same comparison old new test = (λ is. ends_same comparison old new (sym test ∙ is), λ are. test ∙ same_as_ends comparison old new are)
