-- Conditions that are opened: their forms, and what they come to.
use Rattle.std.proofs.Common.{arith, ◌≡◌, ℕ, ◌≤◌, ◌<◌, nat_eq, length, get_or, IsTrue, Option, Some, None, is_some, true≢false, Bool, true, false, cond, List, [], ◌∷◌, ◌++◌, map, refl, sym, ap, ap₂, ◌∙◌, subst}
use Rattle.std.specs.List.{flat_map}
use Rattle.std.proofs.lemmas.Bool.{eqb-true}
use Rattle.avp_lists.specs.declared.lists.List.{List as Name}
use Rattle.avp_lists.specs.declared.lists.State.{State}
use Rattle.avp_lists.specs.declared.pairs.AttrId.{AttrId}
use Rattle.avp_dict.specs.Dictionary.{Dictionary}
use Rattle.avp_unlang.specs.Captures.{Captures}
use Rattle.avp_unlang.specs.Evaluations.{Evaluated, Evaluation, all_evaluated, any_evaluated, cond_evaluated, evaluated, negated}
use Rattle.avp_unlang.specs.declared.codes.Code.{Code}
use Rattle.avp_unlang.specs.declared.tree.Comparison.{Comparison}
use Rattle.avp_unlang.specs.declared.tree.Cond.{Cond}
use Rattle.avp_unlang.specs.declared.tree.Cond.TheFolds.{fold-roll-Cond, ind-Cond, map-Cond}
use Rattle.avp_unlang.specs.declared.tree.Cond.TheOpen.{Cond-F}
use Rattle.avp_unlang.specs.declared.tree.Cond.TheOpen as layer
use Rattle.avp_unlang.specs.declared.tree.Cond.TheVariants.{Any, All, Not, Last, Present, Compare, CompareTexts, Match, MatchText, MatchGroup, Captured, rolls-Any, rolls-All, rolls-Not, rolls-Last, rolls-Present, rolls-Compare, rolls-CompareTexts, rolls-Match, rolls-MatchText, rolls-MatchGroup, rolls-Captured}
use Rattle.avp_unlang.specs.declared.tree.Cond.TheViews.{out-Cond, out-roll-Cond, roll-Cond, roll-out-Cond}
use Rattle.avp_unlang.specs.declared.tree.GroupMatching.{GroupMatching}
use Rattle.avp_unlang.specs.declared.tree.Matching.{Matching}
use Rattle.avp_unlang.specs.declared.tree.TextComparison.{TextComparison}
use Rattle.radpolicy_import_conditions.specs.Opened.{opened, opened_layer, opened_parts, parts, parts_in}
use Rattle.radpolicy_import_conditions.specs.declared.printing.Join.{Join}
use Rattle.radpolicy_import_conditions.specs.declared.printing.Join.TheVariants.{And, Or}

-- ---- by the form of a condition

opened_as : (x : Cond-F Cond) (k : Cond) → k ≡ roll-Cond x → opened k ≡ opened_layer (map-Cond Cond Cond opened x)
unfolding opened
opened_as x k e = ap opened e ∙ fold-roll-Cond Cond opened_layer x

joined : (join : Join) (ks : List Cond) → flat_map (parts join) (map opened ks) ≡ flat_map (opened_parts join) ks
joined join [] = refl
joined join (k ∷ ks) = ap (λ z. opened_parts join k ++ z) (joined join ks)

pub opened_Any : (ks : List Cond) → opened (Any ks) ≡ Any (flat_map (opened_parts Or) ks)
opened_Any ks =
    opened_as (layer.Any ks) (Any ks) (sym (rolls-Any ks))
    ∙ rolls-Any (flat_map (parts Or) (map opened ks)) ∙ ap Any (joined Or ks)

pub opened_All : (ks : List Cond) → opened (All ks) ≡ All (flat_map (opened_parts And) ks)
opened_All ks =
    opened_as (layer.All ks) (All ks) (sym (rolls-All ks))
    ∙ rolls-All (flat_map (parts And) (map opened ks)) ∙ ap All (joined And ks)

pub opened_Not : (k : Cond) → opened (Not k) ≡ Not (opened k)
opened_Not k = opened_as (layer.Not k) (Not k) (sym (rolls-Not k)) ∙ rolls-Not (opened k)

pub opened_Last : (word : Code) → opened (Last word) ≡ Last word
opened_Last word = opened_as (layer.Last word) (Last word) (sym (rolls-Last word)) ∙ rolls-Last word

pub opened_Present : (list : Name) (id : AttrId) → opened (Present list id) ≡ Present list id
opened_Present list id = opened_as (layer.Present list id) (Present list id) (sym (rolls-Present list id)) ∙ rolls-Present list id

pub opened_Compare : (c : Comparison) → opened (Compare c) ≡ Compare c
opened_Compare c = opened_as (layer.Compare c) (Compare c) (sym (rolls-Compare c)) ∙ rolls-Compare c

pub opened_Match : (m : Matching) → opened (Match m) ≡ Match m
opened_Match m = opened_as (layer.Match m) (Match m) (sym (rolls-Match m)) ∙ rolls-Match m

pub opened_CompareTexts : (c : TextComparison) → opened (CompareTexts c) ≡ CompareTexts c
opened_CompareTexts c = opened_as (layer.CompareTexts c) (CompareTexts c) (sym (rolls-CompareTexts c)) ∙ rolls-CompareTexts c

pub opened_MatchText : (m : Matching) → opened (MatchText m) ≡ MatchText m
opened_MatchText m = opened_as (layer.MatchText m) (MatchText m) (sym (rolls-MatchText m)) ∙ rolls-MatchText m

pub opened_MatchGroup : (m : GroupMatching) → opened (MatchGroup m) ≡ MatchGroup m
opened_MatchGroup m = opened_as (layer.MatchGroup m) (MatchGroup m) (sym (rolls-MatchGroup m)) ∙ rolls-MatchGroup m

pub opened_Captured : (group : ℕ) → opened (Captured group) ≡ Captured group
opened_Captured group = opened_as (layer.Captured group) (Captured group) (sym (rolls-Captured group)) ∙ rolls-Captured group

-- one that is a condition opened, by their forms
module _ (k other : Cond) where
  pub told_Any : (ks os xs ys : List Cond) → k ≡ Any ks → other ≡ Any os → xs ≡ ks → ys ≡ os → ys ≡ flat_map (opened_parts Or) xs → other ≡ opened k
  told_Any ks os xs ys is are x y h =
      are ∙ ap Any (sym y ∙ h ∙ ap (flat_map (opened_parts Or)) x) ∙ sym (opened_Any ks) ∙ ap opened (sym is)

  pub told_All : (ks os xs ys : List Cond) → k ≡ All ks → other ≡ All os → xs ≡ ks → ys ≡ os → ys ≡ flat_map (opened_parts And) xs → other ≡ opened k
  told_All ks os xs ys is are x y h =
      are ∙ ap All (sym y ∙ h ∙ ap (flat_map (opened_parts And)) x) ∙ sym (opened_All ks) ∙ ap opened (sym is)

  pub told_Not : (p q x y : Cond) → k ≡ Not p → other ≡ Not q → x ≡ p → y ≡ q → y ≡ opened x → other ≡ opened k
  told_Not p q x y is are e f h = are ∙ ap Not (sym f ∙ h ∙ ap opened e) ∙ sym (opened_Not p) ∙ ap opened (sym is)

  pub told_Last : (a b : Code) → k ≡ Last a → other ≡ Last b → b ≡ a → other ≡ opened k
  told_Last a b is are h = are ∙ ap Last h ∙ sym (opened_Last a) ∙ ap opened (sym is)

  pub told_Present : (l m : Name) (i j : AttrId) → k ≡ Present l i → other ≡ Present m j → m ≡ l → j ≡ i → other ≡ opened k
  told_Present l m i j is are e f = are ∙ ap₂ Present e f ∙ sym (opened_Present l i) ∙ ap opened (sym is)

  pub told_Compare : (a b : Comparison) → k ≡ Compare a → other ≡ Compare b → b ≡ a → other ≡ opened k
  told_Compare a b is are h = are ∙ ap Compare h ∙ sym (opened_Compare a) ∙ ap opened (sym is)

  pub told_Match : (a b : Matching) → k ≡ Match a → other ≡ Match b → b ≡ a → other ≡ opened k
  told_Match a b is are h = are ∙ ap Match h ∙ sym (opened_Match a) ∙ ap opened (sym is)

  pub told_CompareTexts : (a b : TextComparison) → k ≡ CompareTexts a → other ≡ CompareTexts b → b ≡ a → other ≡ opened k
  told_CompareTexts a b is are h = are ∙ ap CompareTexts h ∙ sym (opened_CompareTexts a) ∙ ap opened (sym is)

  pub told_MatchText : (a b : Matching) → k ≡ MatchText a → other ≡ MatchText b → b ≡ a → other ≡ opened k
  told_MatchText a b is are h = are ∙ ap MatchText h ∙ sym (opened_MatchText a) ∙ ap opened (sym is)

  pub told_MatchGroup : (a b : GroupMatching) → k ≡ MatchGroup a → other ≡ MatchGroup b → b ≡ a → other ≡ opened k
  told_MatchGroup a b is are h = are ∙ ap MatchGroup h ∙ sym (opened_MatchGroup a) ∙ ap opened (sym is)

  pub told_Captured : (a b : ℕ) → k ≡ Captured a → other ≡ Captured b → b ≡ a → other ≡ opened k
  told_Captured a b is are h = are ∙ ap Captured h ∙ sym (opened_Captured a) ∙ ap opened (sym is)

-- ---- comparisons

pub same_comparisons : (a b : Comparison) → a.list ≡ b.list → a.id ≡ b.id → a.kind ≡ b.kind → a.relation ≡ b.relation → b.comparand ≡ a.comparand → b ≡ a
same_comparisons a b e f g h i =
    ap (λ z. record b { list = z }) (sym e) ∙ ap (λ z. record b { list = a.list; id = z }) (sym f)
    ∙ ap (λ z. record b { list = a.list; id = a.id; kind = z }) (sym g)
    ∙ ap (λ z. record b { list = a.list; id = a.id; kind = a.kind; relation = z }) (sym h)
    ∙ ap (λ z. record a { comparand = z }) i

pub same_matchings : (a b : Matching) → a.list ≡ b.list → a.id ≡ b.id → a.selection ≡ b.selection → a.negated ≡ b.negated → a.pattern ≡ b.pattern → a.flags ≡ b.flags → b ≡ a
same_matchings a b e f g h i j =
    ap (λ z. record b { list = z }) (sym e) ∙ ap (λ z. record b { list = a.list; id = z }) (sym f)
    ∙ ap (λ z. record b { list = a.list; id = a.id; selection = z }) (sym g)
    ∙ ap (λ z. record b { list = a.list; id = a.id; selection = a.selection; negated = z }) (sym h)
    ∙ ap (λ z. record b { list = a.list; id = a.id; selection = a.selection; negated = a.negated; pattern = z }) (sym i)
    ∙ ap (λ z. record a { flags = z }) (sym j)

pub same_group_matchings : (a b : GroupMatching) → a.group ≡ b.group → a.negated ≡ b.negated → b.pattern ≡ a.pattern → b.flags ≡ a.flags → b ≡ a
same_group_matchings a b e f g h =
    ap (λ z. record b { group = z }) (sym e) ∙ ap (λ z. record b { group = a.group; negated = z }) (sym f)
    ∙ ap (λ z. record b { group = a.group; negated = a.negated; pattern = z }) g
    ∙ ap (λ z. record a { flags = z }) h

pub same_text_comparisons : (a b : TextComparison) → b.left ≡ a.left → a.relation ≡ b.relation → b.right ≡ a.right → b ≡ a
same_text_comparisons a b e f g =
    ap (λ z. record b { left = z }) e ∙ ap (λ z. record b { left = a.left; relation = z }) (sym f)
    ∙ ap (λ z. record a { right = z }) g

-- ---- the one of a list

pub sole : {A : Type 0} (xs : List A) (x : A) → 1 ≤ length xs → length xs < 2 → x ≡ get_or xs 0 x → xs ≡ x ∷ []
sole [] x some few is = absurd (omega arith)
sole (y ∷ []) x some few is = ap (λ z. z ∷ []) (sym is)
sole (y ∷ z ∷ zs) x some few is = absurd (omega arith)

pub nothing : {A : Type 0} (xs : List A) → length xs < 1 → xs ≡ []
nothing [] few = refl
nothing (x ∷ xs) few = absurd (omega arith)

pub not_some : {A : Type 0} (o : Option A) → is_some o ≡ false → o ≡ None
not_some None h = refl
not_some (Some x) h = absurd (true≢false h)

pub nat_same : (m n : ℕ) → IsTrue (nat_eq m n) → n ≡ m
nat_same m n h = sym (eqb-true m n h)

-- ---- beside others

parts_roll : (join : Join) (x : Cond-F Cond) → parts join (roll-Cond x) ≡ parts_in join (roll-Cond x) x
parts_roll join x = ap (parts_in join (roll-Cond x)) (out-roll-Cond x)

pub parts_of_Any : (ks : List Cond) → opened_parts Or (Any ks) ≡ flat_map (opened_parts Or) ks
parts_of_Any ks =
    ap (parts Or) (opened_Any ks ∙ sym (rolls-Any (flat_map (opened_parts Or) ks)))
    ∙ parts_roll Or (layer.Any (flat_map (opened_parts Or) ks))

pub parts_of_All : (ks : List Cond) → opened_parts And (All ks) ≡ flat_map (opened_parts And) ks
parts_of_All ks =
    ap (parts And) (opened_All ks ∙ sym (rolls-All (flat_map (opened_parts And) ks)))
    ∙ parts_roll And (layer.All (flat_map (opened_parts And) ks))

-- one whose form gives one part
alone : (join : Join) (k : Cond) (y : Cond-F Cond) → opened k ≡ roll-Cond y → parts_in join (roll-Cond y) y ≡ roll-Cond y ∷ [] → opened_parts join k ≡ opened k ∷ []
alone join k y e single = ap (parts join) e ∙ parts_roll join y ∙ single ∙ ap (λ z. z ∷ []) (sym e)

module _ (k : Cond) where
  abbrev Alone : Join → Type 0
  Alone join = opened_parts join k ≡ opened k ∷ []

  in_or : (x : Cond-F Cond) → k ≡ roll-Cond x → ((ks : List Cond) → k ≡ Any ks → ⊥) → Alone Or
  in_or (layer.Any ks) e never = absurd (never ks (e ∙ rolls-Any ks))
  in_or (layer.All ks) e never = alone Or k (layer.All (flat_map (parts And) (map opened ks))) (opened_as (layer.All ks) k e) refl
  in_or (layer.Not part) e never = alone Or k (layer.Not (opened part)) (opened_as (layer.Not part) k e) refl
  in_or (layer.Last word) e never = alone Or k (layer.Last word) (opened_as (layer.Last word) k e) refl
  in_or (layer.Present list id) e never = alone Or k (layer.Present list id) (opened_as (layer.Present list id) k e) refl
  in_or (layer.PresentSelected list id tags) e never = alone Or k (layer.PresentSelected list id tags) (opened_as (layer.PresentSelected list id tags) k e) refl
  in_or (layer.Compare c) e never = alone Or k (layer.Compare c) (opened_as (layer.Compare c) k e) refl
  in_or (layer.CompareMeant c) e never = alone Or k (layer.CompareMeant c) (opened_as (layer.CompareMeant c) k e) refl
  in_or (layer.Match m) e never = alone Or k (layer.Match m) (opened_as (layer.Match m) k e) refl
  in_or (layer.CompareTexts m) e never = alone Or k (layer.CompareTexts m) (opened_as (layer.CompareTexts m) k e) refl
  in_or (layer.MatchText m) e never = alone Or k (layer.MatchText m) (opened_as (layer.MatchText m) k e) refl
  in_or (layer.MatchGroup m) e never = alone Or k (layer.MatchGroup m) (opened_as (layer.MatchGroup m) k e) refl
  in_or (layer.Captured group) e never = alone Or k (layer.Captured group) (opened_as (layer.Captured group) k e) refl

  in_and : (x : Cond-F Cond) → k ≡ roll-Cond x → ((ks : List Cond) → k ≡ All ks → ⊥) → Alone And
  in_and (layer.All ks) e never = absurd (never ks (e ∙ rolls-All ks))
  in_and (layer.Any ks) e never = alone And k (layer.Any (flat_map (parts Or) (map opened ks))) (opened_as (layer.Any ks) k e) refl
  in_and (layer.Not part) e never = alone And k (layer.Not (opened part)) (opened_as (layer.Not part) k e) refl
  in_and (layer.Last word) e never = alone And k (layer.Last word) (opened_as (layer.Last word) k e) refl
  in_and (layer.Present list id) e never = alone And k (layer.Present list id) (opened_as (layer.Present list id) k e) refl
  in_and (layer.PresentSelected list id tags) e never = alone And k (layer.PresentSelected list id tags) (opened_as (layer.PresentSelected list id tags) k e) refl
  in_and (layer.Compare c) e never = alone And k (layer.Compare c) (opened_as (layer.Compare c) k e) refl
  in_and (layer.CompareMeant c) e never = alone And k (layer.CompareMeant c) (opened_as (layer.CompareMeant c) k e) refl
  in_and (layer.Match m) e never = alone And k (layer.Match m) (opened_as (layer.Match m) k e) refl
  in_and (layer.CompareTexts m) e never = alone And k (layer.CompareTexts m) (opened_as (layer.CompareTexts m) k e) refl
  in_and (layer.MatchText m) e never = alone And k (layer.MatchText m) (opened_as (layer.MatchText m) k e) refl
  in_and (layer.MatchGroup m) e never = alone And k (layer.MatchGroup m) (opened_as (layer.MatchGroup m) k e) refl
  in_and (layer.Captured group) e never = alone And k (layer.Captured group) (opened_as (layer.Captured group) k e) refl

  pub one_in_or : ((ks : List Cond) → k ≡ Any ks → ⊥) → Alone Or
  one_in_or = in_or (out-Cond k) (sym (roll-out-Cond k))

  pub one_in_and : ((ks : List Cond) → k ≡ All ks → ⊥) → Alone And
  one_in_and = in_and (out-Cond k) (sym (roll-out-Cond k))

pub part_All : (join : Join) (k : Cond) (ks xs : List Cond) → join ≡ And → k ≡ All ks → xs ≡ ks → flat_map (opened_parts join) xs ≡ opened_parts join k
part_All join k ks xs j is x =
    ap (λ z. flat_map (opened_parts z) xs) j ∙ ap (flat_map (opened_parts And)) x ∙ sym (parts_of_All ks)
    ∙ ap (opened_parts And) (sym is) ∙ ap (λ z. opened_parts z k) (sym j)

pub part_Any : (join : Join) (k : Cond) (ks xs : List Cond) → join ≡ Or → k ≡ Any ks → xs ≡ ks → flat_map (opened_parts join) xs ≡ opened_parts join k
part_Any join k ks xs j is x =
    ap (λ z. flat_map (opened_parts z) xs) j ∙ ap (flat_map (opened_parts Or)) x ∙ sym (parts_of_Any ks)
    ∙ ap (opened_parts Or) (sym is) ∙ ap (λ z. opened_parts z k) (sym j)

pub part_in_and : (join : Join) (k : Cond) → join ≡ And → ((ks : List Cond) → k ≡ All ks → ⊥) → opened k ∷ [] ≡ opened_parts join k
part_in_and join k j never = sym (one_in_and k never) ∙ ap (λ z. opened_parts z k) (sym j)

pub part_in_or : (join : Join) (k : Cond) → join ≡ Or → ((ks : List Cond) → k ≡ Any ks → ⊥) → opened k ∷ [] ≡ opened_parts join k
part_in_or join k j never = sym (one_in_or k never) ∙ ap (λ z. opened_parts z k) (sym j)

-- ---- what they come to

abbrev or_then : Evaluated → (Captures → Evaluated) → Evaluated
or_then e next = cond e.truth e (next e.captures)

abbrev and_then : Evaluated → (Captures → Evaluated) → Evaluated
and_then e next = cond e.truth (next e.captures) e

abbrev decided_as : Bool → Captures → Evaluated
decided_as truth captures = record { truth = truth; captures = captures }

or_assoc : (e : Evaluated) (f g : Captures → Evaluated) → or_then (or_then e f) g ≡ or_then e (λ k. or_then (f k) g)
or_assoc e f g = by e.truth refl where
  by : (b : Bool) → e.truth ≡ b → or_then (cond b e (f e.captures)) g ≡ cond b e (or_then (f e.captures) g)
  by true h = ap (λ t. cond t e (g e.captures)) h
  by false h = refl

and_assoc : (e : Evaluated) (f g : Captures → Evaluated) → and_then (and_then e f) g ≡ and_then e (λ k. and_then (f k) g)
and_assoc e f g = by e.truth refl where
  by : (b : Bool) → e.truth ≡ b → and_then (cond b (f e.captures) e) g ≡ cond b (and_then (f e.captures) g) e
  by true h = refl
  by false h = ap (λ t. cond t (g e.captures) e) h

or_none : (e : Evaluated) → or_then e (decided_as false) ≡ e
or_none e = by e.truth refl where
  by : (b : Bool) → e.truth ≡ b → cond b e (decided_as false e.captures) ≡ e
  by true h = refl
  by false h = ap (λ t. decided_as t e.captures) (sym h)

and_none : (e : Evaluated) → and_then e (decided_as true) ≡ e
and_none e = by e.truth refl where
  by : (b : Bool) → e.truth ≡ b → cond b (decided_as true e.captures) e ≡ e
  by true h = ap (λ t. decided_as t e.captures) (sym h)
  by false h = refl

map_joined : {A B : Type 0} (f : A → B) (xs ys : List A) → map f (xs ++ ys) ≡ map f xs ++ map f ys
map_joined f [] ys = refl
map_joined f (x ∷ xs) ys = ap (λ z. f x ∷ z) (map_joined f xs ys)

module _ (d : Dictionary) (s : State) (c : Code) where
  abbrev ev : Cond → Evaluation
  ev = evaluated d

  abbrev any_of : List Cond → Captures → Evaluated
  any_of ks = any_evaluated (map ev ks) s c

  abbrev all_of : List Cond → Captures → Evaluated
  all_of ks = all_evaluated (map ev ks) s c

  any_joined : (xs ys : List Evaluation) (k : Captures) → any_evaluated (xs ++ ys) s c k ≡ or_then (any_evaluated xs s c k) (any_evaluated ys s c)
  any_joined [] ys k = refl
  any_joined (x ∷ xs) ys k =
      ap (λ z. cond (x s c k).truth (x s c k) z) (any_joined xs ys (x s c k).captures)
      ∙ sym (or_assoc (x s c k) (any_evaluated xs s c) (any_evaluated ys s c))

  all_joined : (xs ys : List Evaluation) (k : Captures) → all_evaluated (xs ++ ys) s c k ≡ and_then (all_evaluated xs s c k) (all_evaluated ys s c)
  all_joined [] ys k = refl
  all_joined (x ∷ xs) ys k =
      ap (λ z. cond (x s c k).truth z (x s c k)) (all_joined xs ys (x s c k).captures)
      ∙ sym (and_assoc (x s c k) (all_evaluated xs s c) (all_evaluated ys s c))

  ev_roll : (x : Cond-F Cond) (k : Captures) → ev (roll-Cond x) s c k ≡ cond_evaluated d (map-Cond Cond Evaluation ev x) s c k
  unfolding evaluated
  ev_roll x k = ap (λ (e : Evaluation). e s c k) (fold-roll-Cond Evaluation (cond_evaluated d) x)

  any_parts : (m : Cond) (k : Captures) → any_of (parts Or m) k ≡ ev m s c k
  any_parts m k = by (out-Cond m) (sym (roll-out-Cond m)) where
    single : any_of (m ∷ []) k ≡ ev m s c k
    single = or_none (ev m s c k)

    by : (x : Cond-F Cond) → m ≡ roll-Cond x → any_of (parts_in Or m x) k ≡ ev m s c k
    by (layer.Any ps) e = sym (ap (λ z. ev z s c k) e ∙ ev_roll (layer.Any ps) k)
    by (layer.All ps) e = single
    by (layer.Not part) e = single
    by (layer.Last word) e = single
    by (layer.Present list id) e = single
    by (layer.PresentSelected list id tags) e = single
    by (layer.Compare comparison) e = single
    by (layer.CompareMeant comparison) e = single
    by (layer.Match matching) e = single
    by (layer.CompareTexts comparison) e = single
    by (layer.MatchText matching) e = single
    by (layer.MatchGroup matching) e = single
    by (layer.Captured group) e = single

  all_parts : (m : Cond) (k : Captures) → all_of (parts And m) k ≡ ev m s c k
  all_parts m k = by (out-Cond m) (sym (roll-out-Cond m)) where
    single : all_of (m ∷ []) k ≡ ev m s c k
    single = and_none (ev m s c k)

    by : (x : Cond-F Cond) → m ≡ roll-Cond x → all_of (parts_in And m x) k ≡ ev m s c k
    by (layer.All ps) e = sym (ap (λ z. ev z s c k) e ∙ ev_roll (layer.All ps) k)
    by (layer.Any ps) e = single
    by (layer.Not part) e = single
    by (layer.Last word) e = single
    by (layer.Present list id) e = single
    by (layer.PresentSelected list id tags) e = single
    by (layer.Compare comparison) e = single
    by (layer.CompareMeant comparison) e = single
    by (layer.Match matching) e = single
    by (layer.CompareTexts comparison) e = single
    by (layer.MatchText matching) e = single
    by (layer.MatchGroup matching) e = single
    by (layer.Captured group) e = single

  abbrev IsAlike : Cond → Type 0
  IsAlike k = (captures : Captures) → ev (opened k) s c captures ≡ ev k s c captures

  abbrev Such : Type 0
  Such = (k : Cond) × IsAlike k

  abbrev the_conds : List Such → List Cond
  the_conds es = map (λ e. e.0) es

  abbrev cond_layer : Cond-F Such → Cond-F Cond
  cond_layer = map-Cond Such Cond (λ e. e.0)

  any_alike : (es : List Such) (k : Captures) → any_of (flat_map (parts Or) (map opened (the_conds es))) k ≡ any_of (the_conds es) k
  any_alike [] k = refl
  any_alike (e ∷ es) k =
      let own = opened_parts Or e.0 in
      let others = flat_map (parts Or) (map opened (the_conds es)) in
      let first = any_parts (opened e.0) k ∙ e.1 k in
      ap (λ xs. any_evaluated xs s c k) (map_joined ev own others)
      ∙ any_joined (map ev own) (map ev others) k
      ∙ ap (λ f. or_then f (any_of others)) first
      ∙ ap (λ z. cond (ev e.0 s c k).truth (ev e.0 s c k) z) (any_alike es (ev e.0 s c k).captures)

  all_alike : (es : List Such) (k : Captures) → all_of (flat_map (parts And) (map opened (the_conds es))) k ≡ all_of (the_conds es) k
  all_alike [] k = refl
  all_alike (e ∷ es) k =
      let own = opened_parts And e.0 in
      let others = flat_map (parts And) (map opened (the_conds es)) in
      let first = all_parts (opened e.0) k ∙ e.1 k in
      ap (λ xs. all_evaluated xs s c k) (map_joined ev own others)
      ∙ all_joined (map ev own) (map ev others) k
      ∙ ap (λ f. and_then f (all_of others)) first
      ∙ ap (λ z. cond (ev e.0 s c k).truth z (ev e.0 s c k)) (all_alike es (ev e.0 s c k).captures)

  layer_alike : (y : Cond-F Such) (k : Captures) → ev (opened_layer (map-Cond Cond Cond opened (cond_layer y))) s c k ≡ ev (roll-Cond (cond_layer y)) s c k
  layer_alike (layer.Any es) k =
      ev_roll (layer.Any (flat_map (parts Or) (map opened (the_conds es)))) k ∙ any_alike es k ∙ sym (ev_roll (layer.Any (the_conds es)) k)
  layer_alike (layer.All es) k =
      ev_roll (layer.All (flat_map (parts And) (map opened (the_conds es)))) k ∙ all_alike es k ∙ sym (ev_roll (layer.All (the_conds es)) k)
  layer_alike (layer.Not e) k =
      ev_roll (layer.Not (opened e.0)) k ∙ ap negated (e.1 k) ∙ sym (ev_roll (layer.Not e.0) k)
  layer_alike (layer.Last word) k = refl
  layer_alike (layer.Present list id) k = refl
  layer_alike (layer.PresentSelected list id tags) k = refl
  layer_alike (layer.Compare comparison) k = refl
  layer_alike (layer.CompareMeant comparison) k = refl
  layer_alike (layer.Match matching) k = refl
  layer_alike (layer.CompareTexts comparison) k = refl
  layer_alike (layer.MatchText matching) k = refl
  layer_alike (layer.MatchGroup matching) k = refl
  layer_alike (layer.Captured group) k = refl

  rolled : (x : Cond-F Cond) → ((k : Captures) → ev (opened_layer (map-Cond Cond Cond opened x)) s c k ≡ ev (roll-Cond x) s c k) → IsAlike (roll-Cond x)
  rolled x h k = ap (λ z. ev z s c k) (opened_as x (roll-Cond x) refl) ∙ h k

  -- a condition that is opened comes to the same
  pub opened_alike : (k : Cond) (captures : Captures) → evaluated d (opened k) s c captures ≡ evaluated d k s c captures
  opened_alike = ind-Cond IsAlike (λ x y is. subst (λ z. IsAlike (roll-Cond z)) is (rolled (cond_layer y) (layer_alike y)))
