-- A condition that overlooks no absence is true where a server says so.
use Rattle.std.proofs.Common.{◌≡◌, ◌==◌, ℕ, Bool, true, false, not, ◌&&◌, ◌||◌, List, [], ◌∷◌, refl, sym, ap, ◌∙◌, subst, arith}
use Rattle.std.specs.List.{list_any}
use Rattle.avp_lists.specs.Instances.{has_id}
use Rattle.avp_lists.specs.Selections.{has_selected}
use Rattle.avp_lists.specs.States.{list_of}
use Rattle.avp_lists.specs.Tags.{is_selected, is_tag, tag_of}
use Rattle.avp_lists.specs.Pairs.{id_eq}
use Rattle.avp_lists.specs.declared.pairs.AttrId.{AttrId}
use Rattle.avp_lists.specs.declared.pairs.Pair.{Pair}
use Rattle.avp_lists.specs.declared.lists.List.{List as Name}
use Rattle.avp_lists.specs.declared.lists.List.TheVariants as name
use Rattle.avp_lists.specs.declared.lists.State.{State}
use Rattle.avp_lists.specs.declared.tags.Selection.{Selection}
use Rattle.avp_lists.specs.declared.tags.Selection.TheVariants as selections
use Rattle.avp_lists.specs.declared.tags.Tagging.{Tagging}
use Rattle.avp_lists.specs.declared.tags.Tagging.TheVariants as tagging
use Rattle.avp_lists.proofs.Equality.{id_eq-same, same_id}
use Rattle.policy_warnings.specs.Absences.{both, negated}
use Rattle.policy_warnings.specs.Mentions.{implies, is_there, is_within, same_list, same_tagging}
use Rattle.policy_warnings.specs.declared.absences.Absence.{Absence}
use Rattle.policy_warnings.specs.declared.mentions.Mention.{Mention}

-- ---- booleans

pub and_left : (a b : Bool) → (a && b) ≡ true → a ≡ true
and_left true b h = refl
and_left false b h = h

pub and_right : (a b : Bool) → (a && b) ≡ true → b ≡ true
and_right true b h = h
and_right false b h = cc

pub or_left : (a b : Bool) → a ≡ true → (a || b) ≡ true
or_left true b h = refl
or_left false b h = cc

pub or_right : (a b : Bool) → b ≡ true → (a || b) ≡ true
or_right true b h = refl
or_right false b h = h

pub and_true : (a b : Bool) → a ≡ true → b ≡ true → (a && b) ≡ true
and_true true b h k = k
and_true false b h k = h

pub not_true : (a : Bool) → a ≡ false → not a ≡ true
not_true true h = sym h
not_true false h = refl

pub not_false : (a : Bool) → not a ≡ true → a ≡ false
not_false true h = sym h
not_false false h = refl

pub any_mono : {X : Type 0} (p q : X → Bool) (f : (x : X) → p x ≡ true → q x ≡ true) (xs : List X) → list_any p xs ≡ true → list_any q xs ≡ true
any_mono p q f [] h = h
any_mono p q f (x ∷ xs) h = by (any_mono p q f xs) (p x) refl h where
  by : (list_any p xs ≡ true → list_any q xs ≡ true) → (b : Bool) → p x ≡ b → (p x || list_any p xs) ≡ true → (q x || list_any q xs) ≡ true
  by others true e k = or_left (q x) (list_any q xs) (f x e)
  by others false e k = or_right (q x) (list_any q xs) (others (ap (λ b. b || list_any p xs) (sym e) ∙ k))

-- ---- what is there

-- what a condition says where it comes to this truth
abbrev pub present_when : Bool → Absence → Bool
present_when true a = a.present_when_true
present_when false a = a.present_when_false

abbrev pub overlooked_when : Bool → Absence → Bool
overlooked_when true a = a.overlooked_when_true
overlooked_when false a = a.overlooked_when_false

pub present_negated : (t : Bool) (a : Absence) → present_when (not t) (negated a) ≡ present_when t a
present_negated true a = refl
present_negated false a = refl

pub overlooked_negated : (t : Bool) (a : Absence) → overlooked_when (not t) (negated a) ≡ overlooked_when t a
overlooked_negated true a = refl
overlooked_negated false a = refl

pub present_both : (t u : Bool) (a b : Absence) → present_when t a ≡ false → present_when u b ≡ false → present_when (t && u) (both a b) ≡ false
present_both true true a b h k = ap (λ x. x || b.present_when_true) h ∙ k
present_both true false a b h k = grind arith
present_both false u a b h k = ap (λ x. x && b.present_when_false) h

pub overlooked_first : (t u : Bool) (a b : Absence) → overlooked_when t a ≡ true → present_when u b ≡ false → overlooked_when (t && u) (both a b) ≡ true
overlooked_first true true a b h k = grind arith
overlooked_first true false a b h k = grind arith
overlooked_first false u a b h k = grind arith

pub overlooked_next : (u : Bool) (a b : Absence) → a.present_when_true ≡ false → overlooked_when u b ≡ true → overlooked_when u (both a b) ≡ true
overlooked_next true a b h k = grind arith
overlooked_next false a b h k = grind arith

-- ---- one mention and another

same_numbers : (m n : ℕ) → (m == n) ≡ true → m ≡ n
same_numbers m n h = grind arith

same_names : (a b : Name) → same_list a b ≡ true → a ≡ b
same_names name.Request name.Request h = refl
same_names name.Reply name.Reply h = refl
same_names name.Control name.Control h = refl
same_names _ _ h = cc

list_same : (a : Name) → same_list a a ≡ true
list_same name.Request = refl
list_same name.Reply = refl
list_same name.Control = refl

same_taggings : (a b : Tagging) → same_tagging a b ≡ true → a ≡ b
same_taggings tagging.Number tagging.Number h = refl
same_taggings tagging.Text tagging.Text h = refl
same_taggings _ _ h = cc

tagging_same : (a : Tagging) → same_tagging a a ≡ true
tagging_same tagging.Number = refl
tagging_same tagging.Text = refl

within_same : (x : Selection) → is_within x x ≡ true
within_same selections.All = refl
within_same (selections.EachTag t) = refl
within_same (selections.Tag t n) = and_true (same_tagging t t) (n == n) (tagging_same t) (grind arith)

pub implies_same : (m : Mention) → implies m m ≡ true
implies_same m = rw (list_same m.list) (rw (id_eq-same m.id) (within_same m.selection))

selected_has_id : (x : Selection) (id : AttrId) (q : Pair) → is_selected x id q ≡ true → has_id id q ≡ true
selected_has_id selections.All id q h = h
selected_has_id (selections.EachTag t) id q h = h
selected_has_id (selections.Tag t n) id q h = and_left (has_id id q) (is_tag n (tag_of t q.value)) h

selected_within : (x y : Selection) (id : AttrId) (q : Pair) → is_within x y ≡ true → is_selected x id q ≡ true → is_selected y id q ≡ true
selected_within x selections.All id q w h = selected_has_id x id q h
selected_within x (selections.EachTag t) id q w h = selected_has_id x id q h
selected_within selections.All (selections.Tag t n) id q w h = cc
selected_within (selections.EachTag u) (selections.Tag t n) id q w h = cc
selected_within (selections.Tag u k) (selections.Tag t n) id q w h =
    let taggings : u ≡ t = same_taggings u t (and_left (same_tagging u t) (k == n) w) in
    let tags : k ≡ n = same_numbers k n (and_right (same_tagging u t) (k == n) w) in
    subst (λ z. is_selected (selections.Tag t z) id q ≡ true) tags (subst (λ z. is_selected (selections.Tag z k) id q ≡ true) taggings h)

module _ (s : State) where
  pub implied_there : (x m : Mention) → implies x m ≡ true → is_there s x ≡ true → is_there s m ≡ true
  implied_there x m h there =
      let names = and_left (same_list x.list m.list && id_eq x.id m.id) (is_within x.selection m.selection) h in
      let within = and_right (same_list x.list m.list && id_eq x.id m.id) (is_within x.selection m.selection) h in
      let lists : x.list ≡ m.list = same_names x.list m.list (and_left (same_list x.list m.list) (id_eq x.id m.id) names) in
      let same : x.id ≡ m.id = same_id x.id m.id (and_right (same_list x.list m.list) (id_eq x.id m.id) names) in
      any_mono (is_selected x.selection m.id) (is_selected m.selection m.id) (λ q k. selected_within x.selection m.selection m.id q within k) (list_of m.list s)
      (subst (λ z. has_selected x.selection z (list_of m.list s) ≡ true) same
      (subst (λ z. has_selected x.selection x.id (list_of z s) ≡ true) lists there))

  pub not_implied : (x m : Mention) → is_there s x ≡ true → is_there s m ≡ false → implies x m ≡ false
  not_implied x m there absent = by (implies x m) refl where
    by : (b : Bool) → implies x m ≡ b → b ≡ false
    by true e = sym (implied_there x m e there) ∙ absent
    by false e = refl
