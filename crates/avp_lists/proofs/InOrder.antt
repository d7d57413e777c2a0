-- Slots in the order of their pairs.
use Rattle.std.proofs.Common.{◌≡◌, ℕ, zero, suc, ◌+◌, Bool, true, false, ◌&&◌, ◌||◌, cond, List, [], ◌∷◌, ◌++◌, length, map, refl, sym, ap, ap₂, ◌∙◌, subst, arith, append-nil, length-append}
use Rattle.std.specs.Prelude.{reverse}
use Rattle.std.specs.List.{filter, list_any}
use Rattle.std.proofs.lemmas.List.{append_assoc, map-append, reverse-append, length-reverse}
use Rattle.std.proofs.lemmas.List.Elements.{filter-append}
use Rattle.std.proofs.lemmas.List.Folds.{list_any-append}
use Rattle.avp_lists.specs.declared.pairs.Pair.{Pair}
use Rattle.avp_lists.specs.declared.lists.List.{List as WhichList}
use Rattle.avp_lists.specs.declared.slots.End.{End}
use Rattle.avp_lists.specs.declared.slots.End.TheVariants.{Head, Tail}
use Rattle.avp_lists.specs.declared.slots.Slot.{Slot}
use Rattle.avp_lists.specs.internal.Shown.{shows, slot_pair, same_end, entered_at, shown_pairs_at, shown_pairs, ahead}
use Rattle.avp_lists.specs.internal.Slots.{slot_at}

-- those that entered at the head, the last one first, and then those that entered at the tail
abbrev pub in_order : List Slot → List Slot
in_order c = reverse (filter (entered_at Head) c) ++ filter (entered_at Tail) c

-- the pairs that slots show in a list, one after the other
abbrev pub shown_of : WhichList → List Pair → List Slot → List Pair
shown_of which pool c = map (slot_pair pool) (filter (shows which) c)

-- reversed lists
pub reverse_more : {X : Type 0} (x : X) (xs : List X) → reverse (x ∷ xs) ≡ reverse xs ++ x ∷ []
reverse_more x xs = reverse-append (x ∷ []) xs

pub filter-reverse : {X : Type 0} (p : X → Bool) (xs : List X) → filter p (reverse xs) ≡ reverse (filter p xs)
filter-reverse p [] = refl
filter-reverse {X} p (x ∷ xs) =
    ap (filter p) (reverse_more x xs)
    ∙ filter-append p (reverse xs) (x ∷ [])
    ∙ ap (λ (ys : List X). ys ++ filter p (x ∷ [])) (filter-reverse p xs)
    ∙ elim (p x) as (λ b. reverse (filter p xs) ++ cond b (x ∷ []) [] ≡ reverse (cond b (x ∷ filter p xs) (filter p xs))) [
      | true ↦ sym (reverse_more x (filter p xs))
      | false ↦ append-nil (reverse (filter p xs))
    ]

pub map-reverse : {X Y : Type 0} (f : X → Y) (xs : List X) → map f (reverse xs) ≡ reverse (map f xs)
map-reverse f [] = refl
map-reverse {X} {Y} f (x ∷ xs) =
    ap (map f) (reverse_more x xs)
    ∙ map-append f (reverse xs) (x ∷ [])
    ∙ ap (λ (ys : List Y). ys ++ f x ∷ []) (map-reverse f xs)
    ∙ sym (reverse_more (f x) (map f xs))

or_comm : (a b : Bool) → (a || b) ≡ (b || a)
or_comm true true = refl
or_comm true false = refl
or_comm false true = refl
or_comm false false = refl

pub any-reverse : {X : Type 0} (p : X → Bool) (xs : List X) → list_any p (reverse xs) ≡ list_any p xs
any-reverse p [] = refl
any-reverse p (x ∷ xs) =
    ap (list_any p) (reverse_more x xs)
    ∙ list_any-append p (reverse xs) (x ∷ [])
    ∙ or_comm (list_any p (reverse xs)) (list_any p (x ∷ []))
    ∙ ap₂ (λ (a b : Bool). a || b) (or_false (p x)) (any-reverse p xs)
  where
    or_false : (b : Bool) → (b || false) ≡ b
    or_false true = refl
    or_false false = refl

-- two tests
pub filter_both : {X : Type 0} (p q : X → Bool) (xs : List X) → filter p (filter q xs) ≡ filter (λ x. q x && p x) xs
filter_both p q [] = refl
filter_both {X} p q (x ∷ xs) =
    let rest = filter_both p q xs in
    elim (q x) as (λ b. filter p (cond b (x ∷ filter q xs) (filter q xs)) ≡ cond (b && p x) (x ∷ filter (λ y. q y && p y) xs) (filter (λ y. q y && p y) xs)) [
      | true ↦ elim (p x) as (λ b. cond b (x ∷ filter p (filter q xs)) (filter p (filter q xs)) ≡ cond b (x ∷ filter (λ y. q y && p y) xs) (filter (λ y. q y && p y) xs)) [
        | true ↦ ap (λ (ys : List X). x ∷ ys) rest
        | false ↦ rest
      ]
      | false ↦ rest
    ]

pub filter_swap : {X : Type 0} (p q : X → Bool) (xs : List X) → filter p (filter q xs) ≡ filter q (filter p xs)
filter_swap p q [] = refl
filter_swap {X} p q (x ∷ xs) =
    let rest = filter_swap p q xs in
    elim (q x) as (λ b. q x ≡ b → filter p (cond b (x ∷ filter q xs) (filter q xs)) ≡ filter q (filter p (x ∷ xs))) [
      | true ↦ λ h. elim (p x) as (λ b. cond b (x ∷ filter p (filter q xs)) (filter p (filter q xs)) ≡ filter q (cond b (x ∷ filter p xs) (filter p xs))) [
        | true ↦ ap (λ (ys : List X). x ∷ ys) rest ∙ sym (ap (λ (b : Bool). cond b (x ∷ filter q (filter p xs)) (filter q (filter p xs))) h)
        | false ↦ rest
      ]
      | false ↦ λ h. elim (p x) as (λ b. filter p (filter q xs) ≡ filter q (cond b (x ∷ filter p xs) (filter p xs))) [
        | true ↦ rest ∙ sym (ap (λ (b : Bool). cond b (x ∷ filter q (filter p xs)) (filter q (filter p xs))) h)
        | false ↦ rest
      ]
    ] refl

pub filter_mapped : {X : Type 0} (p : X → Bool) (f : X → X) → ((x : X) → p (f x) ≡ p x) → (xs : List X) → filter p (map f xs) ≡ map f (filter p xs)
filter_mapped p f same [] = refl
filter_mapped {X} p f same (x ∷ xs) =
    let rest = filter_mapped p f same xs in
    rw (same x) (elim (p x) as (λ b. cond b (f x ∷ filter p (map f xs)) (filter p (map f xs)) ≡ map f (cond b (x ∷ filter p xs) (filter p xs))) [
      | true ↦ ap (λ (ys : List X). f x ∷ ys) rest
      | false ↦ rest
    ])

pub any_filter : {X : Type 0} (p q : X → Bool) (xs : List X) → list_any p (filter q xs) ≡ list_any (λ x. q x && p x) xs
any_filter p q [] = refl
any_filter p q (x ∷ xs) =
    let rest = any_filter p q xs in
    elim (q x) as (λ b. list_any p (cond b (x ∷ filter q xs) (filter q xs)) ≡ ((b && p x) || list_any (λ y. q y && p y) xs)) [
      | true ↦ ap (λ (t : Bool). p x || t) rest
      | false ↦ rest
    ]

-- the order of slots that are cut, filtered or changed
pub in_order-append : (c d : List Slot) → in_order (c ++ d) ≡ reverse (filter (entered_at Head) d) ++ (in_order c ++ filter (entered_at Tail) d)
in_order-append c d =
    let hc = filter (entered_at Head) c in
    let hd = filter (entered_at Head) d in
    let tc = filter (entered_at Tail) c in
    let td = filter (entered_at Tail) d in
    ap₂ (λ (a b : List Slot). reverse a ++ b) (filter-append (entered_at Head) c d) (filter-append (entered_at Tail) c d)
    ∙ ap (λ (a : List Slot). a ++ (tc ++ td)) (reverse-append hc hd)
    ∙ append_assoc (reverse hd) (reverse hc) (tc ++ td)
    ∙ ap (λ (a : List Slot). reverse hd ++ a) (sym (append_assoc (reverse hc) tc td))

pub in_order-map : (f : Slot → Slot) → ((s : Slot) → (f s).end ≡ s.end) → (c : List Slot) → in_order (map f c) ≡ map f (in_order c)
in_order-map f same c =
    let part : (end : End) → filter (entered_at end) (map f c) ≡ map f (filter (entered_at end) c) = λ end. filter_mapped (entered_at end) f (λ s. ap (same_end end) (same s)) c in
    ap₂ (λ (a b : List Slot). reverse a ++ b) (part Head) (part Tail)
    ∙ ap (λ (a : List Slot). a ++ map f (filter (entered_at Tail) c)) (sym (map-reverse f (filter (entered_at Head) c)))
    ∙ sym (map-append f (reverse (filter (entered_at Head) c)) (filter (entered_at Tail) c))

pub in_order-filter : (p : Slot → Bool) (c : List Slot) → in_order (filter p c) ≡ filter p (in_order c)
in_order-filter p c =
    ap₂ (λ (a b : List Slot). reverse a ++ b) (filter_swap (entered_at Head) p c) (filter_swap (entered_at Tail) p c)
    ∙ ap (λ (a : List Slot). a ++ filter p (filter (entered_at Tail) c)) (sym (filter-reverse p (filter (entered_at Head) c)))
    ∙ sym (filter-append p (reverse (filter (entered_at Head) c)) (filter (entered_at Tail) c))

-- a slot, and what comes before it and after it
abbrev pub behind : End → List Slot → List Slot → List Slot
behind Head before after = reverse (filter (entered_at Head) before) ++ filter (entered_at Tail) (before ++ after)
behind Tail before after = filter (entered_at Tail) after

in_order-between : (end : End) (before after : List Slot) (s : Slot) → s.end ≡ end → in_order (before ++ s ∷ after) ≡ ahead end before after ++ s ∷ behind end before after
in_order-between Head before after s h =
    let hb = filter (entered_at Head) before in
    let ha = filter (entered_at Head) after in
    let tb = filter (entered_at Tail) before in
    let ta = filter (entered_at Tail) after in
    let heads : filter (entered_at Head) (before ++ s ∷ after) ≡ hb ++ s ∷ ha = filter-append (entered_at Head) before (s ∷ after) ∙ ap (λ (b : Bool). hb ++ cond b (s ∷ ha) ha) (ap (same_end Head) h) in
    let tails : filter (entered_at Tail) (before ++ s ∷ after) ≡ filter (entered_at Tail) (before ++ after) = filter-append (entered_at Tail) before (s ∷ after) ∙ ap (λ (b : Bool). tb ++ cond b (s ∷ ta) ta) (ap (same_end Tail) h) ∙ sym (filter-append (entered_at Tail) before after) in
    let rest = filter (entered_at Tail) (before ++ after) in
    ap₂ (λ (a b : List Slot). reverse a ++ b) heads tails
    ∙ ap (λ (a : List Slot). a ++ rest) (reverse-append hb (s ∷ ha) ∙ ap (λ (a : List Slot). a ++ reverse hb) (reverse_more s ha) ∙ append_assoc (reverse ha) (s ∷ []) (reverse hb))
    ∙ append_assoc (reverse ha) (s ∷ reverse hb) rest
in_order-between Tail before after s h =
    let hb = filter (entered_at Head) before in
    let ha = filter (entered_at Head) after in
    let tb = filter (entered_at Tail) before in
    let ta = filter (entered_at Tail) after in
    let heads : filter (entered_at Head) (before ++ s ∷ after) ≡ filter (entered_at Head) (before ++ after) = filter-append (entered_at Head) before (s ∷ after) ∙ ap (λ (b : Bool). hb ++ cond b (s ∷ ha) ha) (ap (same_end Head) h) ∙ sym (filter-append (entered_at Head) before after) in
    let tails : filter (entered_at Tail) (before ++ s ∷ after) ≡ tb ++ s ∷ ta = filter-append (entered_at Tail) before (s ∷ after) ∙ ap (λ (b : Bool). tb ++ cond b (s ∷ ta) ta) (ap (same_end Tail) h) in
    ap₂ (λ (a b : List Slot). reverse a ++ b) heads tails
    ∙ sym (append_assoc (reverse (filter (entered_at Head) (before ++ after))) tb (s ∷ ta))

pub in_order-middle : (before after : List Slot) (s : Slot) → in_order (before ++ s ∷ after) ≡ ahead s.end before after ++ s ∷ behind s.end before after
in_order-middle before after s = in_order-between s.end before after s refl

-- what comes before and after, where each slot is changed
parts_of : (f : Slot → Slot) → ((s : Slot) → (f s).end ≡ s.end) → (end : End) (c : List Slot) → filter (entered_at end) (map f c) ≡ map f (filter (entered_at end) c)
parts_of f same end c = filter_mapped (entered_at end) f (λ s. ap (same_end end) (same s)) c

heads_of : (f : Slot → Slot) → ((s : Slot) → (f s).end ≡ s.end) → (c : List Slot) → reverse (filter (entered_at Head) (map f c)) ≡ map f (reverse (filter (entered_at Head) c))
heads_of f same c = ap reverse (parts_of f same Head c) ∙ sym (map-reverse f (filter (entered_at Head) c))

pub ahead-map : (f : Slot → Slot) → ((s : Slot) → (f s).end ≡ s.end) → (end : End) (before after : List Slot) → ahead end (map f before) (map f after) ≡ map f (ahead end before after)
ahead-map f same Head before after = heads_of f same after
ahead-map f same Tail before after =
    ap₂ (λ (a b : List Slot). a ++ b) (ap (λ (c : List Slot). reverse (filter (entered_at Head) c)) (sym (map-append f before after)) ∙ heads_of f same (before ++ after)) (parts_of f same Tail before)
    ∙ sym (map-append f (reverse (filter (entered_at Head) (before ++ after))) (filter (entered_at Tail) before))

pub behind-map : (f : Slot → Slot) → ((s : Slot) → (f s).end ≡ s.end) → (end : End) (before after : List Slot) → behind end (map f before) (map f after) ≡ map f (behind end before after)
behind-map f same Head before after =
    ap₂ (λ (a b : List Slot). a ++ b) (heads_of f same before) (ap (filter (entered_at Tail)) (sym (map-append f before after)) ∙ parts_of f same Tail (before ++ after))
    ∙ sym (map-append f (reverse (filter (entered_at Head) before)) (filter (entered_at Tail) (before ++ after)))
behind-map f same Tail before after = parts_of f same Tail after

-- what holds of each slot
pub all-append : (P : Slot → Type 0) (c d : List Slot) → ((i : ℕ) → P (slot_at c i)) → ((i : ℕ) → P (slot_at d i)) → (i : ℕ) → P (slot_at (c ++ d) i)
all-append P [] d left right i = right i
all-append P (s ∷ ss) d left right zero = left 0
all-append P (s ∷ ss) d left right (suc i) = all-append P ss d (λ j. left (suc j)) right i

all-more : (P : Slot → Type 0) (s : Slot) (ss : List Slot) → P s → ((i : ℕ) → P (slot_at ss i)) → (i : ℕ) → P (slot_at (s ∷ ss) i)
all-more P s ss first rest zero = first
all-more P s ss first rest (suc i) = rest i

pub all-filter : (P : Slot → Type 0) (p : Slot → Bool) (c : List Slot) → ((i : ℕ) → P (slot_at c i)) → (i : ℕ) → P (slot_at (filter p c) i)
all-filter P p [] all = all
all-filter P p (s ∷ ss) all =
    let rest = all-filter P p ss (λ j. all (suc j)) in
    elim (p s) as (λ b. (i : ℕ) → P (slot_at (cond b (s ∷ filter p ss) (filter p ss)) i)) [
      | true ↦ all-more P s (filter p ss) (all 0) rest
      | false ↦ rest
    ]

all-last : (P : Slot → Type 0) (s : Slot) (ss : List Slot) → ((i : ℕ) → P (slot_at (s ∷ ss) i)) → (i : ℕ) → P (slot_at (s ∷ []) i)
all-last P s [] all = all
all-last P s (t ∷ ts) all = all-last P s ts (all-more P s ts (all 0) (λ i. all (suc (suc i))))

pub all-reverse : (P : Slot → Type 0) (c : List Slot) → ((i : ℕ) → P (slot_at c i)) → (i : ℕ) → P (slot_at (reverse c) i)
all-reverse P [] all = all
all-reverse P (s ∷ ss) all =
    let Q : List Slot → Type 0 = λ c. (i : ℕ) → P (slot_at c i) in
    subst Q (sym (reverse_more s ss)) (all-append P (reverse ss) (s ∷ []) (all-reverse P ss (λ i. all (suc i))) (all-last P s ss all))

pub all-in_order : (P : Slot → Type 0) (c : List Slot) → ((i : ℕ) → P (slot_at c i)) → (i : ℕ) → P (slot_at (in_order c) i)
all-in_order P c all =
    all-append P (reverse (filter (entered_at Head) c)) (filter (entered_at Tail) c) (all-reverse P (filter (entered_at Head) c) (all-filter P (entered_at Head) c all)) (all-filter P (entered_at Tail) c all)

-- none is lost
length-ends : (c : List Slot) → length (filter (entered_at Head) c) + length (filter (entered_at Tail) c) ≡ length c
length-ends [] = refl
length-ends (s ∷ ss) =
    let rest = length-ends ss in
    elim s.end as (λ e. length (cond (same_end Head e) (s ∷ filter (entered_at Head) ss) (filter (entered_at Head) ss)) + length (cond (same_end Tail e) (s ∷ filter (entered_at Tail) ss) (filter (entered_at Tail) ss)) ≡ length (s ∷ ss)) [
      | Head ↦ omega (arith, rest)
      | Tail ↦ omega (arith, rest)
    ]

pub length-in_order : (c : List Slot) → length (in_order c) ≡ length c
length-in_order c =
    length-append (reverse (filter (entered_at Head) c)) (filter (entered_at Tail) c)
    ∙ ap (λ (n : ℕ). n + length (filter (entered_at Tail) c)) (length-reverse (filter (entered_at Head) c))
    ∙ length-ends c

pub any-ends : (p : Slot → Bool) (c : List Slot) → (list_any p (filter (entered_at Head) c) || list_any p (filter (entered_at Tail) c)) ≡ list_any p c
any-ends p [] = refl
any-ends p (s ∷ ss) =
    let h = list_any p (filter (entered_at Head) ss) in
    let t = list_any p (filter (entered_at Tail) ss) in
    elim s.end as (λ e. (list_any p (cond (same_end Head e) (s ∷ filter (entered_at Head) ss) (filter (entered_at Head) ss)) || list_any p (cond (same_end Tail e) (s ∷ filter (entered_at Tail) ss) (filter (entered_at Tail) ss))) ≡ (p s || list_any p ss)) [
      | Head ↦ or_left (p s) h t ∙ ap (λ (b : Bool). p s || b) (any-ends p ss)
      | Tail ↦ or_right (p s) h t ∙ ap (λ (b : Bool). p s || b) (any-ends p ss)
    ]
  where
    or_left : (a h t : Bool) → ((a || h) || t) ≡ (a || (h || t))
    or_left true h t = refl
    or_left false h t = refl

    or_right : (a h t : Bool) → (h || (a || t)) ≡ (a || (h || t))
    or_right a true true = or_comm true a
    or_right a true false = or_comm true a
    or_right a false t = refl

pub any-in_order : (p : Slot → Bool) (c : List Slot) → list_any p (in_order c) ≡ list_any p c
any-in_order p c =
    list_any-append p (reverse (filter (entered_at Head) c)) (filter (entered_at Tail) c)
    ∙ ap (λ (b : Bool). b || list_any p (filter (entered_at Tail) c)) (any-reverse p (filter (entered_at Head) c))
    ∙ any-ends p c

-- a list's pairs are those of its slots in order
pub shown_pairs-in_order : (which : WhichList) (pool : List Pair) (c : List Slot) → shown_pairs which pool c ≡ shown_of which pool (in_order c)
shown_pairs-in_order which pool c =
    let heads = filter (entered_at Head) c in
    let tails = filter (entered_at Tail) c in
    let part : (end : End) → shown_pairs_at end which pool c ≡ shown_of which pool (filter (entered_at end) c) = λ end. ap (map (slot_pair pool)) (sym (filter_both (shows which) (entered_at end) c)) in
    sym (
    ap (map (slot_pair pool)) (filter-append (shows which) (reverse heads) tails ∙ ap (λ (a : List Slot). a ++ filter (shows which) tails) (filter-reverse (shows which) heads))
    ∙ map-append (slot_pair pool) (reverse (filter (shows which) heads)) (filter (shows which) tails)
    ∙ ap (λ (a : List Pair). a ++ shown_of which pool tails) (map-reverse (slot_pair pool) (filter (shows which) heads))
    ∙ sym (ap₂ (λ (a b : List Pair). reverse a ++ b) (part Head) (part Tail))
    )
