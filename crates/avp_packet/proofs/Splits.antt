-- The attributes of octets, one after the other.
use Rattle.std.proofs.Common.{◌≡◌, ◌∙◌, ℕ, zero, suc, ◌+◌, ◌-◌, ◌<◌, ◌≤◌, true, false, List, [], ◌∷◌, ◌++◌, length, take, drop, Ok, Err, refl, sym, ap, arith, append-nil, append_assoc}
use Rattle.std.specs.List.{flat_map}
use Rattle.std.proofs.lemmas.Grind.{common_steps}
use Rattle.std.proofs.lemmas.List.{length-append, length-drop, take_at, drop_at, take-append-drop, length-take-le, drop-drop, drop_all}
use Rattle.avp_packet.specs.Splitting.{IsSplit, Part, begins_whole, is_whole_attribute, items_from, left, left_after, part_octets, parts, parts_after, placed, placed_from}
use Rattle.avp_packet.proofs.Tests.{by_test}

-- ---- the octets after the first so many

pub parts_after-drop : (k : ℕ) (os : List ℕ) → parts_after k os ≡ parts (drop k os)
unfolding parts_after
parts_after-drop zero os = refl
parts_after-drop (suc k) [] = refl
parts_after-drop (suc k) (o ∷ os) = parts_after-drop k os

pub left_after-drop : (k : ℕ) (os : List ℕ) → left_after k os ≡ left (drop k os)
unfolding left_after
left_after-drop zero os = refl
left_after-drop (suc k) [] = refl
left_after-drop (suc k) (o ∷ os) = left_after-drop k os

-- ---- a whole attribute stands first

module _ (t n : ℕ) (os : List ℕ) where
  pub parts-first : is_whole_attribute n os ≡ true → parts (t ∷ n ∷ os) ≡ record { number = t; value = take (n - 2) os } ∷ parts (drop (n - 2) os)
  unfolding parts_after
  parts-first h = rw h (ap (λ (ps : List Part). record { number = t; value = take (n - 2) os } ∷ ps) (parts_after-drop (n - 2) os))

  pub left-first : is_whole_attribute n os ≡ true → left (t ∷ n ∷ os) ≡ left (drop (n - 2) os)
  unfolding left_after
  left-first h = rw h (left_after-drop (n - 2) os)

  whole_length : is_whole_attribute n os ≡ true → (2 ≤ n) × (n ≤ 2 + length os)
  whole_length h = (grind (arith, common_steps), grind (arith, common_steps))

  pub octets-first : is_whole_attribute n os ≡ true → t ∷ n ∷ os ≡ part_octets (record { number = t; value = take (n - 2) os }) ++ drop (n - 2) os
  octets-first h =
      let w = whole_length h in
      let e = length-take-le (n - 2) os (omega (arith, w.0, w.1)) in
      let same : n ≡ 2 + length (take (n - 2) os) = omega (arith, w.0, e) in
      let all = take-append-drop (n - 2) os in
      cc

-- ---- none stands first

pub parts-none : (os : List ℕ) → begins_whole os ≡ false → parts os ≡ []
unfolding parts_after
parts-none [] h = refl
parts-none (t ∷ []) h = refl
parts-none (t ∷ n ∷ os) h = rw h

pub left-none : (os : List ℕ) → begins_whole os ≡ false → left os ≡ os
unfolding left_after
left-none [] h = refl
left-none (t ∷ []) h = refl
left-none (t ∷ n ∷ os) h = rw h

-- ---- octets are their attributes and what is left

split_after : (k : ℕ) (os : List ℕ) → drop k os ≡ flat_map part_octets (parts_after k os) ++ left_after k os
unfolding parts_after left_after
split_after zero [] = refl
split_after (suc k) [] = refl
split_after (suc k) (o ∷ os) = split_after k os
split_after zero (t ∷ []) = refl
split_after zero (t ∷ n ∷ os) =
    by_test _ (is_whole_attribute n os)
    (λ h. let e = split_after (n - 2) os in
    let p : Part = record { number = t; value = take (n - 2) os } in
    rw h (octets-first t n os h ∙ ap (λ (xs : List ℕ). part_octets p ++ xs) e ∙ sym (append_assoc (part_octets p) (flat_map part_octets (parts_after (n - 2) os)) (left_after (n - 2) os))))
    (λ h. rw h)

ends_after : (k : ℕ) (os : List ℕ) → begins_whole (left_after k os) ≡ false
unfolding left_after
ends_after zero [] = refl
ends_after (suc k) [] = refl
ends_after (suc k) (o ∷ os) = ends_after k os
ends_after zero (t ∷ []) = refl
ends_after zero (t ∷ n ∷ os) = by_test _ (is_whole_attribute n os) (λ h. rw h (ends_after (n - 2) os)) (λ h. rw h h)

pub is_split : (os : List ℕ) → IsSplit os (parts os) (left os)
is_split os = record { whole = split_after 0 os; ends = ends_after 0 os }

pub left_short : (os : List ℕ) → length (left os) ≤ length os
left_short os =
    let e = ap length (split_after 0 os) in
    let f = length-append (flat_map part_octets (parts os)) (left os) in
    omega arith

-- ---- and they are read back

is_whole_attribute-itself : (value os : List ℕ) → is_whole_attribute (2 + length value) (value ++ os) ≡ true
is_whole_attribute-itself value os = let e = length-append value os in grind (arith, common_steps)

pub parts-octets : (p : Part) (os : List ℕ) → parts (part_octets p ++ os) ≡ p ∷ parts os
parts-octets p os =
    let n : ℕ = 2 + length p.value in
    let same : n - 2 ≡ length p.value = omega arith in
    parts-first p.number n (p.value ++ os) (is_whole_attribute-itself p.value os)
    ∙ rw (same, take_at p.value os (length p.value) refl, drop_at p.value os (length p.value) refl)

pub left-octets : (p : Part) (os : List ℕ) → left (part_octets p ++ os) ≡ left os
left-octets p os =
    let n : ℕ = 2 + length p.value in
    let same : n - 2 ≡ length p.value = omega arith in
    left-first p.number n (p.value ++ os) (is_whole_attribute-itself p.value os)
    ∙ rw (same, drop_at p.value os (length p.value) refl)

pub parts-all : (ps : List Part) (os : List ℕ) → parts (flat_map part_octets ps ++ os) ≡ ps ++ parts os
parts-all [] os = refl
parts-all (p ∷ ps) os = rw (append_assoc (part_octets p) (flat_map part_octets ps) os) (parts-octets p (flat_map part_octets ps ++ os) ∙ ap (λ (xs : List Part). p ∷ xs) (parts-all ps os))

pub left-all : (ps : List Part) (os : List ℕ) → left (flat_map part_octets ps ++ os) ≡ left os
left-all [] os = refl
left-all (p ∷ ps) os = rw (append_assoc (part_octets p) (flat_map part_octets ps) os) (left-octets p (flat_map part_octets ps ++ os) ∙ left-all ps os)

-- octets are split in one way
pub one_split : (os : List ℕ) (ps : List Part) (rest : List ℕ) → IsSplit os ps rest → (ps ≡ parts os) × (rest ≡ left os)
one_split os ps rest h = (
  sym (ap parts h.whole ∙ parts-all ps rest ∙ ap (λ (xs : List Part). ps ++ xs) (parts-none rest h.ends) ∙ append-nil ps),
  sym (ap left h.whole ∙ left-all ps rest ∙ left-none rest h.ends),
)

-- ---- items

-- the first attribute is the first item
pub items-first : (offset : ℕ) (os rest : List ℕ) (p : Part) → os ≡ part_octets p ++ rest → items_from offset os ≡ Ok (placed p offset) ∷ items_from (offset + (2 + length p.value)) rest
unfolding items_from placed_from
items-first offset os rest p e =
    let long = ap length e ∙ length-append (part_octets p) rest in
    let same : offset + length os ≡ offset + (2 + length p.value) + length rest = omega arith in
    rw (same, e, parts-octets p rest, left-octets p rest)

-- what is no whole attribute is the last item
pub items-last : (offset : ℕ) (os : List ℕ) → 0 < length os → begins_whole os ≡ false → items_from offset os ≡ Err (record { offset = offset }) ∷ []
unfolding items_from placed_from
items-last offset [] some h = absurd (omega arith)
items-last offset (o ∷ os) some h =
    let same : offset + length (o ∷ os) - length (o ∷ os) ≡ offset = omega arith in
    rw (parts-none (o ∷ os) h, left-none (o ∷ os) h, same)

pub items-none : (offset : ℕ) → items_from offset [] ≡ []
unfolding items_from placed_from parts_after left_after
items-none offset = refl

-- ---- items from an offset on

drop_first : (offset : ℕ) (octets rest : List ℕ) (p : Part) → drop offset octets ≡ part_octets p ++ rest → drop (offset + (2 + length p.value)) octets ≡ rest
drop_first offset octets rest p e =
    sym (drop-drop (2 + length p.value) offset octets) ∙ ap (drop (2 + length p.value)) e ∙ drop_at (part_octets p) rest (2 + length p.value) (omega arith)

-- after the first attribute
pub items-more : (offset next : ℕ) (octets rest : List ℕ) (p : Part) → offset ≤ length octets → drop offset octets ≡ part_octets p ++ rest → next ≡ length octets - length rest
    → items_from offset (drop offset octets) ≡ Ok (placed p offset) ∷ items_from next (drop next octets)
items-more offset next octets rest p within e n =
    let long = ap length e ∙ length-append (part_octets p) rest in
    let size = length-drop offset octets in
    let same : next ≡ offset + (2 + length p.value) = omega arith in
    items-first offset (drop offset octets) rest p e
    ∙ rw (same, drop_first offset octets rest p e)

-- after the fault
pub items-end : (offset next : ℕ) (octets : List ℕ) → 0 < length (drop offset octets) → begins_whole (drop offset octets) ≡ false → next ≡ length octets
    → items_from offset (drop offset octets) ≡ Err (record { offset = offset }) ∷ items_from next (drop next octets)
items-end offset next octets some h n =
    let none : drop next octets ≡ [] = drop_all next octets (omega arith) in
    items-last offset (drop offset octets) some h ∙ rw (none, items-none next)

pub items-empty : (offset : ℕ) (os : List ℕ) → length os ≡ 0 → items_from offset os ≡ []
items-empty offset [] h = items-none offset
items-empty offset (o ∷ os) h = absurd (omega arith)
