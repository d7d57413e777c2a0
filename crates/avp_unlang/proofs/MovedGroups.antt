-- Groups of what a group has are groups of the text in which that group is.
use Rattle.std.proofs.Common.{◌≡◌, ◌≤◌, ◌<◌, ◌+◌, ◌-◌, ◌^◌, ◌++◌, suc, ℕ, List, [], ◌∷◌, map, length, take, drop, get_or, Option, None, Some, inl, inr, refl, sym, ap, ap₂, subst, ◌∙◌, arith}
use Rattle.std.proofs.lemmas.Bool.{cases_lt}
use Rattle.std.proofs.lemmas.List.{drop-drop, drop-take, get_or-append-add, get_or-drop, get_or_past, length-append, length-drop, length-map, length-take, length-take-le, take-take}
use Rattle.std.proofs.lemmas.List.Elements.{All-map}
use Rattle.std.specs.List.{All}
use Rattle.std.specs.Option.{option_map, option_map_or, unwrap_or}
use Rattle.avp_patterns.specs.Matching.{IsWithin}
use Rattle.avp_unlang.specs.Captures.{captured, octets_at, texts_at}
use Rattle.avp_unlang.specs.internal.MovedGroups.{IsMovable, moved, start_in}
use Rattle.avp_unlang.proofs.CapturedTexts.{captured_at}

-- the octets of a text from a place on, so many of them
abbrev pub cut : List ℕ → ℕ → ℕ → List ℕ
cut octets start n = take n (drop start octets)

cut_length : (octets : List ℕ) (start n : ℕ) → (length (cut octets start n) ≤ n) × (length (cut octets start n) + start ≤ length octets + start)
cut_length octets start n =
    let e = length-take n (drop start octets) in
    let d = length-drop start octets in
    (omega (arith, e), omega (arith, e, d))

module _ (octets : List ℕ) (start n : ℕ) where
  same_octets : (a b : ℕ) → a ≤ b → b ≤ length (cut octets start n) → take ((b + start) - (a + start)) (drop (a + start) octets) ≡ take (b - a) (drop a (cut octets start n))
  same_octets a b order within =
      let few : b ≤ n = omega (arith, within, (cut_length octets start n).0) in
      let rest : a + (n - a) ≡ n = omega (arith, few, order) in
      ap₂ (λ k (os : List ℕ). take k os) (omega arith) (ap (λ k. drop k octets) (omega arith) ∙ sym (drop-drop a start octets)) ∙ sym (take-take (b - a) (n - a) (drop a (drop start octets)) (omega (arith, few)))
      ∙ ap (take (b - a)) (sym (drop-take a (n - a) (drop start octets)) ∙ ap (λ k. drop a (take k (drop start octets))) rest)

  span_moved : (span : Option (ℕ × ℕ)) → IsWithin (cut octets start n) span → option_map (octets_at octets) (moved start span) ≡ option_map (octets_at (cut octets start n)) span
  span_moved None h = refl
  span_moved (Some s) h = ap Some (same_octets s.0 s.1 h.0 h.1)

  spans_moved : (spans : List (Option (ℕ × ℕ))) → All (IsWithin (cut octets start n)) spans → texts_at octets (map (moved start) spans) ≡ texts_at (cut octets start n) spans
  spans_moved [] h = refl
  spans_moved (span ∷ spans) h =
      ap₂ (λ x (xs : List (Option (List ℕ))). x ∷ xs) (span_moved span (h 0 span (omega arith))) (spans_moved spans (λ k d lt. h (suc k) d (omega (arith, lt))))

  module _ (room : start ≤ length octets) where
    span_within : (span : Option (ℕ × ℕ)) → IsWithin (cut octets start n) span → IsWithin octets (moved start span)
    span_within None h = tt
    span_within (Some s) h =
        let e = length-take n (drop start octets) in
        let d = length-drop start octets in
        (omega (arith, h.0), omega (arith, h.1, e, d, room))

-- ---- groups moved one after the other

pub at_place : (f : Option (ℕ × ℕ) → Option (ℕ × ℕ)) (spans all : List (Option (ℕ × ℕ))) (i : ℕ) (d : Option (ℕ × ℕ)) → i < length spans → all ≡ map f (take i spans) ++ drop i spans → get_or all i d ≡ get_or spans i d
at_place f spans all i d lt e =
    let l : length (map f (take i spans)) + 0 ≡ i = omega (arith, length-map (take i spans) f, length-take-le i spans (omega (arith, lt))) in
    let same : i + 0 ≡ i = omega arith in
    ap₂ (λ (xs : List (Option (ℕ × ℕ))) k. get_or xs k d) e (sym l) ∙ get_or-append-add (map f (take i spans)) (drop i spans) 0 d ∙ get_or-drop i spans 0 d ∙ ap (λ k. get_or spans k d) same

pub same_length : (f : Option (ℕ × ℕ) → Option (ℕ × ℕ)) (spans all : List (Option (ℕ × ℕ))) (i : ℕ) → i ≤ length spans → all ≡ map f (take i spans) ++ drop i spans → length all ≡ length spans
same_length f spans all i le e =
    let whole = ap length e in
    let parts = length-append (map f (take i spans)) (drop i spans) in
    omega (arith, le, whole, parts, length-map (take i spans) f, length-take-le i spans le, length-drop i spans)

-- ---- where a group begins

abbrev begin_of : Option (ℕ × ℕ) → ℕ
begin_of found = option_map_or (λ s. s.0) found 0

abbrev size_of : Option (ℕ × ℕ) → ℕ
size_of found = option_map_or (λ s. s.1 - s.0) found 0

text_of : (octets : List ℕ) (found : Option (ℕ × ℕ)) → unwrap_or (option_map (octets_at octets) found) [] ≡ cut octets (begin_of found) (size_of found)
text_of octets None = refl
text_of octets (Some s) = refl

begins_within : (octets : List ℕ) (found : Option (ℕ × ℕ)) → IsWithin octets found → begin_of found ≤ length octets
begins_within octets None h = omega arith
begins_within octets (Some s) h = omega (arith, h.0, h.1)

module _ (octets : List ℕ) (groups : List (Option (ℕ × ℕ))) (group : ℕ) (all : All (IsWithin octets) groups) where
  pub start_within : start_in groups group ≤ length octets
  start_within = elim (cases_lt group (length groups)) [
    | inl lt ↦ begins_within octets (get_or groups group None) (all group None lt)
    | inr ge ↦ subst (λ found. begin_of found ≤ length octets) (sym (get_or_past groups group None ge)) (omega arith)
  ]

  group_is : captured group (texts_at octets groups) ≡ cut octets (start_in groups group) (size_of (get_or groups group None))
  group_is = captured_at octets groups group ∙ text_of octets (get_or groups group None)

  module _ (spans : List (Option (ℕ × ℕ))) (within : All (IsWithin (captured group (texts_at octets groups))) spans) where
    cut_within : All (IsWithin (cut octets (start_in groups group) (size_of (get_or groups group None)))) spans
    cut_within = subst (λ (text : List ℕ). All (IsWithin text) spans) group_is within

    pub moved_texts : texts_at octets (map (moved (start_in groups group)) spans) ≡ texts_at (captured group (texts_at octets groups)) spans
    moved_texts = spans_moved octets (start_in groups group) (size_of (get_or groups group None)) spans cut_within ∙ ap (λ text. texts_at text spans) (sym group_is)

    each_within : All (λ span. IsWithin octets (moved (start_in groups group) span)) spans
    each_within k d lt = span_within octets (start_in groups group) (size_of (get_or groups group None)) start_within (get_or spans k d) (cut_within k d lt)

    pub moved_within : All (IsWithin octets) (map (moved (start_in groups group)) spans)
    moved_within = All-map (IsWithin octets) (moved (start_in groups group)) spans each_within

    pub all_movable : length octets < 2 ^ 64 → All (IsMovable (start_in groups group)) spans
    all_movable few k d lt = movable (get_or spans k d) (each_within k d lt) where
      movable : (span : Option (ℕ × ℕ)) → IsWithin octets (moved (start_in groups group) span) → IsMovable (start_in groups group) span
      movable None h = tt
      movable (Some s) h = (omega (arith, h.0, h.1, few), omega (arith, h.1, few))
