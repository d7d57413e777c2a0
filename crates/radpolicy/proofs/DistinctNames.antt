-- Names, one after the other, of which no two are the same.
use Rattle.std.proofs.Common.{◌≡◌, ◌≢◌, ◌+◌, ◌<◌, ◌≤◌, ◌++◌, ◌∷◌, ◌∙◌, [], All, Bor, List, ap, arith, get_or, false, length, length-take-le, map, ℕ, sym, take, true}
use Rattle.std.specs.Str.{bytes_eq}
use Rattle.std.proofs.lemmas.Slice.Eq.{bytes_eq-Decides}
use Rattle.std.proofs.lemmas.List.{get_or-map, get_or-take, length-map, map-append, take_all, take_more}
use Rattle.std.proofs.lemmas.List.Elements.{All-push}
use Rattle.std.proofs.lemmas.List.Quantifiers.{all_pairs_push}
use Rattle.radpolicy.specs.Plans.{AreDistinct}

abbrev seen : List (Bor (List ℕ)) → List (List ℕ)
seen names = map (λ name. name.now) names

module _ (names : List (Bor (List ℕ))) (i : ℕ) where
  -- all names
  pub all_taken : length names ≤ i → seen (take i names) ≡ seen names
  all_taken all = ap seen (take_all i names all)

  module _ (d : Bor (List ℕ)) (within : i < length names) where
    -- a name more
    taken_more : seen (take (i + 1) names) ≡ seen (take i names) ++ (get_or names i d).now ∷ []
    taken_more = ap seen (take_more names i d within) ∙ map-append _ _ _

    -- a name more that is another
    pub all_others_push : (name : List ℕ) → All (λ taken. taken ≢ name) (seen (take i names)) → bytes_eq (get_or names i d).now name ≡ false → All (λ taken. taken ≢ name) (seen (take (i + 1) names))
    all_others_push name before other =
        let differs : (get_or names i d).now ≢ name = λ same. let equal = (bytes_eq-Decides (get_or names i d).now name).1 same in cc in
        rw taken_more (All-push (λ taken. taken ≢ name) _ _ before differs)

    -- a name more that none of those before it is
    pub distinct_push : AreDistinct (seen (take i names)) → All (λ taken. taken ≢ (get_or names i d).now) (seen (take i names)) → AreDistinct (seen (take (i + 1) names))
    distinct_push before others = rw taken_more (all_pairs_push (λ a b. a ≢ b) _ _ before others)

    -- a name that one of them is
    pub one_is : (name : List ℕ) → bytes_eq (get_or names i d).now name ≡ true → All (λ taken. taken ≢ name) (seen names) → ⊥
    one_is name equal others =
        let within_seen : i < length (seen names) = omega (arith, length-map names (λ (n : Bor (List ℕ)). n.now), within) in
        others i [] within_seen (get_or-map (λ (n : Bor (List ℕ)). n.now) names i d [] within ∙ (bytes_eq-Decides (get_or names i d).now name).0 equal)

    -- one that is among those before it
    pub not_distinct : (All (λ taken. taken ≢ (get_or names i d).now) (seen (take i names)) → ⊥) → AreDistinct (seen names) → ⊥
    not_distinct taken distinct = taken (λ k e before.
        let front : length (seen (take i names)) ≡ i = length-map (take i names) (λ (n : Bor (List ℕ)). n.now) ∙ length-take-le i names (omega (arith, within)) in
        let k_below : k < i = omega (arith, before, front) in
        let within_seen : i < length (seen names) = omega (arith, length-map names (λ (n : Bor (List ℕ)). n.now), within) in
        let here : get_or (seen (take i names)) k e ≡ (get_or names k d).now =
        get_or-map (λ (n : Bor (List ℕ)). n.now) (take i names) k d e (omega (arith, k_below, length-take-le i names (omega (arith, within))))
        ∙ ap (λ (n : Bor (List ℕ)). n.now) (get_or-take i names k d k_below) in
        λ same. distinct k i [] k_below within_seen
        (get_or-map (λ (n : Bor (List ℕ)). n.now) names k d [] (omega (arith, k_below, within)) ∙ sym here ∙ same
        ∙ sym (get_or-map (λ (n : Bor (List ℕ)). n.now) names i d [] within)))
