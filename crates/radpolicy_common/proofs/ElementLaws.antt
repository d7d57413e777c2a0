-- The first element of pieces.
use Rattle.std.proofs.Common.{◌≡◌, ◌∙◌, ℕ, suc, ◌+◌, ◌<◌, true, false, if◌then◌else◌, List, [], ◌∷◌, ◌++◌, length, take, drop, refl, sym, ap, arith}
use Rattle.std.proofs.lemmas.List.{drop-drop, length-drop}
use Rattle.std.specs.List.{flat_map}
use Rattle.radpolicy_common.specs.Pieces.{Piece}
use Rattle.radpolicy_common.specs.PolicyTexts.{begun_by, element_shown, elements, ends_element, pieces_shown}
use Rattle.radpolicy_common.specs.Secrets.{Redaction}
use Rattle.radpolicy_common.specs.declared.elements.Reading.{Reading}
use Rattle.radpolicy_common.specs.internal.Elements.{element_length}

pub first_cut : (r : Reading) (p : Piece) (ps : List Piece) → elements r (p ∷ ps)
    ≡ take (element_length r (p ∷ ps)) (p ∷ ps) ∷ elements r (drop (element_length r (p ∷ ps)) (p ∷ ps))
first_cut r p [] = refl
first_cut r p (q ∷ qs) =
    let n : ℕ = element_length r (q ∷ qs) in
    let all : List Piece = p ∷ q ∷ qs in
    elim (ends_element r p (q ∷ qs)) as (λ ends. (if ends then (p ∷ []) ∷ elements r (q ∷ qs) else begun_by p (elements r (q ∷ qs)))
    ≡ take (if ends then 1 else suc n) all ∷ elements r (drop (if ends then 1 else suc n) all)) [
      | true ↦ refl
      | false ↦ ap (begun_by p) (first_cut r q qs)
    ]

pub first_of : (r : Reading) (ps front back : List Piece) (n : ℕ) → 0 < length ps → n ≡ element_length r ps → front ≡ take n ps → back ≡ drop n ps
    → elements r ps ≡ front ∷ elements r back
first_of r [] front back n some length_is front_is back_is = absurd (omega (arith, some))
first_of r (p ∷ ps) front back n some length_is front_is back_is = rw (front_is, back_is, length_is) (first_cut r p ps)

-- what is shown of the pieces from a place on is what is shown of their first element and of the pieces behind it
pub shown_next : (r : Reading) (redaction : Redaction) (pieces : List Piece) (k n : ℕ) → k < length pieces → n ≡ element_length r (drop k pieces)
    → pieces_shown r redaction (drop k pieces) ≡ element_shown r redaction (take n (drop k pieces)) ++ pieces_shown r redaction (drop (k + n) pieces)
shown_next r redaction pieces k n within length_is =
    let rest : List Piece = drop k pieces in
    let some : 0 < length rest = rw (length-drop k pieces) (omega (arith, within)) in
    let cut : elements r rest ≡ take n rest ∷ elements r (drop n rest) = first_of r rest (take n rest) (drop n rest) n some length_is refl refl in
    ap (flat_map (element_shown r redaction)) cut ∙ ap (λ (back : List Piece). element_shown r redaction (take n rest) ++ pieces_shown r redaction back) (drop-drop n k pieces)
