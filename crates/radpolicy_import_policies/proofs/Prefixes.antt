-- What holds of the elements of a list up to a place.
use Rattle.std.proofs.Common.{inl, inr, ◌≡◌, ◌∙◌, ℕ, suc, ◌+◌, List, [], ◌∷◌, All, None, Some, take, slice_get, get_or, subst, sym, arith}
use Rattle.std.proofs.Math.Seq.{take-suc}
use Rattle.std.proofs.lemmas.List.{take_all}
use Rattle.std.proofs.lemmas.List.Elements.{All-append, All-cons, All-nil}
use Rattle.std.proofs.lemmas.Option.{get_or_from_slice_get, slice_get_cases, slice_get_within}

-- one element more
pub one_more : {X : Type 0} (P : X → Type 0) (xs : List X) (k : ℕ) (x : X) → All P (take k xs) → slice_get xs k ≡ Some x → P x → All P (take (k + 1) xs)
one_more P xs k x before there one =
    let grown = take-suc xs k x (slice_get_within xs k x there) in
    let last : All P (get_or xs k x ∷ []) = All-cons P (get_or xs k x) [] (subst P (sym (get_or_from_slice_get xs k x x there)) one) (All-nil P) in
    let next : suc k ≡ k + 1 = omega arith in
    subst (λ (n : ℕ). All P (take n xs)) next (subst (All P) (sym grown) (All-append P (take k xs) (get_or xs k x ∷ []) before last))

-- past the last one
pub all : {X : Type 0} (P : X → Type 0) (xs : List X) (k : ℕ) → All P (take k xs) → slice_get xs k ≡ None → All P xs
all P xs k before none =
    elim (slice_get_cases xs k).1 as (λ _. All P xs) [
      | inl here ↦ absurd (cc (sym here.2 ∙ none))
      | inr past ↦ subst (All P) (take_all k xs past.0) before
    ]
