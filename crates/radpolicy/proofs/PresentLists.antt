-- A list that is read place by place.
use Rattle.std.proofs.Common.{◌≡◌, ℕ, zero, suc, ◌+◌, List, [], ◌∷◌, ◌++◌, Option, Some, None, take, refl, sym, ap, subst, ◌∙◌, arith}
use Rattle.std.specs.Prelude.{All}
use Rattle.std.specs.List.{flat_map, slice_get}
use Rattle.std.proofs.lemmas.List.{append-nil, append_assoc}
use Rattle.std.proofs.lemmas.List.Elements.{All-get_or}
use Rattle.std.proofs.lemmas.Option.{get_or_from_slice_get, slice_get_within}

-- what a function makes of the item at a place, and of none nothing
abbrev pub of_item : {X : Type 0} → (X → List ℕ) → Option X → List ℕ
of_item f None = []
of_item f (Some x) = f x

next : {X : Type 0} (f : X → List ℕ) (xs : List X) (n : ℕ) → flat_map f (take (suc n) xs) ≡ flat_map f (take n xs) ++ of_item f (slice_get xs n)
next f [] zero = refl
next f [] (suc n) = refl
next f (x ∷ xs) zero = append-nil (f x)
next f (x ∷ xs) (suc n) = ap (λ (ys : List ℕ). f x ++ ys) (next f xs n) ∙ sym (append_assoc (f x) (flat_map f (take n xs)) (of_item f (slice_get xs n)))

pub one_more : {X : Type 0} (f : X → List ℕ) (xs : List X) (n : ℕ) → flat_map f (take (n + 1) xs) ≡ flat_map f (take n xs) ++ of_item f (slice_get xs n)
one_more f xs n =
    let e : suc n ≡ n + 1 = omega arith in
    subst (λ (k : ℕ). flat_map f (take k xs) ≡ flat_map f (take n xs) ++ of_item f (slice_get xs n)) e (next f xs n)

-- what is added at the end of a text is added at the end of its last part
pub joined : (a b line before after : List ℕ) → after ≡ before ++ line → before ≡ a ++ b → after ≡ a ++ (b ++ line)
joined a b line before after e f = e ∙ ap (λ (ys : List ℕ). ys ++ line) f ∙ append_assoc a b line

-- what holds of each item holds of the one at a place
pub at_place : {X : Type 0} (P : X → Type 0) (xs : List X) (n : ℕ) (x : X) → All P xs → slice_get xs n ≡ Some x → P x
at_place P xs n x each is = subst P (get_or_from_slice_get xs n x x is) (All-get_or P xs n x (slice_get_within xs n x is) each)
