-- What a place that `position` found says of the parts before and after it.
use Rattle.std.proofs.Common.{◌≡◌, ℕ, ◌+◌, ◌<◌, ◌≤◌, Bool, true, false, not, cond, ltb, suc, List, [], ◌∷◌, length, take, drop, Some, None, refl, arith}
use Rattle.std.specs.List.{position, position_or_len, slice_split, onto_first}
use Rattle.std.proofs.lemmas.Grind.{common_steps}
use Rattle.std.proofs.lemmas.Option.{cond_some}
use Rattle.std.proofs.lemmas.List.Splits.{slice_split_first}
use Rattle.std.proofs.lemmas.List.Sums.{prefix_len-le-length}

pub found_at : {X : Type 0} (p : X → Bool) (xs : List X) (i : ℕ) → position p xs ≡ Some i → position_or_len p xs ≡ i
found_at p xs i h = (cond_some _ _ _ h).1

pub found_within : {X : Type 0} (p : X → Bool) (xs : List X) (i : ℕ) → position p xs ≡ Some i → i < length xs
found_within p xs i h =
    let e = cond_some _ _ _ h in
    grind (arith, e)

nothing : (n m : ℕ) → n ≤ m → cond (ltb n m) (Some n) None ≡ None → n ≡ m
nothing n m b h = grind (arith, common_steps)

pub found_nothing : (p : ℕ → Bool) (xs : List ℕ) → position p xs ≡ None → position_or_len p xs ≡ length xs
found_nothing p xs h = nothing (position_or_len p xs) (length xs) (prefix_len-le-length _ xs) h

one_part_by : (b : Bool) (x : ℕ) (xs : List ℕ) (n : ℕ) (parts : List (List ℕ)) → (n ≡ length xs → parts ≡ xs ∷ []) → cond (not b) (1 + n) 0 ≡ suc (length xs) → cond b ([] ∷ parts) (onto_first x parts) ≡ (x ∷ xs) ∷ []
one_part_by true x xs n parts h e = absurd (omega arith)
one_part_by false x xs n parts h e = rw (h (omega arith))

one_part : (p : ℕ → Bool) (xs : List ℕ) → position_or_len p xs ≡ length xs → slice_split p xs ≡ xs ∷ []
one_part p [] h = refl
one_part p (x ∷ xs) h = one_part_by (p x) x xs (position_or_len p xs) (slice_split p xs) (one_part p xs) h

-- the first part, and the rest cut
pub parts_more : (p : ℕ → Bool) (xs : List ℕ) (i : ℕ) → position p xs ≡ Some i → slice_split p xs ≡ take i xs ∷ slice_split p (drop (i + 1) xs)
parts_more p xs i h =
    let at = found_at p xs i h in
    let within : position_or_len p xs < length xs = rw at (found_within p xs i h) in
    rw at at (slice_split_first p xs 0 within)

pub parts_last : (p : ℕ → Bool) (xs : List ℕ) → position p xs ≡ None → slice_split p xs ≡ xs ∷ []
parts_last p xs h = one_part p xs (found_nothing p xs h)
