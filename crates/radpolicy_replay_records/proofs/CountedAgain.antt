-- Counts of differences of which one more is counted again.
use Rattle.std.proofs.Common.{◌≡◌, ℕ, ◌+◌, ◌<◌, ◌≤◌, List, [], ◌∷◌, ◌++◌, length, get_or, set, take, drop, map, sym, ap, ◌∙◌, arith}
use Rattle.std.proofs.lemmas.List.{length-map, length-take-le, drop_more, take_more, map_push, get_or_at, set_at, append_assoc}
use Rattle.radpolicy_replay_records.specs.DifferenceCounts.{counted_again}
use Rattle.radpolicy_replay_records.specs.declared.difference_counts.DifferenceCount.{DifferenceCount}

-- whatever stands for an item that is not there
pub counted_more : (name difference : List ℕ) (none : DifferenceCount) (xs : List DifferenceCount) (i : ℕ) → i < length xs → set (map (counted_again name difference) (take i xs) ++ drop i xs) i (counted_again name difference (get_or (map (counted_again name difference) (take i xs) ++ drop i xs) i none)) ≡ map (counted_again name difference) (take (i + 1) xs) ++ drop (i + 1) xs
counted_more name difference none xs i within =
    let f = counted_again name difference in
    let p = map f (take i xs) in
    let x = get_or xs i none in
    let rest = drop (i + 1) xs in
    let le : i ≤ length xs = omega arith in
    let long : length p ≡ i = length-map (take i xs) f ∙ length-take-le i xs le in
    let here : drop i xs ≡ x ∷ rest = drop_more xs i none within in
    let more : map f (take (i + 1) xs) ≡ p ++ f x ∷ [] = ap (map f) (take_more xs i none within) ∙ map_push f (take i xs) x in
    ap (λ (ys : List DifferenceCount). set (p ++ ys) i (f (get_or (p ++ ys) i none))) here
    ∙ ap (λ (c : DifferenceCount). set (p ++ x ∷ rest) i (f c)) (get_or_at p x rest none i long)
    ∙ set_at p x rest (f x) i long
    ∙ sym (append_assoc p (f x ∷ []) rest)
    ∙ ap (λ (ys : List DifferenceCount). ys ++ rest) (sym more)
