-- A list divided at the first pair that passes a test.
use Rattle.std.proofs.Common.{◌≡◌, ℕ, suc, ◌+◌, ◌-◌, ◌<◌, ◌≤◌, Bool, true, false, not, List, [], ◌∷◌, length, take, drop, refl, ap, ◌∙◌, arith}
use Rattle.std.specs.List.{All, after_first, before_first, filter, list_any, position_or_len}
use Rattle.std.proofs.lemmas.List.{drop-drop, drop_all, length-drop, take_all}
use Rattle.std.proofs.lemmas.List.Elements.{All-drop, All-take}
use Rattle.avp_lists.specs.declared.pairs.Pair.{Pair}
use Rattle.avp_packet.proofs.Tests.{by_test}

add-one-left : (n : ℕ) → 1 + n ≡ suc n
add-one-left n = omega arith

module _ (f : Pair → Bool) where
  -- one pair more before it
  more_before : (x : Pair) (xs : List Pair) → f x ≡ false → drop (position_or_len f (x ∷ xs)) (x ∷ xs) ≡ drop (position_or_len f xs) xs
  more_before x xs e = rw (e, add-one-left (position_or_len f xs)) refl

  pub any_after : (xs : List Pair) → 1 ≤ length (drop (position_or_len f xs) xs) → list_any f xs ≡ true
  any_after [] h = absurd (omega arith)
  any_after (x ∷ xs) h = by_test (list_any f (x ∷ xs) ≡ true) (f x) (λ e. rw e refl) (λ e. let some : 1 ≤ length (drop (position_or_len f xs) xs) = rw (more_before x xs e) at h in rw e (any_after xs some))

  pub none_after : (xs : List Pair) → length (drop (position_or_len f xs) xs) < 1 → list_any f xs ≡ false
  none_after [] h = refl
  none_after (x ∷ xs) h = by_test (list_any f (x ∷ xs) ≡ false) (f x) (λ e. let none : length (x ∷ xs) < 1 = rw e at h in absurd (omega arith)) (λ e. let none : length (drop (position_or_len f xs) xs) < 1 = rw (more_before x xs e) at h in rw e (none_after xs none))

  pub after_first_is : (xs rest : List Pair) → rest ≡ drop (position_or_len f xs) xs → take (length rest - 1) (drop 1 rest) ≡ after_first f xs
  after_first_is xs rest e =
      let long = length-drop 1 rest in
      take_all (length rest - 1) (drop 1 rest) (omega arith) ∙ ap (drop 1) e ∙ drop-drop 1 (position_or_len f xs) xs

  pub nothing_after : (xs : List Pair) → length (drop (position_or_len f xs) xs) < 1 → after_first f xs ≡ []
  nothing_after xs h = let long = length-drop (position_or_len f xs) xs in drop_all (position_or_len f xs + 1) xs (omega arith)

  pub none_before : (xs : List Pair) → filter (λ p. not (f p)) (before_first f xs) ≡ before_first f xs
  none_before [] = refl
  none_before (x ∷ xs) = by_test (filter (λ p. not (f p)) (before_first f (x ∷ xs)) ≡ before_first f (x ∷ xs)) (f x) (λ e. rw e refl) (λ e. rw (first_more x xs e, e) (ap (λ (ys : List Pair). x ∷ ys) (none_before xs)))
    where
      first_more : (x : Pair) (xs : List Pair) → f x ≡ false → before_first f (x ∷ xs) ≡ x ∷ before_first f xs
      first_more x xs e = rw (e, add-one-left (position_or_len f xs)) refl

pub kept_after : (P : Pair → Type 0) (xs rest : List Pair) (n k : ℕ) → rest ≡ drop n xs → All P xs → All P (take k (drop 1 rest))
kept_after P xs rest n k e h = rw e (All-take P k (drop 1 (drop n xs)) (All-drop P 1 (drop n xs) (All-drop P n xs h)))
