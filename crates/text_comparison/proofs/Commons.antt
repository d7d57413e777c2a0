-- What two texts both begin with, as they go on.
use Rattle.std.proofs.Common.{◌≡◌, ◌∙◌, ◌<◌, ◌≤◌, ℕ, zero, suc, ◌+◌, ◌-◌, ◌==◌, Bool, true, false, cond, ◌⊎◌, inl, inr, min, List, [], ◌∷◌, ◌++◌, refl, sym, ap, subst, length, take, drop, get_or, arith, eqb-true, eq-eqb}
use Rattle.std.specs.List.{common_prefix_len}
use Rattle.std.proofs.lemmas.Bool.{cases_lt}
use Rattle.std.proofs.lemmas.List.{append-nil, drop-append-le, length-drop, take_all}
use Rattle.std.proofs.lemmas.List.Sums.{common_prefix_len-drop_no, common_prefix_len-drop_yes, common_prefix_len-le}
use Rattle.std.proofs.Math.Seq.{drop-append-add, drop-length}
use Rattle.text_comparison.specs.Comparisons.{AreCompared, GoOn, after, common}
use Rattle.text_comparison.specs.internal.Further.{IsFurther}
use Rattle.text_comparison.specs.Parts.{IsBeginning, IsPlace}

abbrev same : ℕ → ℕ → Bool
same a b = a == b

-- ---- its length

by_length : (o : ℕ) (b : Bool) (front : List ℕ) (n : ℕ) → length front ≡ n → length (cond b (o ∷ front) []) ≡ cond b (1 + n) 0
by_length o true front n e = omega (arith, e)
by_length o false front n e = refl

pub common_length : (xs ys : List ℕ) → length (common xs ys) ≡ common_prefix_len same xs ys
common_length [] ys = refl
common_length (x ∷ xs) [] = refl
common_length (x ∷ xs) (y ∷ ys) = by_length x (x == y) (common xs ys) (common_prefix_len same xs ys) (common_length xs ys)

-- the first i octets are the same, of as many as are at most
abbrev pub SameSoFar : List ℕ → List ℕ → ℕ → Type 0
SameSoFar xs ys i = i + common_prefix_len same (drop i xs) (drop i ys) ≡ common_prefix_len same xs ys

pub one_more : (xs ys : List ℕ) (i x y : ℕ) → i < length xs → i < length ys → get_or xs i x ≡ get_or ys i y → SameSoFar xs ys i → SameSoFar xs ys (i + 1)
one_more xs ys i x y within_xs within_ys at so_far =
    let next : same (get_or xs i x) (get_or ys i y) ≡ true = eq-eqb (get_or xs i x) (get_or ys i y) at in
    omega (arith, common_prefix_len-drop_yes same xs ys i x y within_xs within_ys next)

pub no_more : (xs ys : List ℕ) (i x y : ℕ) → i < length xs → i < length ys → same (get_or xs i x) (get_or ys i y) ≡ false → SameSoFar xs ys i → i ≡ length (common xs ys)
no_more xs ys i x y within_xs within_ys other so_far =
    omega (arith, common_prefix_len-drop_no same xs ys i x y within_xs within_ys other, common_length xs ys)

at_end : (xs ys : List ℕ) (i : ℕ) → (length xs ≤ i) ⊎ (length ys ≤ i) → SameSoFar xs ys i → i ≡ length (common xs ys)
at_end xs ys i (inl over) so_far = omega (arith, (common_prefix_len-le same (drop i xs) (drop i ys)).0, length-drop i xs, common_length xs ys)
at_end xs ys i (inr over) so_far = omega (arith, (common_prefix_len-le same (drop i xs) (drop i ys)).1, length-drop i ys, common_length xs ys)

pub at_shorter_end : (xs ys : List ℕ) (i : ℕ) → i ≡ min (length xs) (length ys) → SameSoFar xs ys i → i ≡ length (common xs ys)
at_shorter_end xs ys i end so_far = elim (cases_lt (length xs) (length ys)) [
  | inl shorter ↦ at_end xs ys i (inl (omega arith)) so_far
  | inr longer ↦ at_end xs ys i (inr (omega arith)) so_far
]

-- ---- the same

pub common_same : (xs : List ℕ) → common xs xs ≡ xs
common_same [] = refl
common_same (x ∷ xs) = ap (λ b. cond b (x ∷ common xs xs) []) (eq-eqb x x refl) ∙ ap (λ l. x ∷ l) (common_same xs)

-- what both begin with is what each begins with
begins : (xs ys : List ℕ) → common xs ys ++ after (common xs ys) xs ≡ xs
begins [] ys = refl
begins (x ∷ xs) [] = refl
begins (x ∷ xs) (y ∷ ys) = elim (x == y) as (λ b. cond b (x ∷ common xs ys) [] ++ after (cond b (x ∷ common xs ys) []) (x ∷ xs) ≡ x ∷ xs) [
  | true ↦ ap (λ l. x ∷ l) (begins xs ys)
  | false ↦ refl
]

begins_now : (xs ys : List ℕ) → common xs ys ++ after (common xs ys) ys ≡ ys
begins_now [] ys = refl
begins_now (x ∷ xs) [] = refl
begins_now (x ∷ xs) (y ∷ ys) = elim (x == y) as (λ b. x == y ≡ b → cond b (x ∷ common xs ys) [] ++ after (cond b (x ∷ common xs ys) []) (y ∷ ys) ≡ y ∷ ys) [
  | true ↦ λ e. ap (λ o. o ∷ common xs ys ++ after (common xs ys) ys) (eqb-true x y e) ∙ ap (λ l. y ∷ l) (begins_now xs ys)
  | false ↦ λ e. refl
] refl

pub same_texts : (xs ys : List ℕ) → after (common xs ys) xs ≡ [] → after (common xs ys) ys ≡ [] → xs ≡ ys
same_texts xs ys none none_now =
    let whole : common xs ys ≡ xs = sym (append-nil (common xs ys)) ∙ ap (λ l. common xs ys ++ l) (sym none) ∙ begins xs ys in
    let whole_now : common xs ys ≡ ys = sym (append-nil (common xs ys)) ∙ ap (λ l. common xs ys ++ l) (sym none_now) ∙ begins_now xs ys in
    sym whole ∙ whole_now

pub nothing_after : (xs : List ℕ) → after (common xs xs) xs ≡ []
nothing_after xs = ap (λ l. after l xs) (common_same xs) ∙ drop-length xs

-- ---- as two that are the same go on

pub common_further : (xs more more_now : List ℕ) → common (xs ++ more) (xs ++ more_now) ≡ xs ++ common more more_now
common_further [] more more_now = refl
common_further (x ∷ xs) more more_now =
    ap (λ b. cond b (x ∷ common (xs ++ more) (xs ++ more_now)) []) (eq-eqb x x refl) ∙ ap (λ l. x ∷ l) (common_further xs more more_now)

after_further : (xs front more : List ℕ) → after (xs ++ front) (xs ++ more) ≡ after front more
after_further [] front more = refl
after_further (x ∷ xs) front more = after_further xs front more

-- ---- as two go on that are not

common_within : (xs ys : List ℕ) → length (common xs ys) ≤ length xs
common_within xs ys = let e = common_length xs ys in omega (arith, e, (common_prefix_len-le same xs ys).0)

common_within_now : (xs ys : List ℕ) → length (common xs ys) ≤ length ys
common_within_now xs ys = let e = common_length xs ys in omega (arith, e, (common_prefix_len-le same xs ys).1)

none_with_none : (xs : List ℕ) → common xs [] ≡ []
none_with_none [] = refl
none_with_none (x ∷ xs) = refl

pub common_kept : (xs ys more more_now : List ℕ) → (xs ≡ ys → ⊥) → GoOn xs ys more more_now → common (xs ++ more) (ys ++ more_now) ≡ common xs ys
common_kept [] [] more more_now other on = absurd (other refl)
common_kept [] (y ∷ ys) more more_now other on =
    ap (λ l. common l (y ∷ ys ++ more_now)) (on.0 (omega arith))
common_kept (x ∷ xs) [] more more_now other on =
    ap (λ l. common (x ∷ xs ++ more) l) (on.1 (omega arith))
common_kept (x ∷ xs) (y ∷ ys) more more_now other on = elim (x == y) as (λ b. x == y ≡ b → cond b (x ∷ common (xs ++ more) (ys ++ more_now)) [] ≡ cond b (x ∷ common xs ys) []) [
  | true ↦ λ e. ap (λ l. x ∷ l) (common_kept xs ys more more_now (λ tails. other (ap (λ o. o ∷ xs) (eqb-true x y e) ∙ ap (λ l. y ∷ l) tails)) (λ shorter. on.0 (omega (arith, shorter)), λ longer. on.1 (omega (arith, longer))))
  | false ↦ λ e. refl
] refl

-- ---- how much further

taken_front : (xs ys : List ℕ) → take (length (common xs ys)) xs ≡ common xs ys
taken_front [] ys = refl
taken_front (x ∷ xs) [] = refl
taken_front (x ∷ xs) (y ∷ ys) = elim (x == y) as (λ b. take (length (cond b (x ∷ common xs ys) [])) (x ∷ xs) ≡ cond b (x ∷ common xs ys) []) [
  | true ↦ ap (λ l. x ∷ l) (taken_front xs ys)
  | false ↦ refl
]

after_same : (xs more more_now text : List ℕ) → after (common (xs ++ more) (xs ++ more_now)) (xs ++ text) ≡ after (common xs xs) xs ++ after (common more more_now) text
after_same xs more more_now text =
    ap (λ l. after l (xs ++ text)) (common_further xs more more_now) ∙ after_further xs (common more more_now) text
    ∙ sym (ap (λ l. l ++ after (common more more_now) text) (nothing_after xs))

pub further_same : (xs ys more more_now : List ℕ) → xs ≡ ys → IsFurther xs ys more more_now (length (common more more_now))
further_same xs ys more more_now are = subst (λ zs. IsFurther xs zs more more_now (length (common more more_now))) are (record {
  front = common_further xs more more_now ∙ ap (λ l. l ++ common more more_now) (sym (common_same xs)) ∙ ap (λ l. common xs xs ++ l) (sym (taken_front more more_now));
  rest = after_same xs more more_now more;
  rest_now = after_same xs more more_now more_now;
})

pub further_other : (xs ys more more_now : List ℕ) → (xs ≡ ys → ⊥) → GoOn xs ys more more_now → IsFurther xs ys more more_now 0
further_other xs ys more more_now other on =
    let kept = common_kept xs ys more more_now other on in
    record {
      front = kept ∙ sym (append-nil (common xs ys));
      rest = ap (λ l. after l (xs ++ more)) kept ∙ drop-append-le (length (common xs ys)) xs more (common_within xs ys);
      rest_now = ap (λ l. after l (ys ++ more_now)) kept ∙ drop-append-le (length (common xs ys)) ys more_now (common_within_now xs ys);
    }

pub apart : (a b : ℕ) → (a ≡ b → ⊥) → same a b ≡ false
apart a b other = elim (a == b) as (λ c. a == b ≡ c → c ≡ false) [
  | true ↦ λ e. absurd (other (eqb-true a b e))
  | false ↦ λ e. refl
] refl

pub not_both : (b : Bool) → b ≡ true → b ≡ false → ⊥
not_both b is other = grind (arith, is, other)

pub rest_taken : (n : ℕ) (xs : List ℕ) → take (length xs - n) (drop n xs) ≡ drop n xs
rest_taken n xs = take_all (length xs - n) (drop n xs) (let e = length-drop n xs in omega (arith, e))
