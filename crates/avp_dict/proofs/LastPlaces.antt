-- The last place after one more line, and the line that is there.
use Rattle.std.proofs.Common.{◌≡◌, ℕ, zero, suc, Bool, true, false, cond, List, [], ◌∷◌, ◌++◌, length, reverse, slice_get, Option, Some, None, option_and_then, refl, sym, ap, subst, ◌∙◌, if◌then◌else◌, All, find}
use Rattle.std.proofs.lemmas.List.Elements.{All-head, All-tail}
use Rattle.std.proofs.lemmas.List.{reverse-append}
use Rattle.avp_dict.specs.Dictionary.{last_where}
use Rattle.avp_dict.specs.internal.Tables.{IsLastAt, last_place}

front_kept : {X : Type 0} (xs more : List X) (i : ℕ) (x : X) → slice_get xs i ≡ Some x → slice_get (xs ++ more) i ≡ Some x
front_kept [] more i x h = absurd (cc)
front_kept (y ∷ xs) more zero x h = h
front_kept (y ∷ xs) more (suc i) x h = front_kept xs more i x h

module _ {X : Type 0} (test : X → Bool) where
  abbrev after : X → Option ℕ → Option ℕ
  after x found = elim found [ Some i ↦ Some (suc i) | None ↦ (if test x then Some 0 else None) ]

  moved : (b : Bool) (x : X) (n : ℕ) (found : Option ℕ) → after x (if b then Some n else found) ≡ (if b then Some (suc n) else after x found)
  moved true x n found = refl
  moved false x n found = refl

  pub last_place_push : (xs : List X) (x : X) → last_place test (xs ++ x ∷ []) ≡ if test x then Some (length xs) else last_place test xs
  last_place_push [] x = refl
  last_place_push (y ∷ ys) x = ap (after y) (last_place_push ys x) ∙ moved (test x) y (length ys) (last_place test ys)

  abbrev pub or_then : Option X → Option X → Option X
  or_then r other = elim r [ Some y ↦ Some y | None ↦ other ]

  found_first : (b : Bool) (y : X) (new old other : Option X) → new ≡ or_then old other → cond b (Some y) new ≡ or_then (cond b (Some y) old) other
  found_first true y new old other h = refl
  found_first false y new old other h = h

  find_push : (xs : List X) (x : X) → find test (xs ++ x ∷ []) ≡ or_then (find test xs) (cond (test x) (Some x) None)
  find_push [] x = refl
  find_push (y ∷ ys) x = found_first (test y) y (find test (ys ++ x ∷ [])) (find test ys) (cond (test x) (Some x) None) (find_push ys x)

  -- both find nothing, or the place has the line
  abbrev Agree : List X → Option ℕ → Option X → Type 0
  Agree xs place line = elim place [ None ↦ (line ≡ None) | Some i ↦ (y : X) × (slice_get xs i ≡ Some y) × (line ≡ Some y) ]

  at_head : (b : Bool) (x : X) (xs : List X) (line : Option X) → line ≡ None → Agree (x ∷ xs) (if b then Some 0 else None) (or_then line (cond b (Some x) None))
  at_head true x xs line h = (x, refl, ap (λ r. or_then r (Some x)) h)
  at_head false x xs line h = ap (λ r. or_then r None) h

  one_more : (place : Option ℕ) (line : Option X) (x : X) (xs : List X) → Agree xs place line → Agree (x ∷ xs) (after x place) (or_then line (cond (test x) (Some x) None))
  one_more None line x xs h = at_head (test x) x xs line h
  one_more (Some i) line x xs h = (h.0, h.1, ap (λ r. or_then r (cond (test x) (Some x) None)) h.2)

  pub last_first : (x : X) (xs : List X) → last_where test (x ∷ xs) ≡ or_then (last_where test xs) (cond (test x) (Some x) None)
  last_first x xs = ap (find test) (reverse-append (x ∷ []) xs) ∙ find_push (reverse xs) x

  agreeing : (xs : List X) → Agree xs (last_place test xs) (last_where test xs)
  agreeing [] = refl
  agreeing (x ∷ xs) = subst (Agree (x ∷ xs) (last_place test (x ∷ xs))) (sym (last_first x xs)) (one_more (last_place test xs) (last_where test xs) x xs (agreeing xs))

  found_by : (xs : List X) (place : Option ℕ) (line : Option X) → Agree xs place line → line ≡ option_and_then (slice_get xs) place
  found_by xs None line h = h
  found_by xs (Some i) line h = h.2 ∙ sym h.1

  -- the last line is at the last place
  pub last_found : (xs : List X) → last_where test xs ≡ option_and_then (slice_get xs) (last_place test xs)
  last_found xs = found_by xs (last_place test xs) (last_where test xs) (agreeing xs)

  at_place : (xs : List X) (place : Option ℕ) → Agree xs place (last_where test xs) → IsLastAt test xs place
  at_place xs None h = h
  at_place xs (Some i) h = h

  pub last_at : (xs : List X) → IsLastAt test xs (last_place test xs)
  last_at xs = at_place xs (last_place test xs) (agreeing xs)

  -- a line that was the last one is found after others are added
  pub found_before : (xs more : List X) (place : Option ℕ) → IsLastAt test xs place → option_and_then (slice_get (xs ++ more)) place ≡ last_where test xs
  found_before xs more None h = sym h
  found_before xs more (Some i) h = front_kept xs more i h.0 h.1 ∙ sym h.2

  -- a table that gives the last place gives it after one more line
  pub last_place_kept : (xs : List X) (x : X) (n : ℕ) (before after : Option ℕ) → n ≡ length xs → before ≡ last_place test xs → after ≡ (if test x then Some n else before) → after ≡ last_place test (xs ++ x ∷ [])
  last_place_kept xs x n before after len is put =
      put ∙ (λ i. if test x then Some (len i) else is i) ∙ sym (last_place_push xs x)

  -- no line passes
  pub last_place_none : (xs : List X) → All (λ x. test x ≡ false) xs → last_place test xs ≡ None
  last_place_none [] h = refl
  last_place_none (x ∷ xs) h = ap (after x) (last_place_none xs (All-tail (λ y. test y ≡ false) x xs h)) ∙ ap (λ b. if b then Some 0 else None) (All-head (λ y. test y ≡ false) x xs h)
