-- Pairs among which there is no misfit fit.
use Rattle.std.proofs.Common.{◌≡◌, ℕ, ◌+◌, ◌≤◌, Bool, true, false, not, cond, ltb, List, [], ◌∷◌, length, Some, None, refl, arith}
use Rattle.std.specs.Prelude.{IsTrue}
use Rattle.std.specs.List.{position_or_len}
use Rattle.std.proofs.lemmas.Grind.{common_steps}
use Rattle.std.proofs.lemmas.List.Elements.{All-cons, All-nil}
use Rattle.std.proofs.lemmas.List.Sums.{prefix_len-le-length}
use Rattle.avp_lists.specs.declared.pairs.Pair.{Pair}
use Rattle.avp_dict.specs.Dictionary.{Dictionary}
use Rattle.avp_dict.specs.Limits.{fits}
use Rattle.radpolicy.specs.Starts.{first_misfit}
use Rattle.radpolicy.specs.internal.Fitting.{AllFit}
use Rattle.radpolicy.specs.internal.Starting.{IsFittingList}

nothing : (n m : ℕ) → n ≤ m → cond (ltb n m) (Some n) None ≡ None → n ≡ m
nothing n m b h = grind (arith, common_steps)

module _ (dictionary : Dictionary) where
  abbrev is_misfit : Pair → Bool
  is_misfit pair = not (fits pair dictionary)

  fit_to_the_end : (xs : List Pair) → position_or_len is_misfit xs ≡ length xs → AllFit dictionary xs
  fit_to_the_end [] h = All-nil (λ (p : Pair). IsTrue (fits p dictionary))
  fit_to_the_end (x ∷ xs) h = by_test (fits x dictionary) refl (fit_to_the_end xs) h
    where
      by_test : (b : Bool) → fits x dictionary ≡ b → (position_or_len is_misfit xs ≡ length xs → AllFit dictionary xs) → cond (not (not b)) (1 + position_or_len is_misfit xs) 0 ≡ length (x ∷ xs) → AllFit dictionary (x ∷ xs)
      by_test true e others l = All-cons (λ (p : Pair). IsTrue (fits p dictionary)) x xs e (others (omega (arith, l)))
      by_test false e others l = absurd (omega (arith, l))

  pub all_fit : (xs : List Pair) → first_misfit dictionary xs ≡ None → AllFit dictionary xs
  all_fit xs h = fit_to_the_end xs (nothing (position_or_len is_misfit xs) (length xs) (prefix_len-le-length _ xs) h)

  -- the empty list can be a list of a run
  pub nothing_fits : IsFittingList dictionary []
  nothing_fits = record { fit = All-nil (λ (p : Pair). IsTrue (fits p dictionary)); few = omega arith }
