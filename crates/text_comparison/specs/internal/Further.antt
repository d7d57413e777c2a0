-- How much more two texts both begin with.
use Rattle.std.specs.Prelude.{◌≡◌, ◌++◌, List, ℕ, drop, take}
use Rattle.text_comparison.specs.Comparisons.{after, common}

-- where texts go on so, both begin with so many octets more
pub record IsFurther (xs ys more more_now : List ℕ) (count : ℕ) : Type 0 where
  pub front : common (xs ++ more) (ys ++ more_now) ≡ common xs ys ++ take count more
  pub rest : after (common (xs ++ more) (ys ++ more_now)) (xs ++ more)
      ≡ after (common xs ys) xs ++ drop count more
  pub rest_now : after (common (xs ++ more) (ys ++ more_now)) (ys ++ more_now)
      ≡ after (common xs ys) ys ++ drop count more_now
