-- What is looked for among steps.
use Rattle.std.proofs.Common.{◌≡◌, ℕ, ◌+◌, ◌-◌, ◌<◌, ◌≤◌, Bool, true, false, not, List, None, Some, length, drop, length-drop, get_or, ap, arith}
use Rattle.std.specs.List.{position}
use Rattle.std.proofs.lemmas.List.Sums.{suffix_len-take_yes, suffix_len-take_no}
use Rattle.radpolicy_walk_commands.specs.Steps.{next_where, previous_where}
use Rattle.radpolicy_walk_commands.specs.declared.steps.Step.{Step}

module _ (p : Step → Bool) (steps : List Step) where
  pub previous_here : (n : ℕ) (d : Step) → 0 < n → n ≤ length steps → p (get_or steps (n - 1) d) ≡ true → previous_where p steps n ≡ n - 1
  previous_here n d some le e = omega (arith, suffix_len-take_no (λ s. not (p s)) steps n d some le (ap not e))

  pub previous_earlier : (n : ℕ) (d : Step) → 0 < n → n ≤ length steps → p (get_or steps (n - 1) d) ≡ false → previous_where p steps n ≡ previous_where p steps (n - 1)
  previous_earlier n d some le e = omega (arith, suffix_len-take_yes (λ s. not (p s)) steps n d some le (ap not e))

  pub previous_start : previous_where p steps 0 ≡ 0
  previous_start = omega arith

  pub next_found : (k c : ℕ) → k < length steps → position p (drop (k + 1) steps) ≡ Some c → next_where p steps k ≡ k + 1 + c
  next_found k c within e = grind (arith, length-drop (k + 1) steps, e)

  pub next_none : (k : ℕ) → k < length steps → position p (drop (k + 1) steps) ≡ None → next_where p steps k ≡ length steps - 1
  next_none k within e = grind (arith, length-drop (k + 1) steps, e)
