use Rattle.std.proofs.Common.{◌≡◌, ◌==◌, ◌||◌, ℕ, drop}
use Rattle.std.specs.List.{list_any}
use Rattle.radpolicy_walk_commands.specs.Steps.{is_one_of}
use Rattle.radpolicy_walk_commands.proofs.edited_lines.set_of.Given as goal

abbrev pub invariant-loop-number : goal.invariant-loop-number
invariant-loop-number l = (n : ℕ) → list_any (λ own. n == own) l.lines.keys || is_one_of (drop l.number-index l.numbers) n ≡ is_one_of l.numbers n
