use Rattle.std.proofs.Common.{◌≡◌, ◌++◌, List, ℕ}
use Rattle.std.specs.Io.KnownBytes.{Appends}
use Rattle.radpolicy_replay_records.proofs.replays.write_text.Given as goal

abbrev pub invariant-loop : goal.invariant-loop
invariant-loop g l = (written : List ℕ) × (l.text ≡ written ++ l.rest)
    × Appends (g.W.Write.contents l.fn.out) (g.W.Write.contents l.out) written
