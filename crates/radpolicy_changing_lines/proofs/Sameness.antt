-- Lists of which one has ended are not the same.
use Rattle.std.proofs.Common.{◌≡◌, ◌≤◌, false, List, [], ◌∷◌, length, refl, arith}
use Rattle.avp_lists.specs.declared.pairs.Pair.{Pair}
use Rattle.radpolicy_changing_lines.specs.ChangingLines.{are_same}

pub longer_before : (before after : List Pair) → 1 ≤ length before → length after ≡ 0 → false ≡ are_same before after
longer_before [] after h e = absurd (omega arith)
longer_before (p ∷ ps) [] h e = refl
longer_before (p ∷ ps) (q ∷ qs) h e = absurd (omega arith)

pub longer_after : (before after : List Pair) → length before ≡ 0 → 1 ≤ length after → false ≡ are_same before after
longer_after before [] h e = absurd (omega arith)
longer_after [] (q ∷ qs) h e = refl
longer_after (p ∷ ps) (q ∷ qs) h e = absurd (omega arith)
