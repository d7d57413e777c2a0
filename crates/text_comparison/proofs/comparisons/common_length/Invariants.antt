use Rattle.text_comparison.proofs.Commons.{SameSoFar}
use Rattle.text_comparison.proofs.comparisons.common_length.Given as goal

abbrev pub invariant-loop-i : goal.invariant-loop-i
invariant-loop-i l = SameSoFar l.earlier l.now l.i
