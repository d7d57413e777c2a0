use Rattle.std.proofs.Common.{◌≡◌, ◌+◌, length}
use Rattle.radpolicy_common.specs.Pieces.{line_length}
use Rattle.radpolicy_common.proofs.pieces.line_length.Given as goal

abbrev pub invariant-loop-rest : goal.invariant-loop-rest
invariant-loop-rest l = (l.passed + line_length l.rest ≡ line_length l.text) × (l.passed + length l.rest ≡ length l.text)

abbrev pub decreases-loop-rest : goal.decreases-loop-rest
decreases-loop-rest l = length l.rest
