use Rattle.std.proofs.Common.{◌≡◌, ◌+◌, length}
use Rattle.radpolicy_common.specs.internal.Elements.{element_length}
use Rattle.radpolicy_common.proofs.elements.element_length.Given as goal

abbrev pub invariant-loop-rest : goal.invariant-loop-rest
invariant-loop-rest l = (l.passed + element_length l.reading l.rest ≡ element_length l.reading l.pieces) × (l.passed + length l.rest ≡ length l.pieces)

abbrev pub decreases-loop-rest : goal.decreases-loop-rest
decreases-loop-rest l = length l.rest
