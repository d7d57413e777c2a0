use Rattle.std.proofs.Common.{◌≡◌, ◌⊎◌, true, false, get_or}
use Rattle.std.specs.List.{Contains}
use Rattle.radpolicy_import_policies.specs.internal.Marks.{MarksOnly}
use Rattle.radpolicy_import_policies.proofs.statement_places.mark.Given as goal

abbrev pub invariant-loop-place : goal.invariant-loop-place
invariant-loop-place l = MarksOnly (λ place. Contains l.places place ⊎ get_or l.fn.marks place false ≡ true) l.marks
