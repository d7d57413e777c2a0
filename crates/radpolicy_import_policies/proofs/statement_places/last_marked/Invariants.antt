use Rattle.std.proofs.Common.{◌+◌, ◌≤◌}
use Rattle.radpolicy_import_policies.specs.internal.Marks.{MarksOnly}
use Rattle.radpolicy_import_policies.proofs.statement_places.last_marked.Given as goal

abbrev pub invariant-loop-place : goal.invariant-loop-place
invariant-loop-place l = MarksOnly (λ place. l.count ≤ place + l.last) l.marks.items
