use Rattle.std.proofs.Common.{◌≡◌, ◌≤◌, length}
use Rattle.server_configuration.proofs.statements.read_arguments.Given as goal

abbrev pub decreases-loop-alloc : goal.decreases-loop-alloc
decreases-loop-alloc l = length l.cursor.rest.now

abbrev pub invariant-loop-alloc : goal.invariant-loop-alloc
invariant-loop-alloc l =
    (length l.cursor.rest.now ≤ length l.initial.cursor.rest.now) × (l.cursor.lines ≡ l.initial.cursor.lines)
