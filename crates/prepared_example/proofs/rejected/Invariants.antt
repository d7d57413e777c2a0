use Rattle.std.proofs.Common.{◌≤◌}
use Rattle.prepared_example.proofs.rejected.Given as goal

-- no more requests are rejected than there were
abbrev pub invariant-loop-port : goal.invariant-loop-port
invariant-loop-port l = l.rejected ≤ l.port-counter
