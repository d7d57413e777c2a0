use Rattle.std.proofs.Common.{◌≡◌, ◌≤◌, length}
use Rattle.server_configuration.proofs.texts.read_quoted.Given as goal

abbrev pub decreases-loop-octet : goal.decreases-loop-octet
decreases-loop-octet l = length l.cursor.rest.now

abbrev pub invariant-loop-octet : goal.invariant-loop-octet
invariant-loop-octet l =
    (length l.cursor.rest.now ≤ length l.initial.cursor.rest.now) × (l.cursor.lines ≡ l.initial.cursor.lines)
