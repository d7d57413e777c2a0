use Rattle.std.proofs.Common.{◌≡◌, ◌≤◌, length}
use Rattle.server_configuration.proofs.cursors.Cursor.skip_lines.Given as goal

abbrev pub decreases-loop-octet : goal.decreases-loop-octet
decreases-loop-octet l = length l.self.rest.now

abbrev pub invariant-loop-octet : goal.invariant-loop-octet
invariant-loop-octet l =
    (length l.self.rest.now ≤ length l.initial.self.rest.now) × (l.self.lines ≡ l.initial.self.lines)
