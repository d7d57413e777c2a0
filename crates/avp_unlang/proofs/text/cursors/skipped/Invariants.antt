use Rattle.std.proofs.Common.{◌≡◌, ◌+◌, ◌≤◌, length, false}
use Rattle.avp_unlang.specs.Tokens.{skipped}
use Rattle.avp_unlang.proofs.text.cursors.skipped.Given as goal

abbrev pub invariant-loop-octet : goal.invariant-loop-octet
invariant-loop-octet l = (skipped l.place l.comment l.rest ≡ skipped l.line false l.text) × (l.place + length l.rest ≤ l.line + length l.text) × (length l.rest ≤ length l.text)

abbrev pub decreases-loop-octet : goal.decreases-loop-octet
decreases-loop-octet l = length l.rest
