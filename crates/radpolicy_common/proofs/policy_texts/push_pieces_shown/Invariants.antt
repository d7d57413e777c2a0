use Rattle.std.proofs.Common.{◌≡◌, ◌≤◌, ◌++◌, ◌-◌, drop, length}
use Rattle.radpolicy_common.specs.PolicyTexts.{pieces_shown}
use Rattle.radpolicy_common.proofs.policy_texts.push_pieces_shown.Given as goal

abbrev pub invariant-loop-shown : goal.invariant-loop-shown
invariant-loop-shown l =
    (l.shown ≤ length l.pieces)
    × (l.text.items ++ pieces_shown l.reading l.redaction (drop l.shown l.pieces) ≡ l.fn.text.items ++ pieces_shown l.reading l.redaction l.pieces)

abbrev pub decreases-loop-shown : goal.decreases-loop-shown
decreases-loop-shown l = length l.pieces - l.shown
