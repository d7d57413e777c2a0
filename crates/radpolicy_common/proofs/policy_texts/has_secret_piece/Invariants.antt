use Rattle.std.proofs.Common.{◌≡◌, length}
use Rattle.std.specs.List.{list_any}
use Rattle.radpolicy_common.specs.PolicyTexts.{is_secret_piece}
use Rattle.radpolicy_common.proofs.policy_texts.has_secret_piece.Given as goal

abbrev pub invariant-loop-rest : goal.invariant-loop-rest
invariant-loop-rest l =
    list_any (is_secret_piece l.reading l.redaction) l.rest ≡ list_any (is_secret_piece l.reading l.redaction) l.pieces

abbrev pub decreases-loop-rest : goal.decreases-loop-rest
decreases-loop-rest l = length l.rest
