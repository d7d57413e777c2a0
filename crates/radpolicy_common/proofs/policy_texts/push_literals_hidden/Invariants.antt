use Rattle.std.proofs.Common.{◌≡◌, ◌++◌, drop, false}
use Rattle.radpolicy_common.specs.PolicyTexts.{literals_hidden}
use Rattle.radpolicy_common.proofs.policy_texts.push_literals_hidden.Given as goal

abbrev pub invariant-loop-piece : goal.invariant-loop-piece
invariant-loop-piece l = l.text.items ++ literals_hidden l.related (drop l.piece-index l.pieces) ≡ l.fn.text.items ++ literals_hidden false l.pieces
