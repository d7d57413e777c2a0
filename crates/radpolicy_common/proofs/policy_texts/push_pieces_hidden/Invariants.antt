use Rattle.std.proofs.Common.{◌≡◌, ◌++◌, drop}
use Rattle.std.specs.List.{flat_map}
use Rattle.radpolicy_common.specs.PolicyTexts.{piece_hidden}
use Rattle.radpolicy_common.proofs.policy_texts.push_pieces_hidden.Given as goal

abbrev pub invariant-loop-piece : goal.invariant-loop-piece
invariant-loop-piece l = l.text.items ++ flat_map piece_hidden (drop l.piece-index l.pieces) ≡ l.fn.text.items ++ flat_map piece_hidden l.pieces
