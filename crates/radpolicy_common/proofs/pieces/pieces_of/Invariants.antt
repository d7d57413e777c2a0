use Rattle.std.proofs.Common.{◌≡◌, ◌≢◌, ◌++◌, ◌+◌, ◌-◌, ◌<◌, ◌≤◌, length}
use Rattle.avp_unlang.specs.Tokens.{token_in}
use Rattle.avp_unlang.specs.declared.text.tokens.Token.TheVariants.{End}
use Rattle.radpolicy_common.specs.Pieces.{pieces_from, pieces_of}
use Rattle.radpolicy_common.proofs.pieces.pieces_of.Given as goal

abbrev pub invariant-loop-found : goal.invariant-loop-found
invariant-loop-found l = record {
  pieces : l.pieces.items ++ pieces_from (length l.text - length l.pieces.items) l.profile l.found.start.now ≡ pieces_of l.profile l.text;
  token : (l.found.token, l.found.rest.now) ≡ token_in l.profile l.found.start.now;
  room : length l.pieces.items + length l.found.start.now ≤ length l.text;
  after : length l.found.rest.now ≤ length l.found.start.now;
  shorter : l.found.token ≢ End → length l.found.rest.now < length l.found.start.now;
}

abbrev pub decreases-loop-found : goal.decreases-loop-found
decreases-loop-found l = length l.found.start.now
