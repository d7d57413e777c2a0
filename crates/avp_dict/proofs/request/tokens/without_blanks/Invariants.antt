use Rattle.std.proofs.Common.{◌≡◌, ◌≤◌, length}
use Rattle.avp_dict.specs.RequestLines.{tokens_at}
use Rattle.avp_dict.specs.internal.LineEnds.{IsBlanksBefore}
use Rattle.avp_dict.proofs.request.tokens.without_blanks.Given as goal

abbrev pub invariant-loop-octet : goal.invariant-loop-octet
invariant-loop-octet l = record {
  tokens : tokens_at l.fn.side l.rest ≡ tokens_at l.fn.side l.line;
  shorter : length l.rest ≤ length l.line;
  blanks : IsBlanksBefore l.rest l.line;
}

abbrev pub decreases-loop-octet : goal.decreases-loop-octet
decreases-loop-octet l = length l.rest
