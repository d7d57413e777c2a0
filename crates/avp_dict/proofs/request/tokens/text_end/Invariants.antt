use Rattle.avp_dict.proofs.Lexing.{IsTextAt, place_when}
use Rattle.avp_dict.proofs.request.tokens.text_end.Given as goal

abbrev pub invariant-loop-place : goal.invariant-loop-place
invariant-loop-place l = IsTextAt l.mark l.octets l.place (place_when l.mark l.is_escaped)
