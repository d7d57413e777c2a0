use Rattle.std.proofs.Common.{◌≡◌, get_or, false, arith, ◌==◌}
use Rattle.std.proofs.lemmas.Grind.{common_steps}
use Rattle.avp_dict.specs.RequestLines.{quote_octet}
use Rattle.avp_dict.proofs.Lexing.{after_escaped, after_octet, text_ends, text_unended}
use Rattle.avp_dict.proofs.request.tokens.text_end.Goals as goal
use Rattle.avp_dict.proofs.request.tokens.text_end.Goals.{then-is_escaped, else-is_escaped+else-octet}

pub returns-then-octet-clause-text : goal.returns-then-octet-clause-text
returns-then-octet-clause-text c =
    text_ends c.args.mark c.args.octets.now c.loop-place.place (omega arith) (grind (arith, common_steps)) (rw c.if-is_escaped.false at c.loop-place.invariant)

pub loop-place-preserved : goal.loop-place-preserved
loop-place-preserved c = elim c.if-is_escaped.branch [
  | then-is_escaped w ↦ rw w.is_escaped-is (after_escaped c.args.mark c.args.octets.now c.loop-place.place (omega arith) (rw w.if-is_escaped.true at c.loop-place.invariant))
  | else-is_escaped+else-octet w ↦
      let other : (get_or c.args.octets.now c.loop-place.place 0 == quote_octet c.args.mark) ≡ false = grind (arith, common_steps) in
      rw w.is_escaped-is (after_octet c.args.mark c.args.octets.now c.loop-place.place (omega arith) other (rw w.if-is_escaped.false at c.loop-place.invariant))
]

pub returns-clause-text : goal.returns-clause-text
returns-clause-text c = text_unended c.args.mark c.args.octets.now c.loop-place.place c.loop-place.is_escaped (omega arith) c.loop-place.invariant
