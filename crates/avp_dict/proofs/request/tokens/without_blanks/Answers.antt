use Rattle.std.proofs.Common.{◌≡◌, ◌∙◌, [], length, true, refl, sym, ap, arith, rules}
use Rattle.avp_dict.specs.RequestLines.{tokens_at}
use Rattle.avp_dict.specs.Words.{is_blank}
use Rattle.avp_dict.proofs.LexedLines.{blank_more}
use Rattle.avp_dict.proofs.Lexing.{after_blank}
use Rattle.avp_dict.proofs.request.tokens.without_blanks.Goals as goal

pub loop-octet-init : goal.loop-octet-init
loop-octet-init c = record { tokens = refl; shorter = omega arith; blanks = ([], refl, refl) }

pub loop-octet-preserved : goal.loop-octet-preserved
loop-octet-preserved c =
    let blank : is_blank c.in-Some.octet ≡ true = search rules in
    record {
      tokens = sym (after_blank c.args.side c.in-Some.octet c.in-Some.after.now blank) ∙ ap (tokens_at c.args.side) (sym c.in-Some.ensures) ∙ c.loop-octet.invariant.tokens;
      shorter = omega (arith, ap length c.in-Some.ensures, c.loop-octet.invariant.shorter);
      blanks = blank_more c.args.line.now c.loop-octet.rest.now c.in-Some.octet c.in-Some.after.now blank c.in-Some.ensures c.loop-octet.invariant.blanks;
    }
