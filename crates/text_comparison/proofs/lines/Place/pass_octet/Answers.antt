use Rattle.std.proofs.Common.{◌≡◌, true, false, sym, ap, ◌∙◌, arith, eq-eqb}
use Rattle.text_comparison.specs.Lines.{is_line_end, kept, last_line}
use Rattle.text_comparison.proofs.OneMore.{last_end, last_more, number_end, number_same, no_end}
use Rattle.text_comparison.proofs.lines.Place.pass_octet.Goals as goal

pub returns-then-octet-eq10 : goal.returns-then-octet-eq10
returns-then-octet-eq10 c = λ text is.
    let end : is_line_end c.args.octet ≡ true = eq-eqb c.args.octet 10 c.if-octet-eq10.true in
    record {
      number = let n = number_end text c.args.octet end in omega (arith, n, is.number, c.saturating_add-self.ensures);
      line = c.clear.ensures.items ∙ sym (ap kept (last_end text c.args.octet end));
    }

pub returns : goal.returns
returns c = λ text is.
    let more : is_line_end c.args.octet ≡ false = no_end c.args.octet c.if-octet-eq10.false in
    record {
      number = is.number ∙ sym (number_same text c.args.octet more);
      line = c.in_ok-keep.ensures (last_line text) is.line ∙ sym (ap kept (last_more text c.args.octet more));
    }
