use Rattle.std.proofs.Common.{◌≡◌, true, false, sym, ap, ◌∙◌, refl, eq-eqb}
use Rattle.text_comparison.specs.Lines.{first_line, has_line_end, is_line_end, kept}
use Rattle.text_comparison.proofs.OneMore.{ended_by, first_ended, first_kept, first_more, has_end, has_ended, has_same, no_end}
use Rattle.text_comparison.proofs.lines.Beginning.add_octet.Goals as goal

pub returns-then-self : goal.returns-then-self
returns-then-self c = λ text is.
    let ended : has_line_end text ≡ true = sym is.ended ∙ c.if-self.true in
    record {
      line = is.line ∙ sym (ap kept (first_ended text c.args.octet ended));
      ended = c.if-self.true ∙ sym (has_ended text c.args.octet ended);
    }

pub returns-then-octet-eq10 : goal.returns-then-octet-eq10
returns-then-octet-eq10 c = λ text is.
    let end : is_line_end c.args.octet ≡ true = eq-eqb c.args.octet 10 c.if-octet-eq10.true in
    record {
      line = is.line ∙ sym (ap kept (ended_by text c.args.octet end));
      ended = sym (has_end text c.args.octet end);
    }

pub returns : goal.returns
returns c = λ text is.
    let more : is_line_end c.args.octet ≡ false = no_end c.args.octet c.if-octet-eq10.false in
    let none : has_line_end text ≡ false = sym is.ended ∙ c.if-self.false in
    record {
      line = c.in_ok-keep.ensures (first_line text) is.line ∙ sym (ap kept (first_more text c.args.octet none more));
      ended = is.ended ∙ sym (has_same text c.args.octet more);
    }
