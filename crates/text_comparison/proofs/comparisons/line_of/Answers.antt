use Rattle.std.proofs.Common.{◌≡◌, ◌∙◌, ◌++◌, rules}
use Rattle.text_comparison.specs.Lines.{first_line, kept, last_line}
use Rattle.text_comparison.proofs.Commons.{not_both}
use Rattle.text_comparison.proofs.OneMore.{kept_both}
use Rattle.text_comparison.proofs.comparisons.line_of.Goals as goal

pub returns : goal.returns
returns c = λ front text place beginning.
    let joined : c.in_ok-line.line.items ≡ kept (c.args.place.now.line.items ++ c.args.rest.now.line.items) = search rules in (
      joined ∙ kept_both (last_line front) (first_line text) c.args.place.now.line.items c.args.rest.now.line.items place.line beginning.line,
      λ none empty. not_both c.has_ended.result (c.has_ended.ensures.open front text place beginning none empty) c.if-has_ended.false,
    )

pub returns-then-has_ended : goal.returns-then-has_ended
returns-then-has_ended c = λ front text place beginning. c.has_ended.ensures.ended front text place beginning c.if-has_ended.true
