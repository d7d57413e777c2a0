use Rattle.std.proofs.Common.{◌≡◌, ◌∙◌, [], ◌∷◌, true, refl, sym, ap, rules}
use Rattle.avp_dict.specs.Lines.{texts_of}
use Rattle.avp_dict.specs.RequestLines.{is_idle_line, without_front}
use Rattle.avp_dict.proofs.RefusedLines.{idle_more, lines_none}
use Rattle.avp_dict.proofs.request.lines.without_idle_lines.Goals as goal

pub loop-line-init : goal.loop-line-init
loop-line-init c = record { lines = refl; idle = ([], lines_none c.args.text.now, refl) }

pub loop-line-preserved : goal.loop-line-preserved
loop-line-preserved c =
    let idle : is_idle_line c.in-Some.line.now ≡ true = search rules in
    let fewer : without_front is_idle_line (c.in-Some.line.now ∷ texts_of c.in-Some.after.now) ≡ without_front is_idle_line (texts_of c.in-Some.after.now) = rw idle refl in
    record {
      lines = sym (ap (without_front is_idle_line) c.in-Some.ensures.cut ∙ fewer) ∙ c.loop-line.invariant.lines;
      idle = idle_more c.args.text.now c.loop-line.rest.now c.in-Some.line.now c.in-Some.after.now c.loop-line.invariant.idle c.in-Some.ensures.line c.in-Some.ensures.rest idle;
    }
