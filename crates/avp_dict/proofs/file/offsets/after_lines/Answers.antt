use Rattle.std.proofs.Common.{◌∙◌, ◌+◌, ◌-◌, sym, ap, arith, length}
use Rattle.avp_dict.specs.Lines.{is_line_end}
use Rattle.avp_dict.specs.WordPlaces.{after_lines}
use Rattle.avp_dict.proofs.WordPlaces.{after_shorter, next_line}
use Rattle.avp_dict.proofs.file.offsets.after_lines.Goals as goal

pub loop-preserved : goal.loop-preserved
loop-preserved c =
    let lines = c.args.lines in
    let rest = c.loop.rest.now in
    record {
      same =
          ap (after_lines (lines - (c.loop.counter + 1))) c.split_line.ensures.rest
          ∙ (sym (next_line lines c.loop.counter rest c.loop-test.true) ∙ c.loop.invariant.same);
      shorter = omega (arith, ap length c.split_line.ensures.rest, after_shorter is_line_end rest, c.loop.invariant.shorter);
    }
