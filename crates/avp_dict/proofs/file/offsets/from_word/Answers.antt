use Rattle.std.proofs.Common.{◌∙◌, ◌+◌, ◌-◌, sym, ap, arith, length}
use Rattle.avp_dict.specs.Words.{is_blank}
use Rattle.avp_dict.specs.WordPlaces.{from_word}
use Rattle.std.specs.List.{after_first}
use Rattle.avp_dict.proofs.WordPlaces.{after_shorter, next_word}
use Rattle.avp_dict.proofs.file.offsets.from_word.Goals as goal

pub loop-preserved : goal.loop-preserved
loop-preserved c =
    let word = c.args.word in
    let rest = c.loop.rest.now in
    let filled = c.from_filled.result.now in
    record {
      same =
          ap (from_word (word - (c.loop.counter + 1))) (c.after_blank-rest.ensures ∙ ap (after_first is_blank) c.from_filled.ensures.from)
          ∙ (sym (next_word word c.loop.counter rest c.loop-test.true) ∙ c.loop.invariant.same);
      shorter = omega (arith, ap length c.after_blank-rest.ensures, after_shorter is_blank filled, c.from_filled.ensures.within, c.loop.invariant.shorter);
    }
