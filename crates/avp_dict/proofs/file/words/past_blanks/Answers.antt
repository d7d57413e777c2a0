use Rattle.std.proofs.Common.{◌≡◌, ◌<◌, ◌∙◌, true, length, slice_index, rules}
use Rattle.avp_dict.specs.Words.{is_blank}
use Rattle.avp_dict.specs.internal.LineWords.{from_line_end, line_words}
use Rattle.avp_dict.proofs.LineWords.{end_past_blank, without_blank, words_blank}
use Rattle.avp_dict.proofs.file.words.past_blanks.Goals as goal

pub loop-rest-preserved : goal.loop-rest-preserved
loop-rest-preserved c =
    let rest = c.loop-rest.rest.now in
    let some : 0 < length rest = search rules in
    let blank : is_blank (slice_index rest 0) ≡ true = search rules in record {
      words = without_blank line_words words_blank rest some blank ∙ c.loop-rest.invariant.words;
      end = without_blank from_line_end end_past_blank rest some blank ∙ c.loop-rest.invariant.end;
      within = search rules;
    }
