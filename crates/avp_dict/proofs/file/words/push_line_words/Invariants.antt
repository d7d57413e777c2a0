use Rattle.std.proofs.Common.{◌≡◌, ◌++◌, length}
use Rattle.avp_dict.specs.internal.LineWords.{after_word, from_line_end, line_words, word_size}
use Rattle.avp_dict.specs.internal.Views.{views}
use Rattle.avp_dict.proofs.file.words.push_line_words.Given as goal

abbrev pub invariant-loop-after : goal.invariant-loop-after
invariant-loop-after l = record {
  words : views l.words.items ++ line_words (after_word l.left) ≡ views l.fn.words.items ++ line_words l.text;
  end : from_line_end l.left ≡ from_line_end l.text;
  over : word_size l.left ≡ 0;
}

abbrev pub decreases-loop-after : goal.decreases-loop-after
decreases-loop-after l = length l.left
