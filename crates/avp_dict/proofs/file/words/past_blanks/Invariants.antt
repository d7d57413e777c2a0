use Rattle.std.proofs.Common.{◌≡◌, ◌≤◌, length}
use Rattle.avp_dict.specs.internal.LineWords.{from_line_end, line_words}
use Rattle.avp_dict.proofs.file.words.past_blanks.Given as goal

abbrev pub invariant-loop-rest : goal.invariant-loop-rest
invariant-loop-rest l = record {
  words : line_words l.rest ≡ line_words l.text;
  end : from_line_end l.rest ≡ from_line_end l.text;
  within : length l.rest ≤ length l.text;
}

abbrev pub decreases-loop-rest : goal.decreases-loop-rest
decreases-loop-rest l = length l.rest
