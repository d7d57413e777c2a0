use Rattle.std.proofs.Common.{◌≡◌, ◌≤◌, ◌+◌, length}
use Rattle.avp_dict.proofs.file.words.past_sixteens.Given as goal
use Rattle.avp_dict.specs.internal.LineWords.{word_size}

abbrev pub invariant-loop-rest : goal.invariant-loop-rest
invariant-loop-rest l = record {
  size : length l.text + word_size l.rest ≡ length l.rest + word_size l.text;
  within : length l.rest ≤ length l.text;
}

abbrev pub decreases-loop-rest : goal.decreases-loop-rest
decreases-loop-rest l = length l.rest
