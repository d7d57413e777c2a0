use Rattle.std.proofs.Common.{◌≡◌, ◌++◌, length}
use Rattle.std.specs.List.{filter, slice_split}
use Rattle.avp_dict.proofs.file.words.push_words.Given as goal
use Rattle.avp_dict.specs.Words.{is_blank, is_word}
use Rattle.avp_dict.specs.internal.Views.{views}

abbrev pub invariant-loop-part : goal.invariant-loop-part
invariant-loop-part l = views l.words.items ++ filter is_word (slice_split is_blank l.rest) ≡ views l.fn.words.items ++ filter is_word (slice_split is_blank l.plain)

abbrev pub decreases-loop-part : goal.decreases-loop-part
decreases-loop-part l = length l.rest
