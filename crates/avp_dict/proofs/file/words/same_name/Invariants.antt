use Rattle.std.proofs.Common.{◌≡◌, length}
use Rattle.avp_dict.proofs.file.words.same_name.Given as goal
use Rattle.avp_dict.specs.Words.{same_name}

abbrev pub invariant-loop-a : goal.invariant-loop-a
invariant-loop-a l = same_name l.a l.b ≡ same_name l.fn.a l.fn.b

abbrev pub decreases-loop-a : goal.decreases-loop-a
decreases-loop-a l = length l.a
