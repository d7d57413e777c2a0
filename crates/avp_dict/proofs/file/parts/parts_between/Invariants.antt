use Rattle.std.proofs.Common.{◌≡◌, ◌++◌, length, eqb}
use Rattle.std.specs.List.{slice_split}
use Rattle.avp_dict.proofs.file.parts.parts_between.Given as goal
use Rattle.avp_dict.specs.internal.Views.{views}

abbrev pub invariant-loop-part : goal.invariant-loop-part
invariant-loop-part l = views l.parts.items ++ slice_split (λ o. eqb o l.separator) l.rest ≡ slice_split (λ o. eqb o l.separator) l.word

abbrev pub decreases-loop-part : goal.decreases-loop-part
decreases-loop-part l = length l.rest
