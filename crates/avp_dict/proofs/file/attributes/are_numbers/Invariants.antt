use Rattle.std.proofs.Common.{◌≡◌, length}
use Rattle.std.specs.List.{list_all}
use Rattle.avp_dict.proofs.file.attributes.are_numbers.Given as goal
use Rattle.avp_dict.specs.Words.{is_number}
use Rattle.avp_dict.specs.internal.Views.{views}

abbrev pub invariant-loop-rest : goal.invariant-loop-rest
invariant-loop-rest l = list_all is_number (views l.rest) ≡ list_all is_number (views l.parts)

abbrev pub decreases-loop-rest : goal.decreases-loop-rest
decreases-loop-rest l = length l.rest
