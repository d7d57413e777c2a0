use Rattle.std.proofs.Common.{◌≡◌, length}
use Rattle.avp_dict.proofs.file.types.has_flag.Given as goal
use Rattle.avp_dict.specs.Types.{has_flag}
use Rattle.avp_dict.specs.internal.Views.{views}

abbrev pub invariant-loop-rest : goal.invariant-loop-rest
invariant-loop-rest l = has_flag l.own (views l.rest) ≡ has_flag l.own (views l.flags)

abbrev pub decreases-loop-rest : goal.decreases-loop-rest
decreases-loop-rest l = length l.rest
