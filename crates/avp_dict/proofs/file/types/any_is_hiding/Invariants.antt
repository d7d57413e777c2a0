use Rattle.std.proofs.Common.{◌≡◌, length}
use Rattle.std.specs.List.{list_any}
use Rattle.avp_dict.proofs.file.types.any_is_hiding.Given as goal
use Rattle.avp_dict.specs.Types.{is_hiding}
use Rattle.avp_dict.specs.internal.Views.{views}

abbrev pub invariant-loop-rest : goal.invariant-loop-rest
invariant-loop-rest l = list_any is_hiding (views l.rest) ≡ list_any is_hiding (views l.flags)

abbrev pub decreases-loop-rest : goal.decreases-loop-rest
decreases-loop-rest l = length l.rest
