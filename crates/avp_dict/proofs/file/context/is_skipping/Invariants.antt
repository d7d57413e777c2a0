use Rattle.std.proofs.Common.{◌≡◌, length}
use Rattle.std.specs.List.{list_any}
use Rattle.avp_dict.specs.Blocks.{opens_skipped}
use Rattle.avp_dict.specs.internal.Meanings.{reading_views}
use Rattle.avp_dict.proofs.file.context.is_skipping.Given as goal

abbrev pub invariant-loop-rest : goal.invariant-loop-rest
invariant-loop-rest l = list_any opens_skipped (reading_views l.rest) ≡ list_any opens_skipped (reading_views l.opened)

abbrev pub decreases-loop-rest : goal.decreases-loop-rest
decreases-loop-rest l = length l.rest
