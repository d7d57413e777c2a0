use Rattle.std.proofs.Common.{◌≡◌, length}
use Rattle.radpolicy_import_policies.specs.OriginTexts.{folder}
use Rattle.radpolicy_import_policies.proofs.origin_texts.folder.Given as goal

abbrev pub invariant-loop-rest : goal.invariant-loop-rest
invariant-loop-rest l = folder l.rest ≡ folder l.path

abbrev pub decreases-loop-rest : goal.decreases-loop-rest
decreases-loop-rest l = length l.rest
