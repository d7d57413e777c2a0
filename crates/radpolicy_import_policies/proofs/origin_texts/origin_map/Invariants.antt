use Rattle.std.proofs.Common.{◌≡◌, ◌+◌, ◌++◌, drop}
use Rattle.radpolicy_import_policies.specs.OriginTexts.{map_from}
use Rattle.radpolicy_import_policies.proofs.origin_texts.origin_map.Given as goal

abbrev pub invariant-loop-place : goal.invariant-loop-place
invariant-loop-place l = l.out.items ++ map_from l.configuration (l.place + 1) (drop l.place l.lines) ≡ map_from l.configuration 1 l.lines
