use Rattle.std.proofs.Common.{◌≡◌, ◌++◌, take}
use Rattle.std.specs.List.{flat_map}
use Rattle.radpolicy_import_conditions.specs.Opened.{opened_parts}
use Rattle.radpolicy_import_conditions.proofs.opened.+opening.Given as goal

abbrev pub invariant-after_parts-loop-part : goal.invariant-after_parts-loop-part
invariant-after_parts-loop-part l = l.conds ≡ flat_map (opened_parts l.join) (take l.part-index l.parts) ++ l.rest
