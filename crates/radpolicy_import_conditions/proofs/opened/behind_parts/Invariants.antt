use Rattle.std.proofs.Common.{◌≡◌, ◌++◌, take}
use Rattle.radpolicy_import_conditions.proofs.opened.behind_parts.Given as goal

abbrev pub invariant-loop-part : goal.invariant-loop-part
invariant-loop-part l = l.others ≡ take l.part-index l.parts ++ l.rest
