use Rattle.std.proofs.Common.{All, take}
use Rattle.avp_dict.specs.Dictionary.{first_names}
use Rattle.radpolicy_import_policies.specs.KeptNames.{KeepsName}
use Rattle.radpolicy_import_policies.proofs.kept.keeps_names.Given as goal

abbrev pub invariant-loop-at : goal.invariant-loop-at
invariant-loop-at l = All (KeepsName l.old l.new) (take l.at (first_names l.old.attributes))
