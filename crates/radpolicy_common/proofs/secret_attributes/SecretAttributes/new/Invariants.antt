use Rattle.std.proofs.Common.{take}
use Rattle.avp_dict.specs.Dictionary.{first_names}
use Rattle.radpolicy_common.specs.internal.SecretIds.{AreFoundIn}
use Rattle.radpolicy_common.proofs.secret_attributes.SecretAttributes.new.Given as goal

abbrev pub invariant-loop-at : goal.invariant-loop-at
invariant-loop-at l = AreFoundIn l.dictionary (take l.at (first_names l.dictionary.attributes)) l.ids.items
