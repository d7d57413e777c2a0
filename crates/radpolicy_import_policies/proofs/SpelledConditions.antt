-- Texts that are read as conditions.
use Rattle.std.proofs.Common.{ℕ, List}
use Rattle.avp_dict.specs.Dictionary.{Dictionary}
use Rattle.avp_forms.specs.declared.profiles.Profile.{Profile}
use Rattle.avp_unlang.specs.Policies.{SpellsPolicy}
use Rattle.avp_unlang.specs.declared.tree.Cond.{Cond}
use Rattle.avp_unlang.specs.declared.tree.Statement.{Statement}
use Rattle.radpolicy_import_conditions.specs.Opened.{Says}
use Rattle.radpolicy_import_policies.specs.PrintedConditions.{SpellsCondition, policy_text}

pub spelled : (d : Dictionary) (profile : Profile) (text : List ℕ) (cond : Cond) (policy : List Statement)
    → SpellsPolicy d (policy_text profile text) policy → Says policy cond → SpellsCondition d profile text cond
spelled d profile text cond policy spells says = record { policy = policy; spelled = spells; says = says }
