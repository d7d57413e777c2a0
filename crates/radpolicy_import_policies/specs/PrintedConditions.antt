-- Texts of conditions.
use Rattle.std.specs.Prelude.{ℕ, ◌++◌, List, codes}
use Rattle.avp_dict.specs.Dictionary.{Dictionary}
use Rattle.avp_forms.specs.declared.profiles.Profile.{Profile}
use Rattle.avp_forms.specs.declared.profiles.Profile.TheVariants.{Plain, Wider}
use Rattle.avp_unlang.specs.Policies.{SpellsPolicy}
use Rattle.avp_unlang.specs.declared.tree.Cond.{Cond}
use Rattle.avp_unlang.specs.declared.tree.Statement.{Statement}
use Rattle.radpolicy_import_conditions.specs.Opened.{Says}

-- a policy of the profile that is one `if` of this text
abbrev pub policy_text : Profile → List ℕ → List ℕ
policy_text Plain text = codes "if " ++ text ++ codes " { }"
policy_text Wider text = codes "# profile: wider\nif " ++ text ++ codes " { }"

-- in a policy the text is read as this condition, but for brackets that change nothing
pub record SpellsCondition (d : Dictionary) (profile : Profile) (text : List ℕ) (cond : Cond) : Type 0 where
  pub policy : List Statement
  pub spelled : SpellsPolicy d (policy_text profile text) policy
  pub says : Says policy cond
