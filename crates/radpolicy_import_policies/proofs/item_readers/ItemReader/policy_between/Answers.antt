use Rattle.std.proofs.Common.{◌∙◌, ℕ, List, subst}
use Rattle.avp_unlang.specs.Policies.{SpellsPolicy}
use Rattle.radpolicy_import_policies.proofs.item_readers.ItemReader.policy_between.Goals as goal

pub returns : goal.returns
returns c =
    subst (λ (text : List ℕ). SpellsPolicy c.args.self.now.dictionary.now text c.in_ok-policy.policy)
    (c.deref.ensures.value ∙ c.in_ok-text.ensures) c.in_ok-policy.ensures.read
