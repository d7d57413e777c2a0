use Rattle.std.proofs.Common.{ℕ, List, subst}
use Rattle.avp_unlang.specs.Policies.{SpellsPolicy}
use Rattle.radpolicy_import_policies.specs.PrintedConditions.{policy_text}
use Rattle.radpolicy_import_policies.proofs.SpelledConditions.{spelled}
use Rattle.radpolicy_import_policies.proofs.item_readers.ItemReader.printed.Goals as goal

pub returns-then-says : goal.returns-then-says
returns-then-says c =
    spelled c.args.self.now.dictionary.now c.args.profile c.push_condition.new.out.items c.args.cond.now c.in_ok-policy.policy
    (subst (λ (text : List ℕ). SpellsPolicy c.args.self.now.dictionary.now (policy_text c.args.profile text) c.in_ok-policy.policy)
    c.deref.ensures.value c.in_ok-policy.ensures)
    (c.says.ensures c.if-says.true)
