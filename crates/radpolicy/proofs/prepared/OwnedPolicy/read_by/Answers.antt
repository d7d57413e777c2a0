use Rattle.std.proofs.Common.{subst}
use Rattle.std.specs.Arc.{arc_value}
use Rattle.avp_dict.specs.Dictionary.{Dictionary}
use Rattle.avp_unlang.specs.Policies.{SpellsPolicy}
use Rattle.radpolicy.proofs.Refusals.{Told, policy_refused}
use Rattle.radpolicy.proofs.prepared.OwnedPolicy.read_by.Goals as goal

pub returns-in-Err-clause-refused : goal.returns-in-Err-clause-refused
returns-in-Err-clause-refused c =
    rw c.from.ensures (policy_refused (arc_value c.args.dictionary) c.args.text.now c.in-Err.fault
    (subst (λ (d : Dictionary). Told d c.args.text.now c.in-Err.fault) c.deref.ensures (record {
      refused = c.in-Err.ensures.read;
      first = c.in-Err.ensures.refused;
      within = c.in-Err.ensures.within;
      token = c.in-Err.ensures.token;
      line = c.in-Err.ensures.line;
    })))

pub returns-in-Ok-clause-spelled : goal.returns-in-Ok-clause-spelled
returns-in-Ok-clause-spelled c =
    subst (λ (d : Dictionary). SpellsPolicy d c.args.text.now c.in-Ok.policy) c.deref.ensures c.in-Ok.ensures.read

pub invariant_of-result : goal.invariant_of-result
invariant_of-result c =
    (c.args.text.now, subst (λ (d : Dictionary). SpellsPolicy d c.args.text.now c.in-Ok.policy) c.deref.ensures c.in-Ok.ensures.read)
