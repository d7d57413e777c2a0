use Rattle.std.proofs.Common.{subst, sym}
use Rattle.avp_dict.specs.Dictionary.{Dictionary}
use Rattle.avp_unlang.specs.Suiting.{IsSpelled}
use Rattle.radpolicy.proofs.prepared.OwnedPolicy.prepared.Goals as goal

pub invariant_of-result : goal.invariant_of-result
invariant_of-result c =
    subst (λ (d : Dictionary). IsSpelled d c.self.inside.policy) (sym c.deref.ensures) c.self.invariant
