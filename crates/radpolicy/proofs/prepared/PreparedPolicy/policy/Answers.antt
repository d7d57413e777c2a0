use Rattle.std.proofs.Common.{subst}
use Rattle.avp_unlang.specs.Suiting.{IsSpelled}
use Rattle.radpolicy.specs.Starts.{Prepared}
use Rattle.radpolicy.proofs.prepared.PreparedPolicy.policy.Goals as goal

pub returns-clause-spelled : goal.returns-clause-spelled
returns-clause-spelled c = subst (λ (p : Prepared). IsSpelled p.dictionary p.statements) c.self.view_is c.self.invariant
