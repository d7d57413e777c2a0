use Rattle.std.proofs.Common.{IfOk, subst}
use Rattle.avp_dict.specs.Dictionary.{Dictionary}
use Rattle.avp_unlang.specs.Policies.{SpellsPolicy}
use Rattle.radpolicy.proofs.prepared.OwnedPolicy.read.Goals as goal

pub returns-clause-spelled : goal.returns-clause-spelled
returns-clause-spelled c =
    subst (λ (d : Dictionary). IfOk c.read_by.result (λ owned. SpellsPolicy d c.args.text.now owned.statements)) c.in_ok-new.ensures.ok
    c.read_by.ensures.spelled
