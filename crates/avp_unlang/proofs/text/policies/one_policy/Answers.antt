use Rattle.avp_unlang.proofs.StatementsOne.{one_policy}
use Rattle.avp_unlang.proofs.text.policies.one_policy.Goals as goal

pub returns : goal.returns
returns c = one_policy
