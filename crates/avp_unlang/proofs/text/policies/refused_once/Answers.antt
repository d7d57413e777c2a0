use Rattle.avp_unlang.proofs.RefusedOnceStatements.{policies_once}
use Rattle.avp_unlang.proofs.text.policies.refused_once.Goals as goal

pub returns : goal.returns
returns c = policies_once
