use Rattle.std.proofs.Common.{sym, ◌∙◌}
use Rattle.policy_warnings.proofs.Agreeing.{agrees, agrees_by}
use Rattle.policy_warnings.proofs.ServerCaptures.{captures_alike, takes_alike}
use Rattle.policy_warnings.proofs.absences.warns_of_absence.Goals as goal

pub returns-clause-agrees : goal.returns-clause-agrees
returns-clause-agrees c = λ h s code. agrees c.args.cond.now s code (sym c.is_overlooked.ensures ∙ h)

pub returns-clause-agrees_by : goal.returns-clause-agrees_by
returns-clause-agrees_by c = λ h d s code. agrees_by d c.args.cond.now s code (sym c.is_overlooked.ensures ∙ h)

pub returns-clause-takes_alike : goal.returns-clause-takes_alike
returns-clause-takes_alike c = λ h. takes_alike c.args.cond.now (sym c.is_overlooked.ensures ∙ h)

pub returns-clause-captures_alike : goal.returns-clause-captures_alike
returns-clause-captures_alike c = captures_alike c.args.cond.now
