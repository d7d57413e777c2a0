use Rattle.std.proofs.Common.{ℕ, List, subst}
use Rattle.std.specs.Option.{option_copied}
use Rattle.std.proofs.lemmas.Result.{IfErr-weaker, IfOk-weaker}
use Rattle.avp_unlang.specs.Policies.{SpellsPolicy}
use Rattle.radpolicy.specs.Starts.{Prepared}
use Rattle.radpolicy.proofs.JobRuns.{policy_refusal}
use Rattle.radpolicy.proofs.answers.policy_for.Goals as goal

pub returns-clause-refused : goal.returns-clause-refused
returns-clause-refused c =
    IfErr-weaker c.read.result _ _
    (λ f is. policy_refusal c.args.job.now c.args.dictionary.now (option_copied c.args.secret) c.requires.opened f (rw c.policy_of.ensures at is))
    c.read.ensures.refused

pub returns-clause-ok : goal.returns-clause-ok
returns-clause-ok c =
    IfOk-weaker c.read.result _ _
    (λ (policy : Prepared) is. subst (λ (text : List ℕ). SpellsPolicy c.args.dictionary.now text policy.statements) c.policy_of.ensures is)
    c.read.ensures.spelled
