use Rattle.std.proofs.Common.{ap, ◌∙◌}
use Rattle.std.proofs.lemmas.Result.{IfOk-weaker}
use Rattle.avp_unlang.specs.Evaluations.{evaluated}
use Rattle.avp_unlang.specs.declared.tree.Cond.{Cond}
use Rattle.radpolicy_import_conditions.proofs.Truths.{met_by, none_met, truth_of_by, truth_of_none}
use Rattle.radpolicy_import_conditions.proofs.KeptCaptures.{kept_captures}
use Rattle.radpolicy_import_conditions.proofs.rewriting.rewritten.Goals as goal

pub returns-clause-plain : goal.returns-clause-plain
returns-clause-plain c =
    IfOk-weaker c.where_true.result _ _ (λ (cond : Cond) is. λ s k. truth_of_none cond s k ∙ is none_met s k) c.where_true.ensures.truth

pub returns-clause-by : goal.returns-clause-by
returns-clause-by c =
    IfOk-weaker c.where_true.result _ _ (λ (cond : Cond) is. λ d s k. truth_of_by d cond s k ∙ is (met_by d) s k) c.where_true.ensures.truth

pub returns-clause-captures : goal.returns-clause-captures
returns-clause-captures c =
    IfOk-weaker c.where_true.result _ _
    (λ (cond : Cond) is. λ keeps d s k captures. ap (λ x. evaluated d x s k captures) is ∙ kept_captures c.args.condition.now keeps d s k captures)
    c.where_true.ensures.made
