use Rattle.std.proofs.Common.{IfOk, ap, subst, ◌∙◌}
use Rattle.std.specs.Arc.{arc_value}
use Rattle.avp_dict.specs.Dictionary.{Dictionary}
use Rattle.radpolicy.specs.Starts.{Prepared}
use Rattle.radpolicy_c.proofs.Opened.{spelled_by}
use Rattle.radpolicy_c.proofs.dictionaries.policy_by.Goals as goal
use Rattle.radpolicy_c.specs.Opening.{IsSpelledBy}

pub returns-in-Ok-clause-ok : goal.returns-in-Ok-clause-ok
returns-in-Ok-clause-ok c =
    subst (λ (d : Dictionary). IfOk c.read_by.result (IsSpelledBy d c.args.text.now))
    (c.in-Ok.ensures ∙ ap (λ (p : Prepared). p.dictionary) c.policy.ensures)
    (spelled_by (arc_value c.in-Ok.dictionary) c.args.text.now c.read_by.result c.read_by.ensures.dictionary c.read_by.ensures.profile c.read_by.ensures.spelled)
