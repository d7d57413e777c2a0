use Rattle.std.proofs.Common.{◌∙◌, ap, sym}
use Rattle.std.proofs.lemmas.Result.{IfOk-weaker}
use Rattle.avp_lists.specs.declared.lists.State.{State}
use Rattle.avp_unlang.specs.Meaning.{meaning_of}
use Rattle.avp_unlang.specs.declared.codes.Code.TheVariants as code
use Rattle.radpolicy.specs.RunOutcomes.{end_of}
use Rattle.radpolicy.proofs.starts.Start.end_of.Goals as goal

pub returns-clause-end : goal.returns-clause-end
returns-clause-end c =
    let d = c.self.inside.dictionary.now in
    let p = c.self.inside.policy.now in
    IfOk-weaker c.run_with.result _ _
    (λ ended is. sym (is ∙ ap (λ (s : State). meaning_of d p s code.Ok) c.in_ok-store.ensures ∙ ap end_of c.self.view_is))
    c.run_with.ensures.ends
