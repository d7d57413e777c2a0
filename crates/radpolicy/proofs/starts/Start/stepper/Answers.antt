use Rattle.std.proofs.Common.{◌∙◌, ap}
use Rattle.avp_lists.specs.declared.lists.State.{State}
use Rattle.avp_step.specs.Walk.{walk_from}
use Rattle.avp_unlang.specs.Meaning.{meaning_of}
use Rattle.avp_unlang.specs.declared.codes.Code.TheVariants as code
use Rattle.radpolicy.specs.RunOutcomes.{end_of}
use Rattle.radpolicy.specs.Starts.{entry_of}
use Rattle.radpolicy.proofs.starts.Start.stepper.Goals as goal

-- the lists of the start are the first state of the store
pub returns-in-Ok-clause-start : goal.returns-in-Ok-clause-start
returns-in-Ok-clause-start c =
    let d = c.self.inside.dictionary.now in
    let p = c.self.inside.policy.now in
    c.in-Ok.ensures.start ∙ ap (λ (s : State). walk_from d p s) c.in_ok-store.ensures ∙ ap (λ s. walk_from s.prepared.dictionary s.prepared.statements (entry_of s)) c.self.view_is

pub returns-in-Ok-clause-last : goal.returns-in-Ok-clause-last
returns-in-Ok-clause-last c =
    let d = c.self.inside.dictionary.now in
    let p = c.self.inside.policy.now in
    c.in-Ok.ensures.last ∙ ap (λ (s : State). meaning_of d p s code.Ok) c.in_ok-store.ensures ∙ ap end_of c.self.view_is
