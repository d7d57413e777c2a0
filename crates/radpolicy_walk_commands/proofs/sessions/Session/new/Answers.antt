use Rattle.std.proofs.Common.{List, ◌∙◌, ap, map, sym}
use Rattle.avp_dict.specs.Dictionary.{Dictionary}
use Rattle.avp_step.specs.Trace.{trace_of}
use Rattle.avp_step.specs.Walk.{Walk}
use Rattle.avp_unlang.specs.declared.tree.Statement.{Statement}
use Rattle.radpolicy.specs.Starts.{entry_of as lists_of_start}
use Rattle.radpolicy_walk_commands.specs.Steps.{step_of}
use Rattle.radpolicy_walk_commands.proofs.sessions.Session.new.Goals as goal

pub invariant_of-result : goal.invariant_of-result
invariant_of-result c =
    let start = c.args.start in
    let lists = lists_of_start start in
    let dictionary = ap (λ (w : Walk). w.dictionary) c.to_start.ensures ∙ c.in_ok-steps.ensures.dictionary ∙ ap (λ (w : Walk). w.dictionary) c.in_ok-stepper.ensures.start ∙ sym (c.in_ok-redaction.ensures.dictionary ∙ c.dictionary-dictionary.ensures) in
    let trace = ap (λ (w : Walk). w.trace) c.to_start.ensures ∙ c.in_ok-steps.ensures.trace in (
      dictionary,
      c.in_ok-steps.ensures.steps ∙ ap (map step_of) (sym trace),
      (
        lists,
        trace ∙ ap (λ (w : Walk). w.trace) c.in_ok-stepper.ensures.start
            ∙ ap (λ (d : Dictionary). trace_of d start.prepared.statements lists) (sym (c.in_ok-redaction.ensures.dictionary ∙ c.dictionary-dictionary.ensures))
            ∙ ap (λ (ss : List Statement). trace_of c.in_ok-redaction.redaction.dictionary ss lists) (sym c.policy-policy.ensures),
      ),
    )
