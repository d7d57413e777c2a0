use Rattle.std.proofs.Common.{◌≡◌, ◌||◌, false, arith, ap, sym, ◌∙◌}
use Rattle.avp_lists.specs.History.{present, state_at}
use Rattle.avp_unlang.proofs.CaptureFree.{or_right}
use Rattle.avp_unlang.proofs.StatementDepths.{spelled_depth}
use Rattle.avp_unlang.proofs.SpelledSuits.{spelled_policy_suits}
use Rattle.avp_unlang.specs.internal.Depth.{depth_of}
use Rattle.avp_unlang.specs.CaptureUse.{uses_captures}
use Rattle.avp_unlang.specs.Evaluations.{evaluated}
use Rattle.avp_unlang.specs.Meaning.{meaning_of}
use Rattle.avp_unlang.specs.Sizes.{size_of}
use Rattle.avp_unlang.specs.PolicyPatterns.{is_among, policy_patterns_pass}
use Rattle.avp_unlang.specs.Suiting.{policy_suits}
use Rattle.avp_unlang.specs.declared.codes.Code.TheVariants as code
use Rattle.avp_step.specs.Walk.{last_outcome}
use Rattle.avp_step.specs.internal.Courses.{Course}
use Rattle.avp_step.specs.internal.Held.{walk_of}
use Rattle.avp_step.proofs.HeldMoves.{start_held}
use Rattle.avp_step.proofs.TraceSizes.{trace_size}
use Rattle.avp_step.proofs.Walks.{trace_last}
use Rattle.avp_step.proofs.steppers.Stepper.new.Goals as goal

pub new-requires-clause-deep : goal.new-requires-clause-deep
new-requires-clause-deep g c =
    let same : c.as_slice-statements.result.now ≡ c.args.policy.now = c.as_slice-statements.ensures ∙ c.statements.ensures in
    omega (arith, spelled_depth c.args.dictionary.now c.requires.policy.0 c.args.policy.now c.requires.policy.1, ap depth_of same)

pub new-requires-clause-suits : goal.new-requires-clause-suits
new-requires-clause-suits g c =
    ap (policy_suits c.args.dictionary.now) (c.as_slice-statements.ensures ∙ c.statements.ensures)
    ∙ spelled_policy_suits c.args.dictionary.now c.is_sound.ensures.sound c.requires.policy.0 c.args.policy.now c.requires.policy.1

pub new-requires-clause-passes : goal.new-requires-clause-passes
new-requires-clause-passes g c =
    ap (policy_patterns_pass (is_among c.in-Ok-searches_of.searches.patterns)) (c.as_slice-statements.ensures ∙ c.statements.ensures) ∙ c.in-Ok-searches_of.ensures

pub invariant_of-result : goal.invariant_of-result
invariant_of-result g c =
    let same : c.as_slice-statements.result.now ≡ c.args.policy.now = c.as_slice-statements.ensures ∙ c.statements.ensures in
    let unused = λ (off : (c.in-Ok-searches_of.searches.has_room || c.uses_captures-keeps.result) ≡ false). sym (c.uses_captures-keeps.ensures ∙ ap uses_captures (sym same)) ∙ or_right c.in-Ok-searches_of.searches.has_room c.uses_captures-keeps.result off in
    start_held _ _ _ c.as_slice-statements.result (g.S.Store.history c.args.store) _ _ _ _ c.size-size.result _ c.in_ok-machine.ensures.start unused c.in-Ok.ensures.items c.put_mark.ensures.items (c.size-size.ensures.count ∙ ap size_of (sym same)) c.in_ok-machine.ensures.room (omega (arith, c.in-Ok.ensures.capacity, c.put_mark.ensures.capacity))

pub returns-clause-last : goal.returns-clause-last
returns-clause-last g c =
    ap (λ (m : Course). last_outcome (walk_of c.as_slice-statements.result.now m 0)) c.in_ok-machine.ensures.start
    ∙ trace_last c.args.dictionary.now c.as_slice-statements.result.now (present (g.S.Store.history c.args.store))
    ∙ ap (λ ss. meaning_of c.args.dictionary.now ss (present (g.S.Store.history c.args.store)) code.Ok) (c.as_slice-statements.ensures ∙ c.statements.ensures)

pub returns-clause-length : goal.returns-clause-length
returns-clause-length g c =
    let m = c.in_ok-machine.machine in
    omega (arith, ap size_of (c.as_slice-statements.ensures ∙ c.statements.ensures), trace_size m.dictionary (evaluated m.dictionary) c.as_slice-statements.result.now (state_at m.history 0))
