use Rattle.std.proofs.Common.{◌≡◌, ◌||◌, false, ap, ap₂, arith, subst, sym, ◌∙◌}
use Rattle.avp_lists.specs.History.{History, present}
use Rattle.avp_unlang.proofs.CaptureFree.{or_right}
use Rattle.avp_unlang.proofs.StatementDepths.{spelled_depth}
use Rattle.avp_unlang.proofs.SpelledSuits.{spelled_policy_suits}
use Rattle.avp_unlang.specs.internal.Depth.{depth_of}
use Rattle.avp_unlang.specs.CaptureUse.{uses_captures}
use Rattle.avp_unlang.specs.Meaning.{Outcome, meaning_of}
use Rattle.avp_unlang.specs.Resolutions.{StateFits}
use Rattle.avp_unlang.specs.Sizes.{size_of}
use Rattle.avp_unlang.specs.Suiting.{policy_suits}
use Rattle.avp_unlang.specs.declared.codes.Code.TheVariants as code
use Rattle.avp_dict.specs.Dictionary.{Dictionary}
use Rattle.avp_step.specs.Searches.{Searching}
use Rattle.avp_step.specs.internal.Courses.{Course}
use Rattle.avp_step.proofs.Endings.{start_ending, start_ready}
use Rattle.avp_step.proofs.runs.run_with.Goals as goal

pub new-requires-clause-deep : goal.new-requires-clause-deep
new-requires-clause-deep g c =
    let same : c.as_slice-statements.result.now ≡ c.args.policy.now = c.as_slice-statements.ensures ∙ c.statements.ensures in
    omega (arith, spelled_depth c.args.dictionary.now c.requires.policy.0 c.args.policy.now c.requires.policy.1, ap depth_of same)

pub new-requires-clause-suits : goal.new-requires-clause-suits
new-requires-clause-suits g c =
    ap (policy_suits c.args.dictionary.now) (c.as_slice-statements.ensures ∙ c.statements.ensures)
    ∙ spelled_policy_suits c.args.dictionary.now c.is_sound.ensures.sound c.requires.policy.0 c.args.policy.now c.requires.policy.1

pub run_to_end-requires : goal.run_to_end-requires
run_to_end-requires g c =
    let same : c.as_slice-statements.result.now ≡ c.args.policy.now = c.as_slice-statements.ensures ∙ c.statements.ensures in
    record {
      ready = start_ready _ _ _ c.as_slice-statements.result (g.S.Store.history c.args.store) _ _ c.in-Ok.ensures.start c.size-size.result (c.size-size.ensures.count ∙ ap size_of (sym same)) c.in-Ok.ensures.room;
    }

pub returns-clause-ends : goal.returns-clause-ends
returns-clause-ends g c =
    let same : c.as_slice-statements.result.now ≡ c.args.policy.now = c.as_slice-statements.ensures ∙ c.statements.ensures in
    let h = present (g.S.Store.history c.args.store) in
    let unused = λ (off : (c.args.searches.has_room || c.uses_captures-keeps.result) ≡ false). sym (c.uses_captures-keeps.ensures ∙ ap uses_captures (sym same)) ∙ or_right c.args.searches.has_room c.uses_captures-keeps.result off in
    ap (λ s. let o : Outcome = record { state = present s; code = c.in_ok-last.last.code; stopped = c.in_ok-last.last.stopped } in o) c.into_parts-store.ensures.history
    ∙ c.in_ok-last.ensures.end
    ∙ start_ending _ _ _ c.as_slice-statements.result (g.S.Store.history c.args.store) _ _ c.in-Ok.ensures.start unused
    ∙ ap (λ ss. meaning_of c.args.dictionary.now ss h code.Ok) same

pub returns-clause-fits : goal.returns-clause-fits
returns-clause-fits g c =
    let same = c.in_ok-last.ensures.alike.dictionary ∙ ap (λ (m : Course). m.dictionary) c.in-Ok.ensures.start in
    subst (λ (h : History). StateFits c.args.dictionary.now (present h)) (sym c.into_parts-store.ensures.history)
    (subst (λ (d : Dictionary). StateFits d (present c.run_to_end.new.self.history)) same c.into_parts-store.ensures.fits)

pub returns-clause-kept : goal.returns-clause-kept
returns-clause-kept g c =
    let alike = c.in_ok-last.ensures.alike in
    c.into_parts-store.ensures.searches
    ∙ ap₂ (λ patterns has_room. let s : Searching = record { patterns = patterns; has_room = has_room } in s)
    (alike.patterns ∙ ap (λ (m : Course). m.patterns) c.in-Ok.ensures.start)
    (alike.keeps ∙ ap (λ (m : Course). m.keeps) c.in-Ok.ensures.start ∙ ap (λ uses. c.args.searches.has_room || uses) c.uses_captures-keeps.ensures)
