use Rattle.std.proofs.Common.{Bool, false, length, take, ◌-◌, ap, ◌∙◌, sym, subst, drop}
use Rattle.avp_unlang.specs.Evaluations.{decided}
use Rattle.avp_step.specs.declared.frames.Frame.TheVariants.{Branches}
use Rattle.avp_step.specs.declared.labels.Label.TheVariants as label
use Rattle.avp_step.specs.internal.Courses.{IsMade, with_frame}
use Rattle.avp_step.proofs.Courses.{fits_moved, front}
use Rattle.avp_step.proofs.Fitting.{block_fits, branch_passes, branch_suits_cond, others_fit}
use Rattle.avp_step.proofs.Steppings.{made_over, met_first, unmet_first}
use Rattle.avp_step.proofs.machines.Machine.step_branches.Goals.{then-is_met, else-is_met}
use Rattle.avp_step.proofs.machines.Machine.step_branches.Goals as goal

pub holds-is_met-requires : goal.holds-is_met-requires
holds-is_met-requires g c =
    let split = front c.args.branches.now c.branch-item.result c.in-len1-up.len_at_least c.branch-item.is in
    record {
      at_last = c.requires.ready.at_last;
      suits = branch_suits_cond _ _ _ _ c.args.branches _ _ (record { ref_ptr = c.args.branches.ref_ptr; now = take (length c.args.branches.now - 1) (drop 1 c.args.branches.now) }) split c.requires.fits;
      passes = branch_passes _ _ _ _ c.args.branches _ _ (record { ref_ptr = c.args.branches.ref_ptr; now = take (length c.args.branches.now - 1) (drop 1 c.args.branches.now) }) split c.requires.fits;
    }

pub put-requires-then-is_met : goal.put-requires-then-is_met
put-requires-then-is_met g c =
    let split = front c.args.branches.now c.branch-item.result c.in-len1-up.len_at_least c.branch-item.is in
    fits_moved _ _ _ c.holds-is_met.ensures.same
    (block_fits _ _ _ _ c.args.branches _ _ (record { ref_ptr = c.args.branches.ref_ptr; now = take (length c.args.branches.now - 1) (drop 1 c.args.branches.now) }) split c.requires.fits _ c.as_slice-then-is_met.ensures)

pub put-requires-else-is_met : goal.put-requires-else-is_met
put-requires-else-is_met g c =
    let split = front c.args.branches.now c.branch-item.result c.in-len1-up.len_at_least c.branch-item.is in
    fits_moved _ _ _ c.holds-is_met.ensures.same
    (others_fit _ _ _ _ c.args.branches _ _ _ split c.requires.fits)

pub returns-clause-step : goal.returns-clause-step
returns-clause-step g c =
    let split = front c.args.branches.now c.branch-item.result c.in-len1-up.len_at_least c.branch-item.is in
    let kept = c.holds-is_met.new.self.captures in
    let came = c.holds-is_met.ensures.evaluated in
    let made = λ (answer : Bool). IsMade c.args.last (with_frame (Branches c.args.branches c.args.otherwise) c.args.self.now) (record { label = label.If c.branch-item.result.line answer; code = c.args.last.code; stopped = false }) c.stay.new.self in
    elim c.if-is_met.branch [
      | then-is_met w ↦
          subst made (sym w.if-is_met.true)
          (made_over c.args.self.now c.args.last (Branches c.args.branches c.args.otherwise) _ kept _ _ _ (w.self-is ∙ w.put-then-is_met.ensures ∙ ap (with_frame _) c.holds-is_met.ensures.same) c.requires.ready.at_last c.stay.ensures
          (met_first c.args.self.now c.args.last c.args.branches c.args.otherwise c.requires.running _ (record { ref_ptr = c.args.branches.ref_ptr; now = take (length c.args.branches.now - 1) (drop 1 c.args.branches.now) }) split w.as_slice-then-is_met.result kept (ap (λ b. decided b kept) (sym w.if-is_met.true) ∙ came) w.as_slice-then-is_met.ensures))
      | else-is_met w ↦
          subst made (sym w.if-is_met.false)
          (made_over c.args.self.now c.args.last (Branches c.args.branches c.args.otherwise) _ kept _ _ _ (w.self-is ∙ w.put-else-is_met.ensures ∙ ap (with_frame _) c.holds-is_met.ensures.same) c.requires.ready.at_last c.stay.ensures
          (unmet_first c.args.self.now c.args.last c.args.branches c.args.otherwise c.requires.running _ (record { ref_ptr = c.args.branches.ref_ptr; now = take (length c.args.branches.now - 1) (drop 1 c.args.branches.now) }) split kept (ap (λ b. decided b kept) (sym w.if-is_met.false) ∙ came)))
    ]
