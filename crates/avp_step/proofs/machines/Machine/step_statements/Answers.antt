use Rattle.std.proofs.Common.{◌-◌, length, take, drop, arith, ap, ◌∙◌, refl, subst, sym}
use Rattle.avp_step.specs.declared.frames.Frame.TheVariants.{Statements, Lines, Branches, End}
use Rattle.avp_step.specs.declared.labels.Label.TheVariants as label
use Rattle.avp_step.specs.internal.Courses.{Course, IsMade, with_frame}
use Rattle.avp_step.specs.internal.Frames.{all_skips}
use Rattle.avp_step.specs.internal.Skips.{skips, skips_of}
use Rattle.avp_step.proofs.Courses.{fits_moved, front}
use Rattle.avp_step.proofs.Equations.{skips_If, skips_Update}
use Rattle.avp_step.proofs.Fitting.{body_fits, if_fits}
use Rattle.avp_step.proofs.Steppings.{if_put, made_over, passed_by, transaction_first, update_put, word_first}
use Rattle.avp_step.proofs.machines.Machine.step_statements.Goals as goal

pub put-requires-in-If : goal.put-requires-in-If
put-requires-in-If g c =
    let split = front c.args.statements.now c.statement-item.result c.in-len1-up.len_at_least c.statement-item.is in
    fits_moved _ _ _ c.put.ensures (if_fits _ _ _ _ c.args.statements _ _ split c.requires.fits _ _ _ _ c.in-If.is c.as_slice-in-If.ensures refl)

pub put-requires-in-Transaction-2 : goal.put-requires-in-Transaction-2
put-requires-in-Transaction-2 g c =
    let split = front c.args.statements.now c.statement-item.result c.in-len1-up.len_at_least c.statement-item.is in
    fits_moved _ _ _ (c.put-in-Transaction.ensures ∙ ap (with_frame (End c.in-Transaction.line c.place-place.result)) c.put.ensures) (body_fits _ _ _ _ c.args.statements _ _ split c.requires.fits _ _ _ c.in-Transaction.is _ c.as_slice-in-Transaction.ensures)

pub returns-in-Update-clause-step : goal.returns-in-Update-clause-step
returns-in-Update-clause-step g c =
    let split = front c.args.statements.now c.statement-item.result c.in-len1-up.len_at_least c.statement-item.is in
    let e = c.put-in-Update.ensures ∙ ap (with_frame (Lines c.as_slice.result c.place-place.result)) c.put.ensures in
    let here = c.place-place.ensures ∙ ap (λ (x : Course). x.history.place) c.put.ensures in
    passed_by c.args.self.now c.args.last (Statements c.args.statements) _ _ e (update_put c.args.self.now c.args.last c.args.statements c.requires.running _ (record { ref_ptr = c.args.statements.ref_ptr; now = take (length c.args.statements.now - 1) (drop 1 c.args.statements.now) }) split _ _ _ c.as_slice.result here c.in-Update.is c.as_slice.ensures)

pub returns-in-Update-clause-passed : goal.returns-in-Update-clause-passed
returns-in-Update-clause-passed g c =
    let split = front c.args.statements.now c.statement-item.result c.in-len1-up.len_at_least c.statement-item.is in
    let e = c.put-in-Update.ensures ∙ ap (with_frame (Lines c.as_slice.result c.place-place.result)) c.put.ensures in
    omega (arith, ap (λ (x : Course). all_skips x.frames) e, ap skips_of split, ap skips c.in-Update.is, skips_Update c.in-Update.field-0 c.in-Update.lines)

pub returns-in-If-clause-step : goal.returns-in-If-clause-step
returns-in-If-clause-step g c =
    let split = front c.args.statements.now c.statement-item.result c.in-len1-up.len_at_least c.statement-item.is in
    let e = c.put-in-If.ensures ∙ ap (with_frame (Branches c.as_slice-in-If.result _)) c.put.ensures in
    passed_by c.args.self.now c.args.last (Statements c.args.statements) _ _ e (if_put c.args.self.now c.args.last c.args.statements c.requires.running _ (record { ref_ptr = c.args.statements.ref_ptr; now = take (length c.args.statements.now - 1) (drop 1 c.args.statements.now) }) split _ _ c.as_slice-in-If.result (record { ref_ptr = c.args.statements.ref_ptr; now = c.in-If.otherwise }) c.in-If.is c.as_slice-in-If.ensures refl)

pub returns-in-If-clause-passed : goal.returns-in-If-clause-passed
returns-in-If-clause-passed g c =
    let split = front c.args.statements.now c.statement-item.result c.in-len1-up.len_at_least c.statement-item.is in
    let e = c.put-in-If.ensures ∙ ap (with_frame (Branches c.as_slice-in-If.result _)) c.put.ensures in
    omega (arith, ap (λ (x : Course). all_skips x.frames) e, ap skips_of split, ap skips c.in-If.is, skips_If c.in-If.branches c.in-If.otherwise)

pub returns-in-Transaction-clause-step : goal.returns-in-Transaction-clause-step
returns-in-Transaction-clause-step g c =
    let split = front c.args.statements.now c.statement-item.result c.in-len1-up.len_at_least c.statement-item.is in
    let e = c.put-in-Transaction-2.ensures ∙ ap (with_frame (Statements c.as_slice-in-Transaction.result)) (c.put-in-Transaction.ensures ∙ ap (with_frame (End c.in-Transaction.line c.place-place.result)) c.put.ensures) in
    let here = c.place-place.ensures ∙ ap (λ (x : Course). x.history.place) c.put.ensures in
    made_over c.args.self.now c.args.last (Statements c.args.statements) _ c.args.self.now.captures _ _ _ e c.requires.ready.at_last c.stay.ensures (transaction_first c.args.self.now c.args.last c.args.statements c.requires.running _ (record { ref_ptr = c.args.statements.ref_ptr; now = take (length c.args.statements.now - 1) (drop 1 c.args.statements.now) }) split _ _ _ c.as_slice-in-Transaction.result here c.in-Transaction.is c.as_slice-in-Transaction.ensures)

pub returns-in-Word-clause-step : goal.returns-in-Word-clause-step
returns-in-Word-clause-step g c =
    let split = front c.args.statements.now c.statement-item.result c.in-len1-up.len_at_least c.statement-item.is in
    subst (λ stopped. IsMade c.args.last (with_frame (Statements c.args.statements) c.args.self.now) (record { label = label.Word c.in-Word.line; code = c.in-Word.word; stopped = stopped }) c.stay-in-Word.new.self) (sym c.stops.ensures)
    (made_over c.args.self.now c.args.last (Statements c.args.statements) _ c.args.self.now.captures _ _ _ c.put.ensures c.requires.ready.at_last c.stay-in-Word.ensures (word_first c.args.self.now c.args.last c.args.statements c.requires.running _ (record { ref_ptr = c.args.statements.ref_ptr; now = take (length c.args.statements.now - 1) (drop 1 c.args.statements.now) }) split _ _ c.in-Word.is))
