use Rattle.std.proofs.Common.{inl, subst}
use Rattle.avp_unlang.specs.Lines.{TargetIs, OpIs, LineIs}
use Rattle.avp_unlang.specs.Between.{Counts}
use Rattle.avp_unlang.specs.Tokens.{next_token}
use Rattle.avp_unlang.specs.RefusedForms.{Lacks, Tells}
use Rattle.avp_unlang.specs.RefusedLines.{LineFails}
use Rattle.avp_unlang.proofs.Determined.{exits, after_on, then_on, then_stops}
use Rattle.avp_unlang.proofs.LinesOne.{Targeted, Operated, Sourced, counts_sure, target_one}
use Rattle.avp_unlang.proofs.RefusedReads.{name_fails, op_fails, source_fails, target_read, target_refused, tells}
use Rattle.avp_unlang.proofs.text.lines.line.Goals as goal

pub returns-in_err-start-clause-refused : goal.returns-in_err-start-clause-refused
returns-in_err-start-clause-refused c =
    tells (Tells (LineFails c.args.profile c.args.dictionary.now c.args.own c.args.at)) _ _ c.from_residual.ensures.1
    (λ some. inl (subst (λ k. Lacks 1 k c.args.at c.in_err-start.field-0.0.left c.in_err-start.field-0.0.kind) c.position-first.ensures.place (c.in_err-start.ensures.refused some)))

pub returns-in_err-found-clause-read : goal.returns-in_err-found-clause-read
returns-in_err-found-clause-read c =
    let first = (next_token c.args.at).1.line in
    exits (LineIs c.args.profile c.args.dictionary.now c.args.own c.args.at) _ _ c.from_residual-in_err-found.ensures.1
    (after_on (Counts 1) (Targeted c.args.profile c.args.dictionary.now first c.args.own) (counts_sure 1) c.args.at c.in_ok-start.start c.in_ok-start.ensures.taken c.in_err-found.field-0.0
    (then_stops (TargetIs c.args.profile c.args.dictionary.now c.args.own) (Operated c.args.profile c.args.dictionary.now first) c.in_ok-start.start c.in_err-found.field-0.0
    (target_refused c.args.profile c.args.dictionary.now c.args.own c.args.at c.in_ok-start.start c.after_reference-begin.result c.in_ok-start.ensures.taken c.after_reference-begin.ensures.same c.in_err-found.field-0.0 c.in_err-found.ensures.read)))

pub returns-in_err-found-clause-refused : goal.returns-in_err-found-clause-refused
returns-in_err-found-clause-refused c =
    tells (Tells (LineFails c.args.profile c.args.dictionary.now c.args.own c.args.at)) _ _ c.from_residual-in_err-found.ensures.1
    (λ some. name_fails c.args.profile c.args.dictionary.now c.args.own c.args.at c.in_ok-start.start c.after_reference-begin.result c.in_ok-start.ensures.taken c.after_reference-begin.ensures.same
    c.in_err-found.field-0.0.left c.in_err-found.field-0.0.kind (c.in_err-found.ensures.refused some))

pub returns-in_err-op-clause-read : goal.returns-in_err-op-clause-read
returns-in_err-op-clause-read c =
    let first = (next_token c.args.at).1.line in
    exits (LineIs c.args.profile c.args.dictionary.now c.args.own c.args.at) _ _ c.from_residual-in_err-op.ensures.1
    (after_on (Counts 1) (Targeted c.args.profile c.args.dictionary.now first c.args.own) (counts_sure 1) c.args.at c.in_ok-start.start c.in_ok-start.ensures.taken c.in_err-op.field-0.0
    (then_on (TargetIs c.args.profile c.args.dictionary.now c.args.own) (Operated c.args.profile c.args.dictionary.now first) (target_one c.args.profile c.args.dictionary.now c.args.own) c.in_ok-start.start c.in_ok-found.found c.in_ok-found.mid
    (target_read c.args.profile c.args.dictionary.now c.args.own c.args.at c.in_ok-start.start c.after_reference-begin.result c.in_ok-start.ensures.taken c.after_reference-begin.ensures.same c.in_ok-found.found c.in_ok-found.mid c.in_ok-found.ensures.read)
    c.in_err-op.field-0.0 (then_stops OpIs (Sourced c.args.profile c.args.dictionary.now first c.in_ok-found.found) c.in_ok-found.mid c.in_err-op.field-0.0 c.in_err-op.ensures.read)))

pub returns-in_err-op-clause-refused : goal.returns-in_err-op-clause-refused
returns-in_err-op-clause-refused c =
    tells (Tells (LineFails c.args.profile c.args.dictionary.now c.args.own c.args.at)) _ _ c.from_residual-in_err-op.ensures.1
    (λ some. op_fails c.args.profile c.args.dictionary.now c.args.own c.args.at c.in_ok-start.start c.after_reference-begin.result c.in_ok-start.ensures.taken c.after_reference-begin.ensures.same
    c.in_ok-found.found c.in_ok-found.mid c.in_ok-found.ensures.read c.in_err-op.field-0.0.left c.in_err-op.field-0.0.kind (c.in_err-op.ensures.refused some))

pub returns-in_err-source-clause-refused : goal.returns-in_err-source-clause-refused
returns-in_err-source-clause-refused c =
    tells (Tells (LineFails c.args.profile c.args.dictionary.now c.args.own c.args.at)) _ _ c.from_residual-in_err-source.ensures.1
    (λ some. source_fails c.args.profile c.args.dictionary.now c.args.own c.args.at c.in_ok-start.start c.after_reference-begin.result c.in_ok-start.ensures.taken c.after_reference-begin.ensures.same
    c.in_ok-found.found c.in_ok-found.mid c.in_ok-found.ensures.read c.in_ok-op.op c.in_ok-op.end c.position-name.result.left c.in_ok-op.ensures.read c.position-name.ensures.place
    c.in_err-source.field-0.0.left c.in_err-source.field-0.0.kind (c.in_err-source.ensures.refused some))
