use Rattle.std.proofs.Common.{Ok, sym}
use Rattle.avp_unlang.specs.Sources.{SourceOf, ValueIs}
use Rattle.avp_unlang.proofs.Determined.{exits}
use Rattle.avp_unlang.proofs.LinesOne.{made_refused, made_stops, value_reads}
use Rattle.avp_unlang.proofs.text.sources.source.Goals as goal

pub returns-in_err-written-clause-read : goal.returns-in_err-written-clause-read
returns-in_err-written-clause-read c =
    value_reads c.args.profile c.args.dictionary.now c.args.operation c.args.target c.args.at.now _ (sym c.if-is_removal.ensures) (sym c.if-is_container.ensures)
    (exits (ValueIs c.args.profile c.args.dictionary.now c.args.target c.args.at.now) _ _ c.from_residual-in_err-written.ensures.1
    (made_stops c.args.profile c.args.dictionary.now c.args.target (SourceOf c.args.profile c.args.dictionary.now c.args.target) c.args.at.now c.in_err-written.field-0.0 c.in_err-written.ensures.read))

pub returns-in_err-source-clause-read : goal.returns-in_err-source-clause-read
returns-in_err-source-clause-read c =
    value_reads c.args.profile c.args.dictionary.now c.args.operation c.args.target c.args.at.now _ (sym c.if-is_removal.ensures) (sym c.if-is_container.ensures)
    (exits (ValueIs c.args.profile c.args.dictionary.now c.args.target c.args.at.now) _ _ c.from_residual-in_err-source.ensures.1
    (made_refused c.args.profile c.args.dictionary.now c.args.target (SourceOf c.args.profile c.args.dictionary.now c.args.target) c.args.at.now c.in_ok-written.written c.in_ok-written.rest c.in_err-source.field-0.0 c.in_ok-written.ensures.read c.in_err-source.ensures.read))

pub returns-clause-read : goal.returns-clause-read
returns-clause-read c =
    value_reads c.args.profile c.args.dictionary.now c.args.operation c.args.target c.args.at.now (Ok (c.in_ok-source.source, c.in_ok-written.rest)) (sym c.if-is_removal.ensures) (sym c.if-is_container.ensures)
    (c.in_ok-written.written, c.in_ok-written.ensures.read, c.in_ok-source.ensures.read)
