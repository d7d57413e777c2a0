use Rattle.std.proofs.Common.{ap, Err}
use Rattle.avp_unlang.specs.Captures.{filled}
use Rattle.avp_unlang.specs.Meaning.{edit_of}
use Rattle.avp_unlang.specs.declared.meaning.resolving.Unresolved.TheVariants.{Absent, NotValue, TooLong}
use Rattle.avp_step.proofs.Fitting.{edit_fits, line_edited, line_full, line_unresolved}
use Rattle.avp_step.proofs.lines.edit_by.Goals as goal

pub returns-in-Ok-edit_selected-clause-done : goal.returns-in-Ok-edit_selected-clause-done
returns-in-Ok-edit_selected-clause-done g c =
    line_edited c.args.dictionary.now (filled c.args.captured.now.captures c.args.line.now) (g.S.Store.history c.args.store.now) (g.S.Store.history c.edit_selected.new.self) c.in-Ok.pair (g.met.S.Store.placed c.args.store.now) c.in-Ok.ensures.resolves c.in-Ok-edit_selected.ensures.fits c.in-Ok-edit_selected.ensures.ok

pub returns-in-Ok-edit_selected-clause-fit : goal.returns-in-Ok-edit_selected-clause-fit
returns-in-Ok-edit_selected-clause-fit g c =
    edit_fits c.args.dictionary.now c.args.line.now.selection (edit_of c.args.line.now c.in-Ok.pair) (g.S.Store.history c.args.store.now) (g.S.Store.history c.edit_selected.new.self) (g.met.S.Store.placed c.args.store.now) c.in-Ok-edit_selected.ensures.ok c.in-Ok.ensures.fits c.requires.states

pub returns-in-Err-Full-clause-done : goal.returns-in-Err-Full-clause-done
returns-in-Err-Full-clause-done g c =
    line_full c.args.dictionary.now (filled c.args.captured.now.captures c.args.line.now) (g.S.Store.history c.args.store.now) (g.S.Store.history c.edit_selected.new.self) c.in-Ok.pair c.in-Ok.ensures.resolves (c.in-Err-Full.ensures.full.0 (ap Err c.in-Err-Full.field-0-is)) c.in-Err-Full.ensures.err

pub returns-in-Err-Absent-clause-done : goal.returns-in-Err-Absent-clause-done
returns-in-Err-Absent-clause-done g c =
    line_unresolved c.args.dictionary.now (filled c.args.captured.now.captures c.args.line.now) (g.S.Store.history c.args.store.now) Absent (rw c.in-Err-Absent.field-0-is at c.in-Err-Absent.ensures.resolves)

pub returns-in-Err-NotValue-clause-done : goal.returns-in-Err-NotValue-clause-done
returns-in-Err-NotValue-clause-done g c =
    line_unresolved c.args.dictionary.now (filled c.args.captured.now.captures c.args.line.now) (g.S.Store.history c.args.store.now) NotValue (rw c.in-Err-NotValue.field-0-is at c.in-Err-NotValue.ensures.resolves)

pub returns-in-Err-TooLong-clause-done : goal.returns-in-Err-TooLong-clause-done
returns-in-Err-TooLong-clause-done g c =
    line_unresolved c.args.dictionary.now (filled c.args.captured.now.captures c.args.line.now) (g.S.Store.history c.args.store.now) TooLong (rw c.in-Err-TooLong.field-0-is at c.in-Err-TooLong.ensures.resolves)
