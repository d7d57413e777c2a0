use Rattle.std.proofs.Common.{◌≡◌, [], ◌++◌, ◌∙◌, Err, sym, ap, subst}
use Rattle.std.proofs.lemmas.Result.{err_from_is_err_and}
use Rattle.avp_lists.specs.Meets.{Unless}
use Rattle.avp_dict.specs.Lines.{lines_in}
use Rattle.avp_dict.specs.internal.Refused.{is_memory_refusal}
use Rattle.avp_dict.specs.Readings.{read_lines}
use Rattle.avp_dict.specs.internal.Meanings.{reading_views}
use Rattle.avp_dict.specs.internal.Agreeing.{IsAgreeing}
use Rattle.avp_dict.proofs.AgreeingLines.{none_agreeing}
use Rattle.avp_dict.proofs.LinesRead.{context_of_none}
use Rattle.avp_dict.proofs.Passes.{dictionary_resolved, open_fails, open_refuses, read_fails}
use Rattle.avp_dict.proofs.file.reader.read_set.Goals as goal

pub returns-in_err-read_file-clause-refused : goal.returns-in_err-read_file-clause-refused
returns-in_err-read_file-clause-refused c =
    let p = err_from_is_err_and c.from_residual.result c.from_residual.ensures.1 in
    let files = c.args.files.now in
    let fault = c.in_err-read_file.field-0.0 in
    let refused = subst (λ before. Unless (is_memory_refusal fault) (read_lines c.args.limit files before (lines_in files 9 0 ++ []) ≡ Err fault)) c.requires.read (c.in_err-read_file.ensures.refused []) in
    rw (p.1, p.2) (read_fails c.args.limit files fault refused)

pub returns-in_err-refuse_open-clause-refused : goal.returns-in_err-refuse_open-clause-refused
returns-in_err-refuse_open-clause-refused c =
    let p = err_from_is_err_and c.from_residual-in_err-refuse_open.result c.from_residual-in_err-refuse_open.ensures.1 in
    let files = c.args.files.now in
    let readings = reading_views c.read_file.new.self.readings.items in
    let is_read = ap (λ before. read_lines c.args.limit files before (lines_in files 9 0 ++ [])) (sym c.requires.read) ∙ c.in_ok-read_file.ensures.step [] in
    let opened = ap reading_views c.deref.ensures.value ∙ ap (λ x. x.opened) c.in_ok-read_file.ensures.tracked in
    let left = c.in_err-refuse_open.ensures.left readings in
    rw (p.1, p.2) (open_refuses _ readings c.in_err-refuse_open.field-0.0 _ left (open_fails c.args.limit files readings is_read (reading_views c.deref.result.now) opened c.in_err-refuse_open.field-0.0 left))

pub returns-clause-read : goal.returns-clause-read
returns-clause-read c =
    let files = c.args.files.now in
    let readings = reading_views c.read_file.new.self.readings.items in
    let is_read = ap (λ before. read_lines c.args.limit files before (lines_in files 9 0 ++ [])) (sym c.requires.read) ∙ c.in_ok-read_file.ensures.step [] in
    let opened = ap reading_views c.deref.ensures.value ∙ ap (λ x. x.opened) c.in_ok-read_file.ensures.tracked in
    dictionary_resolved c.args.limit files readings is_read (reading_views c.deref.result.now) opened c.in_ok-refuse_open.ensures.closed

pub read_file-requires-clause-agreeing : goal.read_file-requires-clause-agreeing
read_file-requires-clause-agreeing c = subst IsAgreeing (sym (c.requires.tracked ∙ context_of_none)) none_agreeing
