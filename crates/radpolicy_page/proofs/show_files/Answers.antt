use Rattle.std.proofs.lemmas.Result.{err_from_is_err_and}
use Rattle.radpolicy_page.proofs.show_files.Goals as goal

pub returns-in_err-page : goal.returns-in_err-page
returns-in_err-page c =
    let p = err_from_is_err_and c.from_residual-in_err-page.result c.from_residual-in_err-page.ensures.1 in
    rw (p.1, p.2) (c.in_err-page.ensures c.args.files.now.dictionary)
