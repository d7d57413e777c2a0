use Rattle.std.proofs.lemmas.Result.{err_from_is_err_and}
use Rattle.radpolicy_walk.proofs.walk_by.Goals as goal

pub returns-in_err-status : goal.returns-in_err-status
returns-in_err-status c =
    let p = err_from_is_err_and c.from_residual-in_err-status.result c.from_residual-in_err-status.ensures.1 in
    rw (p.1, p.2) (c.in_err-status.ensures c.args.walk.now.files.now.dictionary)
