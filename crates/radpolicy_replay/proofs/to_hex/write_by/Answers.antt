use Rattle.std.proofs.lemmas.Result.{err_from_is_err_and}
use Rattle.radpolicy_replay.proofs.to_hex.write_by.Goals as goal

pub returns-in_err-secrets : goal.returns-in_err-secrets
returns-in_err-secrets c =
    let p = err_from_is_err_and c.from_residual-in_err-secrets.result c.from_residual-in_err-secrets.ensures.1 in
    rw (p.1, p.2) (c.in_err-secrets.ensures c.args.files.now)
