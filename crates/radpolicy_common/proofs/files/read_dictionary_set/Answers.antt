use Rattle.std.proofs.Common.{◌<◌, length, rules}
use Rattle.std.proofs.lemmas.Result.{err_from_is_err_and}
use Rattle.radpolicy_common.proofs.FileNames.{of_set, repeated}
use Rattle.radpolicy_common.proofs.files.read_dictionary_set.Goals as goal

pub returns-then-not-has_distinct_names-clause-refused : goal.returns-then-not-has_distinct_names-clause-refused
returns-then-not-has_distinct_names-clause-refused g c =
    repeated c.in_ok-empty_files.field-0 c.args.paths.now c.has_distinct_names.result c.in_ok-empty_files.ensures c.has_distinct_names.ensures c.if-not-has_distinct_names.true

pub returns-in_err-files-clause-refused : goal.returns-in_err-files-clause-refused
returns-in_err-files-clause-refused g c =
    let p = err_from_is_err_and c.from_residual-in_err-files.result c.from_residual-in_err-files.ensures.1 in
    let some : 0 < length c.args.paths.now = search rules in
    rw (p.1, p.2)
    (of_set c.in_ok-empty_files.field-0 c.args.paths.now c.in_err-files.field-0.0 c.in_ok-empty_files.ensures (c.has_distinct_names.ensures.0 c.if-not-has_distinct_names.false) some c.in_err-files.ensures.refused)
