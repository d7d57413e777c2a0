use Rattle.std.proofs.lemmas.Result.{err_from_is_err_and}
use Rattle.avp_dict.specs.internal.Meanings.{context_view, reading_views}
use Rattle.avp_dict.proofs.Passes.{settled_by}
use Rattle.avp_dict.proofs.file.settling.settle.Goals as goal

pub returns-in_err-add_all : goal.returns-in_err-add_all
returns-in_err-add_all c =
    let p = err_from_is_err_and c.from_residual-in_err-add_all.result c.from_residual-in_err-add_all.ensures.1 in
    let lines = reading_views c.args.readings.now in
    rw (p.1, p.2) (rw (settled_by lines (context_view c.args.context) c.in_ok-attributes.attributes _ _ _ c.requires c.in_ok-attributes.ensures c.in_ok-values.ensures c.new.ensures c.new-2.ensures.items) c.in_err-add_all.ensures.refused)
