use Rattle.std.proofs.Common.{◌∙◌, sym, ap}
use Rattle.std.specs.List.{list_all}
use Rattle.avp_dict.specs.Settled.{is_kept_line}
use Rattle.avp_dict.proofs.UsedLines.{all_used}
use Rattle.avp_dict.proofs.file.settling.used.Goals as goal

pub returns-then-are_kept : goal.returns-then-are_kept
returns-then-are_kept c =
    let test = is_kept_line c.args.vendors.now in
    sym (all_used c.args.vendors.now c.args.attributes (ap (list_all test) (sym c.as_slice.ensures.lines) ∙ (sym c.are_kept.ensures ∙ c.if-are_kept.true)))
